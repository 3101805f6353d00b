use Rattle.std.specs.Prelude.{◌≡◌, ℕ, Bool, List, Option}
use Rattle.std.proofs.Common.{refl, rules, subst, sym, ap, ◌∙◌}
use Rattle.pid_cli_args.specs.declared.job.ServeArgs.{ServeArgs}
use Rattle.pid_http_stream.specs.declared.listener.serving.Serving.{Serving}
use Rattle.pid_cli_jobs.specs.Jobs.{Offers, Served, Unbound, Unheard, Unrouted}
use Rattle.pid_cli_jobs.specs.Lines.{Streams}
use Rattle.pid_cli_jobs.specs.declared.job_end.JobEnd.{JobEnd}
use Rattle.pid_cli_jobs.proofs.serving.serve_listener.Goals as goal

module _ {L T R : Type 0} (port_of : L → ℕ) (IsServing : L → Option (List ℕ) → Serving → Type 0)
    (held : T → R) (is_live : R → Bool) where
  -- what is said of a server is said of the registry that it holds, and hands back
  handed_back : (words : ServeArgs) (first last : T) (new : R) (w : Streams) (end : JobEnd)
      → held last ≡ new → Offers port_of IsServing (λ s. is_live (held s)) words (first, last) w end
      → Offers port_of IsServing is_live words (held first, new) w end
  handed_back words first last new w end is (Unbound same reports) =
      Unbound (sym is ∙ ap held same) reports
  handed_back words first last new w end is (Unrouted same reports) =
      Unrouted (sym is ∙ ap held same) reports
  handed_back words first last new w end is (Unheard same fails silent failed) =
      Unheard (sym is ∙ ap held same) fails silent failed
  handed_back words first last new w end is (Served s) = subst
      (λ r. Offers port_of IsServing is_live words (held first, r) w end) is
      (Served (record {
        listener = s.listener;
        at_port = s.at_port;
        between = s.between;
        listens = s.listens;
        serving = s.serving;
        serves = s.serves;
        counted = s.counted;
        lasts = s.lasts;
        reports = s.reports;
      }))

pub returns-in_default-clause-offers : goal.returns-in_default-clause-offers
returns-in_default-clause-offers g c = Unrouted refl (refl, c.report_memory.ensures)

pub returns-clause-offers : goal.returns-clause-offers
returns-clause-offers g c =
    let name = c.give_streams.ensures.goes.0 in
    handed_back g.M.Machine.port_of g.M.Machine.is_serving (λ s. s.registry.now)
    g.G.Registry.RegistryCalls.is_live c.args.words.now _ _ _ _ _ (search rules) c.give_streams.ensures.offers
