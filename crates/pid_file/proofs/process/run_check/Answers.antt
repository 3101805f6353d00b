use Rattle.std.proofs.Common.{◌≡◌, Option, List, ℕ, IfSome, sym, ap, subst, ◌∙◌}
use Rattle.pid_file.specs.Checked.{IsChecked}
use Rattle.pid_file.specs.ExitStatuses.{GotChecked}
use Rattle.pid_file.specs.Tidied.{Writers}
use Rattle.pid_file.proofs.Flushed.{got_checked, map_some}
use Rattle.pid_file.proofs.Reported.{keeps_same}
use Rattle.pid_file.proofs.process.run_check.Goals as goal

pub returns : goal.returns
returns g c =
    let wrote : Writers = record {
      output = g.O.Write.contents c.args.output;
      output_after = g.O.Write.contents c.into_inner-output.result;
      faults = g.F.Write.contents c.args.faults;
      faults_after = g.F.Write.contents c.into_inner-faults.result;
    } in
    let before : g.O.Write.contents c.new-output.result.inner.inner ≡ g.O.Write.contents c.args.output = ap (λ w. g.O.Write.contents w.inner) c.new-output.ensures.wraps ∙ ap g.O.Write.contents c.new.ensures.inner in
    let after : g.O.Write.contents c.check-end.new.output.inner.inner ≡ g.O.Write.contents c.into_inner-output.result = ap (λ w. g.O.Write.contents w.inner) (sym c.into_inner-watched.ensures) ∙ ap g.O.Write.contents (sym c.into_inner-output.ensures) in
    let checked : IfSome (g.I.Read.remaining c.args.input) (λ text. IsChecked c.check-end.result text (g.O.Write.contents c.new-output.result.inner.inner) (g.O.Write.contents c.check-end.new.output.inner.inner)) =
    subst (λ x. IfSome (g.I.Read.remaining x) (λ text. IsChecked c.check-end.result text (g.O.Write.contents c.new-output.result.inner.inner) (g.O.Write.contents c.check-end.new.output.inner.inner))) c.new-input.ensures.wraps c.check-end.ensures.checked in
    map_some (g.I.Read.remaining c.args.input) (λ text t. subst (λ s. GotChecked text s wrote) (sym c.status-status.ensures.status)
    (got_checked c.check-end.result text wrote
    (subst (λ (k : Option (List ℕ)). IsChecked c.check-end.result text k wrote.output_after) before
    (subst (λ (k : Option (List ℕ)). IsChecked c.check-end.result text (g.O.Write.contents c.new-output.result.inner.inner) k) after t))
    (λ good. keeps_same _ _ (ap g.F.Write.contents c.into_inner-faults.ensures ∙ c.status-status.ensures.silent good ∙ ap g.F.Write.contents c.new-faults.ensures.wraps)))) checked
