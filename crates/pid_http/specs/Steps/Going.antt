-- How a call leads on from what is known of a registry.
use Rattle.std.specs.Prelude.{◌≡◌, false, List, [], ◌∷◌, ◌++◌}
use Rattle.std.proofs.Common.{refl, sym, subst, ◌∙◌}
use Rattle.pid_service_laws.specs.declared.registry_calls.RegistryCalls.{Ghosts}
use Rattle.pid_service_laws.specs.Calls.{Call}
use Rattle.pid_service_laws.specs.Registries.{CallsLead, Showing}
use Rattle.pid_http_stream.specs.Leading.{Leads}
use Rattle.pid_http.specs.Known.{Known, IsKnownOf, LivesOn}

module _ {R : Type 0} (registry : Ghosts R) where
  -- Calls of its session led from the one to the other, and while the disk returns what was
  -- written, what was known leads by these calls on to what is known then.
  pub record Goes (old new : R)
      (Next : Known → List Call → Known → Type 0) : Type 0 where
    pub lives : LivesOn registry old new
    pub served : Leads registry.showing.is_clean (IsKnownOf registry) old new
        (λ k now. Next k lives.calls now)

-- From here on proofs: calls after calls, and the laws that what answers streams has for `stays`
-- and `joins`.
pub calls_join : {R : Type 0} (w : Showing R) (a b c : R) (first more : List Call)
    → CallsLead w a first b → CallsLead w b more c → CallsLead w a (first ++ more) c
calls_join w a b c [] more same leads = subst (λ r. CallsLead w r more c) same leads
calls_join w a b c (call ∷ calls) more (between, does, leads) further =
    (between, does, calls_join w between b c calls more leads further)

module _ {R : Type 0} {registry : Ghosts R} where
  -- without a call it is the same session
  pub lives_still : (r : R) → LivesOn registry r r
  lives_still r = record { rests = λ off. refl; calls = []; lead = refl }

  -- some calls and then others are calls
  pub lives_further : (a b c : R) → LivesOn registry a b → LivesOn registry b c
      → LivesOn registry a c
  lives_further a b c p q = record {
    rests = λ off. q.rests (subst (λ r. registry.is_live r ≡ false) (sym (p.rests off)) off) ∙ p.rests off;
    calls = p.calls ++ q.calls;
    lead = calls_join registry.showing a b c p.calls q.calls p.lead q.lead;
  }
