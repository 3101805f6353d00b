-- A registry that is prepared past its journal.
use Rattle.std.specs.Prelude.{◌≡◌, Bool, false, not, ◌&&◌}
use Rattle.std.proofs.Common.{inl, inr, ap}
use Rattle.pid_moderation.specs.History.{History}
use Rattle.pid_service_laws.specs.Calls.{nothing_sent}
use Rattle.pid_service_laws.specs.Registries.{Does, Showing}
use Rattle.pid_service_laws.specs.declared.registry_calls.RegistryCalls.{Ghosts}
use Rattle.pid_journal.specs.declared.file.JournalFile as files
use Rattle.pid_journal.specs.declared.journaled.Journaled.{Journaled}
use Rattle.pid_journal.specs.Pairs.{pair_is_live, pair_showing}
use Rattle.pid_journal.proofs.Pairing.{looks_on}
use Rattle.pid_cli_jobs.specs.Sessions.{IsPrepared}

-- a call that sends nothing leaves the history that it found
still_shown : {R : Type 0} (w : Showing R) (old new : R) → Does w old nothing_sent new
    → w.is_clean new → (h : History) → w.shows old h → w.shows new h
still_shown w old new does clean h shows = elim (does.live clean h shows).1 [
  | inl shown ↦ shown
  | inr (c, stopped, fails) ↦ let none : ⊥ = cc in absurd none
]

-- the registry of a pair in which no entry is left was prepared
module _ {R J : Type 0} (registry : Ghosts R) (file : files.Ghosts J) (p : Journaled R J) (r : R)
    (prepared : IsPrepared registry p.registry r) where
  pub pair_asked : p.failed ≡ false
      → Does (pair_showing registry file) p nothing_sent (record p { registry = r })
  pair_asked settled = looks_on registry file p r prepared.calls
      (still_shown registry.showing p.registry r prepared.calls) settled

  pub pair_lives : pair_is_live registry file (record p { registry = r })
      ≡ pair_is_live registry file p
  pair_lives = ap (λ (live : Bool). not p.failed && live) prepared.lives
