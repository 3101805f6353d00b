-- Whether a registry with a journal is live, as its trait asks.
use Rattle.std.proofs.Common.{◌≡◌, ◌⊎◌, inl, inr, Bool, true, false, refl}
use Rattle.std.specs.Prelude.{not, ◌&&◌}
use Rattle.pid_service_laws.specs.Questions.{ShowsWhileLive}
use Rattle.pid_service_laws.specs.declared.registry_calls.RegistryCalls.{Ghosts}
use Rattle.pid_journal.specs.declared.file.JournalFile as files
use Rattle.pid_journal.specs.Pairs.{pair_is_live, pair_showing}

pub both_live : (failed live : Bool) → failed ≡ false → live ≡ true → (not failed && live) ≡ true
both_live failed live settled lives = λ i. not (settled i) && lives i

one_off : (failed live : Bool) → live ≡ false → (not failed && live) ≡ false
one_off true live off = refl
one_off false live off = off

-- one that is off counts as failed, or its registry has failed
pub off_either : (failed live : Bool) → (not failed && live) ≡ false → (failed ≡ true) ⊎ (live ≡ false)
off_either true live off = inl refl
off_either false live off = inr off

-- of one that has no entry left it is the registry
pub off_alone : (failed live : Bool) → failed ≡ false → (failed ≡ true) ⊎ (live ≡ false) → live ≡ false
off_alone failed live settled (inl down) = absurd cc
off_alone failed live settled (inr off) = off

-- one that counts as failed, or whose registry has failed
pub either_fails : {A B : Type 0} (failed live : Bool) → ((failed ≡ true) × A) ⊎ B
    → (B → live ≡ false) → (not failed && live) ≡ false
either_fails failed live (inl left) off = λ i. not (left.0 i) && live
either_fails failed live (inr down) off = one_off failed live (off down)

-- one that has no entry left is off by its registry
pub registry_off : (failed live : Bool) → failed ≡ false → (not failed && live) ≡ false
    → live ≡ false
registry_off true live settled off = absurd cc
registry_off false live settled off = off

module _ {R J : Type 0} (registry : Ghosts R) (file : files.Ghosts J) where
  pub pair_lives : ShowsWhileLive registry.showing registry.is_live
      → ShowsWhileLive (pair_showing registry file) (pair_is_live registry file)
  pair_lives lives = record {
    shown = λ p h shows.
        both_live p.failed (registry.is_live p.registry) shows.1.settled
        (lives.shown p.registry h shows.1.shown);
    fallen = λ p h next fails.
        either_fails p.failed (registry.is_live p.registry) fails.1.fails
        (λ down. lives.fallen p.registry h next down.1);
  }
