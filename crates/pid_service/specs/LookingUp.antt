-- What a registry answers to a look-up, over the names of the history that it shows.
use Rattle.std.specs.Prelude.{◌≡◌, ◌≢◌, ◌↔◌, ℕ, true, false, Result, Err, IsErrOf, IsNone}
use Rattle.pid_lookup.specs.declared.answer.Answer.{Answer}
use Rattle.pid_lookup.specs.declared.answering.LookupRefusal.{LookupRefusal}
use Rattle.pid_lookup.specs.declared.answering.LookupRefusal.TheVariants.{BadFlags, Names}
use Rattle.pid_lookup.specs.declared.args.Args.{Args}
use Rattle.pid_lookup.specs.Flags.{is_bad, switches_of, request_of}
use Rattle.pid_lookup.specs.Told.{IsToldBy}
use Rattle.pid_moderation.specs.declared.refusal.Refusal.{Refusal}
use Rattle.pid_moderation.specs.declared.refusal.Refusal.TheVariants.{Failed}
use Rattle.pid_moderation.specs.History.{History}
use Rattle.pid_moderation.specs.Writes.{tree_of}
use Rattle.pid_tables.specs.declared.database.Database.{Ghosts}
use Rattle.pid_service.specs.declared.registry.Registry.{Registry}
use Rattle.pid_service.specs.Asking.{FaultIsCaused, MayGive}
use Rattle.pid_service_laws.specs.Calls.{nothing_sent}
use Rattle.pid_service_laws.specs.Moderating.{LooksUp}
use Rattle.pid_service_laws.specs.Registries.{Does}
use Rattle.pid_service.specs.Histories.{OverHistory, Shows, showing}
use Rattle.pid_service.specs.Registries.{OnlyReads, is_live}

-- A look-up by flags and arguments, for a buffer of this size.
pub record IsLookedUp {S : Type 0} (database : Ghosts S) (old new : Registry S database) (flags : ℕ)
    (args : Args) (size : ℕ) (result : Result Answer (LookupRefusal Refusal)) : Type 0 where
  -- a registry that has failed answers nothing else, before bad flags
  pub failed : is_live old ≡ false → (result ≡ Err (Names Failed)) × (new ≡ old)
  pub lives : is_live new ≡ is_live old
  pub rests : OnlyReads database old new
  -- in a session it is a call that sends nothing
  pub calls : Does (showing database) old nothing_sent new
  pub answer : OverHistory database old new (λ h. LooksUp result (tree_of h) flags args size)
  pub shown : (h : History) → Shows database old h → Shows database new h
  pub bad_flags : is_live old ≡ true → (IsErrOf result BadFlags ↔ (is_bad flags ≡ true))
  pub fault : (f : Refusal) → IsErrOf result (Names f) → MayGive (is_live old) f
  -- the fault has its cause in the call, or before
  pub caused : OverHistory database old new
      (λ h. (f : Refusal) → IsErrOf result (Names f) → FaultIsCaused database old new f)
  -- No name is asked for if only numbers are wanted, or if the request is for nothing.
  pub unasked : is_live old ≡ true → (switches_of flags).numeric ≡ true → (f : Refusal)
      → result ≢ Err (Names f)
  pub unrequested : is_live old ≡ true → IsNone (request_of flags) → (f : Refusal)
      → result ≢ Err (Names f)
  -- And if one must be asked for, only a live registry answers, or runs out of memory for it.
  pub told : IsToldBy (is_live old ≡ true) flags result
