-- Of which holders of names the ends of a look-up come: a choice of this project.
use Rattle.std.specs.Prelude.{◌≡◌, ◌≢◌, ℕ, true, false, Result, Ok, Err}
use Rattle.std.specs.Prelude.{IsErrOf, IsNone, IsSome, ⊤}
use Rattle.pid_lookup.specs.declared.answering.LookupRefusal.{LookupRefusal}
use Rattle.pid_lookup.specs.declared.answering.LookupRefusal.TheVariants.{BadFlags, Names, Memory}
use Rattle.pid_lookup.specs.Flags.{switches_of, request_of}

-- a name must be asked for: the flags are not bad, more than numbers is wanted, and there is a
-- request
abbrev pub NeedsNames : ℕ → Type 0
NeedsNames flags = ((switches_of flags).numeric ≡ false) × IsSome (request_of flags)

-- An answer, or no memory for it, comes only if the holder may answer; bad flags and a fault
-- of the holder come of any.
abbrev pub TellsOnlyIf : {A F : Type 0} → Type 0 → Result A (LookupRefusal F) → Type 0
TellsOnlyIf may (Ok answer) = may
TellsOnlyIf may (Err BadFlags) = ⊤
TellsOnlyIf may (Err (Names fault)) = ⊤
TellsOnlyIf may (Err Memory) = may

-- if a name must be asked for, a look-up has an answer only of a holder that may answer
abbrev pub IsToldBy : {A F : Type 0} → Type 0 → ℕ → Result A (LookupRefusal F) → Type 0
IsToldBy may flags result = NeedsNames flags → TellsOnlyIf may result

-- What a look-up takes of a holder of names.
pub record AsksWhereNeeded {A F : Type 0} (may_give : F → Type 0) (may_tell : Type 0) (flags : ℕ)
    (result : Result A (LookupRefusal F)) : Type 0 where
  -- a fault of the holder is one with which it may fail
  pub fault : (f : F) → IsErrOf result (Names f) → may_give f
  -- none comes if only numbers are wanted
  pub unasked : (switches_of flags).numeric ≡ true → (f : F) → result ≢ Err (Names f)
  -- nor if there is no request
  pub unrequested : IsNone (request_of flags) → (f : F) → result ≢ Err (Names f)
  -- if a name must be asked for, an answer comes only of a holder that may answer
  pub told : IsToldBy may_tell flags result
