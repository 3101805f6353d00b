-- Serves private functions alone; no promise rests on it.
-- What questions to a holder of names come to.
use Rattle.std.specs.Prelude.{◌≡◌, ℕ, List, Option, Result, IfOk, IfErr}
use Rattle.pid_file.specs.declared.path.Path.{Path}
use Rattle.pid_lookup.specs.declared.names.Names.{Ghosts}
use Rattle.pid_lookup.specs.Found.{name_in_map}
use Rattle.pid_lookup.specs.Questions.{IsStill, OfShown}

module _ {X F : Type 0} (names : Ghosts X F) where
  -- an answer that says this of the names that are shown, or a fault
  pub record AsksNames {A : Type 0} (old new : X) (result : Result A F)
      (Says : (Path → Option (List ℕ)) → A → Type 0) : Type 0 where
    pub found : OfShown names old new (λ s. IfOk result (Says (name_in_map (names.map_of s))))
    -- the fault is one with which the holder may fail
    pub fault : IfErr result (λ f. names.may_give old f)
    -- and has its cause since any start, since which the holder was only asked
    pub caused : OfShown names old new (λ s. (start : X) → names.only_asked start old
        → IfErr result (λ f. names.has_cause start new f))
    pub kept : IsStill names old new

  -- an answer that is wanted of the names that are shown, or a fault
  abbrev pub AsksNamesFor : {A : Type 0} → X → X → Result A F
      → ((Path → Option (List ℕ)) → A) → Type 0
  AsksNamesFor old new result wanted =
      AsksNames old new result (λ named answer. answer ≡ wanted named)

  -- the same, and it comes to an answer only if the holder may answer
  pub record AsksHolder {A : Type 0} (old new : X) (result : Result A F)
      (Says : (Path → Option (List ℕ)) → A → Type 0) : Type 0 where
    pub asks : AsksNames old new result Says
    pub allowed : IfOk result (λ _. names.may_tell old)

  abbrev pub AsksHolderFor : {A : Type 0} → X → X → Result A F
      → ((Path → Option (List ℕ)) → A) → Type 0
  AsksHolderFor old new result wanted =
      AsksHolder old new result (λ named answer. answer ≡ wanted named)
