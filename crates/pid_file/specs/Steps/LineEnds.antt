-- What became of a sink at one more line.
-- Serves private functions alone; no promise rests on it.
use Rattle.std.specs.Prelude.{◌≡◌, ℕ, List, [], ◌∷◌, Option, None, Result, Ok, Err}
use Rattle.pid_file.specs.declared.refusal.ReadRefusal.{ReadRefusal}
use Rattle.pid_file.specs.declared.sink.CutEnd.{CutEnd}
use Rattle.pid_file.specs.declared.sink.CutEnd.TheVariants.{Refused, Fault}
use Rattle.pid_file.specs.Numbered.{Numbered, numbered_at}
use Rattle.pid_file.specs.Refusals.{IsRefusal}
use Rattle.pid_file.specs.Sinks.{Took}
use Rattle.pid_file.specs.Faults.{fault_of}
use Rattle.pid_file.specs.Reading.{refused_at}

-- what is refused at a line after others
abbrev pub refusal_at : List (List ℕ) → List ℕ → Option ReadRefusal
refusal_at earlier line = refused_at earlier line (fault_of earlier line)

-- it is not refused, and the sink took its entry, if it is one
pub record TookLine {S : Type 0} (takes : S → Numbered → S → Type 0) (earlier : List (List ℕ))
    (line : List ℕ) (old new : S) : Type 0 where
  pub good : refusal_at earlier line ≡ None
  pub took : Took takes old (numbered_at earlier line) new

-- it is refused, or memory ran out, and the sink is as before
pub record RefusedLine {S : Type 0} (r : ReadRefusal) (earlier : List (List ℕ)) (line : List ℕ)
    (old new : S) : Type 0 where
  pub refused : IsRefusal r (refusal_at earlier line)
  pub kept : new ≡ old

-- it is not refused, and the sink had the fault at its entry
pub record FaultedLine {S F : Type 0} (faults : S → Numbered → F → S → Type 0) (fault : F)
    (earlier : List (List ℕ)) (line : List ℕ) (old new : S) : Type 0 where
  pub good : refusal_at earlier line ≡ None
  pub entry : Numbered
  pub is_its : numbered_at earlier line ≡ entry ∷ []
  pub faulted : faults old entry fault new

abbrev pub LineEnds : {S F X : Type 0} → (S → Numbered → S → Type 0)
    → (S → Numbered → F → S → Type 0) → Result X (CutEnd F) →
    List (List ℕ) → List ℕ → S → S → Type 0
LineEnds takes faults (Ok x) earlier line old new = TookLine takes earlier line old new
LineEnds takes faults (Err (Refused r)) earlier line old new = RefusedLine r earlier line old new
LineEnds takes faults
    (Err (Fault f)) earlier line old new = FaultedLine faults f earlier line old new
