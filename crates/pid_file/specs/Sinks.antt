-- What a sink took of the entries of a text, and why no more.
use Rattle.std.specs.Prelude.{◌≡◌, ℕ, List, [], ◌∷◌, ◌++◌, Some, None, Result, Ok, Err, ◌⊎◌, reverse}
use Rattle.pid_file.specs.declared.refusal.ReadRefusal.TheVariants.{Memory}
use Rattle.pid_file.specs.declared.sink.CutEnd.{CutEnd}
use Rattle.pid_file.specs.declared.sink.CutEnd.TheVariants.{Refused, Fault}
use Rattle.pid_file.specs.Numbered.{Numbered, numbered_at, numbered_of}
use Rattle.pid_file.specs.Reading.{refusal_of}

-- the sink took these entries, of which the last is the first here, each by the relation `takes`
abbrev pub Took : {S : Type 0} → (S → Numbered → S → Type 0) → S → List Numbered → S → Type 0
Took takes old [] new = new ≡ old
Took takes old (entry ∷ entries) new = (between : _) × Took takes old entries between
    × takes between entry new

-- the lines up to one were read, none of them is refused, and the sink took their entries
pub record TookSome {S : Type 0} (takes : S → Numbered → S → Type 0) (old : S)
    (lines : List (List ℕ)) (new : S) : Type 0 where
  pub front : List (List ℕ)
  pub after : List (List ℕ)
  pub parts : lines ≡ front ++ after
  pub good : refusal_of front ≡ None
  pub took : Took takes old (numbered_of front) new

-- the lines up to one were read, the sink took their entries, and at the entry of that line, which
-- isn't refused, it had the fault
pub record FaultedAt {S F : Type 0} (takes : S → Numbered → S → Type 0)
    (faults : S → Numbered → F → S → Type 0)
    (old : S) (lines : List (List ℕ)) (fault : F) (new : S) : Type 0 where
  pub front : List (List ℕ)
  pub line : List ℕ
  pub after : List (List ℕ)
  pub parts : lines ≡ front ++ line ∷ after
  pub good : refusal_of (front ++ line ∷ []) ≡ None
  pub entry : Numbered
  pub is_its : numbered_at (reverse front) line ≡ entry ∷ []
  pub between : S
  pub took : Took takes old (numbered_of front) between
  pub faulted : faults between entry fault new

-- what became of the sink at these lines: it took all their entries and none is refused; it took
-- those before the first refusal; memory ran out after some of them; or the sink had a fault at an
-- entry
abbrev pub Ends : {S F X : Type 0} → (S → Numbered → S → Type 0) → (S → Numbered → F → S → Type 0)
    → Result X (CutEnd F) → S → List (List ℕ) → S → Type 0
Ends takes faults (Ok x) old lines new = (refusal_of lines ≡ None)
    × Took takes old (numbered_of lines) new
Ends takes faults (Err (Refused r)) old lines new =
    ((refusal_of lines ≡ Some r) × Took takes old (numbered_of lines) new)
    ⊎ ((r ≡ Memory) × TookSome takes old lines new)
Ends takes faults (Err (Fault f)) old lines new = FaultedAt takes faults old lines f new
