-- What is made of an input that is read to its end, up to a limit of bytes.
use Rattle.std.specs.Prelude.{◌≡◌, ◌⊎◌, ℕ, ◌+◌, ◌≤◌, List, length, Option, Result, Ok, Err, IsSome}
use Rattle.std.specs.Io.KnownBytes.{Consumes, IsAtEnd}
use Rattle.pid_file.specs.Lines.{lines_of}
use Rattle.pid_file.specs.Numbered.{Numbered}
use Rattle.pid_file.specs.Sinks.{TookSome, FaultedAt, Ends}
use Rattle.pid_file.specs.declared.io.Input.{Ghosts}
use Rattle.pid_file.specs.declared.whole_input.InputEnd.{InputEnd}
use Rattle.pid_file.specs.declared.whole_input.InputEnd.TheVariants.{ReadFault, TooLong, Cut}
use Rattle.pid_file.specs.declared.whole_input.SkipEnd.{SkipEnd}
use Rattle.pid_file.specs.declared.whole_input.SkipEnd.TheVariants as skips

-- what is left of an input of which at most so many bytes, and one more, were read
pub record LeavesInput {X : Type 0} (input : Ghosts X) (limit : ℕ) (old new : X) (failed : Type 0)
    : Type 0 where
  pub stops : (front : List ℕ) × Consumes (input.to_come old) (input.to_come new) front
      × (length front ≤ limit + 1)
  -- it has failed exactly if the reader keeps a fault
  pub fault : failed → IsSome (input.read_fault new)
  pub fault_first : IsSome (input.read_fault new) → failed
  -- and nothing but reading was done to it
  pub goes : input.goes old new

-- the text was read whole: nothing is left after it, and it is short enough
pub record IsWhole (limit : ℕ) (rest : Option (List ℕ)) (text : List ℕ) : Type 0 where
  pub at_end : IsAtEnd rest
  pub short : length text ≤ limit

-- the sink took the entries of the lines up to one, none of which is refused, or it had a fault at
-- the entry of one
abbrev pub TookOrFaulted : {S F : Type 0} → (S → Numbered → S → Type 0)
    → (S → Numbered → F → S → Type 0) → S → List (List ℕ) → S → Type 0
TookOrFaulted {S} {F} takes faults old lines new = TookSome takes old lines new
    ⊎ ((fault : F) × FaultedAt takes faults old lines fault new)

-- the whole text was cut; or it is too long, and no more of it was read than shows that; or the
-- input failed after it
abbrev pub CutsInput : {S F X : Type 0} → (S → Numbered → S → Type 0)
    → (S → Numbered → F → S → Type 0) → ℕ → Result X (InputEnd F) →
    Option (List ℕ) → List ℕ → S → S → Type 0
CutsInput takes faults limit (Ok x) rest text old new = IsWhole limit rest text
    × Ends {X = Unit {0}} takes faults (Ok tt) old (lines_of text) new
CutsInput takes faults limit (Err (Cut end)) rest text old new = IsWhole limit rest text
    × Ends {X = Unit {0}} takes faults (Err end) old (lines_of text) new
CutsInput takes faults limit (Err TooLong) rest text old new = (length text ≡ limit + 1)
    × TookOrFaulted takes faults old (lines_of text) new
CutsInput takes faults limit (Err ReadFault) rest text old new = (length text ≤ limit)
    × TookOrFaulted takes faults old (lines_of text) new

-- the same of a text that nobody wants
abbrev pub SkipsInput : {X : Type 0} → ℕ → Result X SkipEnd → Option (List ℕ) → List ℕ → Type 0
SkipsInput limit (Ok x) rest text = IsWhole limit rest text
SkipsInput limit (Err skips.TooLong) rest text = length text ≡ limit + 1
SkipsInput limit (Err skips.ReadFault) rest text = length text ≤ limit
