-- How a whole text is judged: first its length, and then its lines. The limit is a choice of this
-- project.
use Rattle.std.specs.Prelude.{◌≡◌, ℕ, ◌<◌, ◌≤◌, List, length, Some, None}
use Rattle.pid_file.specs.Trees.{TreeMap}
use Rattle.pid_file.specs.declared.refusal.ReadRefusal.TheVariants as refusals
use Rattle.pid_file.specs.Reading.{Reads, refused}
use Rattle.pid_file.specs.declared.text_end.TheConstants.{LARGEST}
use Rattle.pid_file.specs.declared.text_end.TextEnd.{TextEnd}
use Rattle.pid_file.specs.declared.text_end.TextEnd.TheVariants.{Done, Line, TooManyEntries}
use Rattle.pid_file.specs.declared.text_end.TextEnd.TheVariants.{TooLarge, Memory, ReadFault}
use Rattle.pid_file.specs.declared.text_end.TextEnd.TheVariants.{WriteFault}

-- the text is good: it is short enough, and nothing in it is refused
pub record IsGood (text : List ℕ) : Type 0 where
  pub short : length text ≤ LARGEST
  pub good : refused text ≡ None

-- the text is short enough, nothing in it is refused, and it reads to the tree
pub record ReadsWithin (text : List ℕ) (t : TreeMap) : Type 0 where
  pub short : length text ≤ LARGEST
  pub good : refused text ≡ None
  pub reads : Reads text t

-- the end of a text with a fault: too large before any line is judged, else the first refusal; or
-- out of memory, which may happen to any text
abbrev pub IsFaultOf : TextEnd → List ℕ → Type 0
IsFaultOf (Line line kind) text = (length text ≤ LARGEST)
    × (refused text ≡ Some (refusals.Line line kind))
IsFaultOf TooManyEntries text = (length text ≤ LARGEST)
    × (refused text ≡ Some refusals.TooManyEntries)
IsFaultOf TooLarge text = LARGEST < length text
IsFaultOf Memory text = Unit {0}
IsFaultOf Done text = ⊥
IsFaultOf ReadFault text = ⊥
IsFaultOf WriteFault text = ⊥
