-- What a text reads to, and where it is refused. The limit of 100,000 entries is a choice of this
-- project.
use Rattle.std.specs.Prelude.{◌≡◌, ℕ, ◌+◌, List, [], ◌∷◌, length, reverse, nat_le, ◌&&◌}
use Rattle.std.specs.Prelude.{if◌then◌else◌, Option, Some, None, is_some}
use Rattle.std.specs.FinMap.{from_entries}
use Rattle.pid_file.specs.declared.fault_kind.LineKind.{LineKind}
use Rattle.pid_file.specs.Trees.{TreeMap}
use Rattle.pid_file.specs.declared.refusal.ReadRefusal.{ReadRefusal}
use Rattle.pid_file.specs.declared.refusal.ReadRefusal.TheVariants.{Line, TooManyEntries}
use Rattle.pid_file.specs.Lines.{lines_of}
use Rattle.pid_file.specs.LookingBack.{Item, is_entry, entries_back}
use Rattle.pid_file.specs.Faults.{fault_of}

-- no line has a fault
abbrev pub AreGood : List (List ℕ) → Type 0
AreGood [] = Unit {0}
AreGood (line ∷ earlier) = (fault_of earlier line ≡ None) × AreGood earlier

-- the text's lines, the last one first
abbrev pub history_of : List ℕ → List (List ℕ)
history_of text = reverse (lines_of text)

-- the text reads to this tree: no line has a fault, and the tree has the path and the name of each
-- entry
pub record Reads (text : List ℕ) (t : TreeMap) : Type 0 where
  pub good : AreGood (history_of text)
  pub tree : t ≡ from_entries (entries_back (history_of text))

abbrev pub ENTRIES : ℕ
ENTRIES = 100000

-- what is refused at a line that has this fault or none: a fault with the line's number, or one
-- entry too many
abbrev pub refused_at : List (List ℕ) → List ℕ → Option LineKind → Option ReadRefusal
refused_at earlier line (Some kind) = Some (Line (length earlier + 1) kind)
refused_at earlier line None = if is_entry earlier line && nat_le ENTRIES
    (length (entries_back earlier)) then Some TooManyEntries else None

abbrev pub or_else : Option ReadRefusal → Option ReadRefusal → Option ReadRefusal
or_else (Some r) other = Some r
or_else None other = other

-- the first refusal from some line on, with the lines before it, the nearest first
abbrev pub refused_from : List (List ℕ) → List (List ℕ) → Option ReadRefusal
refused_from earlier [] = None
refused_from earlier (line ∷ lines) = or_else (refused_at earlier line (fault_of earlier line))
    (refused_from (line ∷ earlier) lines)

-- the first refusal of lines
abbrev pub refusal_of : List (List ℕ) → Option ReadRefusal
refusal_of lines = refused_from [] lines

-- the first refusal of a text
abbrev pub refused : List ℕ → Option ReadRefusal
refused text = refusal_of (lines_of text)

-- the lines before the first that is refused, after others, the last one first
abbrev pub read_from : List (List ℕ) → List (List ℕ) → List (List ℕ)
read_from earlier [] = earlier
read_from earlier (line ∷ lines) = if is_some
    (refused_at earlier line (fault_of earlier line)) then earlier else read_from
    (line ∷ earlier) lines

-- the entries of lines before the first refusal, the last one first
abbrev pub entries_of : List (List ℕ) → List Item
entries_of lines = entries_back (read_from [] lines)
