-- What a line says, read with the lines before it, the nearest first: its head, its parent line,
-- its entry. pci.ids(5) and the syntax header of the published file: a device belongs to the vendor
-- above it, a subsystem to the device above it.
use Rattle.std.specs.Prelude.{ℕ, suc, Bool, not, ◌&&◌, List, [], ◌∷◌, ◌++◌, nat_lt, ◌==◌}
use Rattle.std.specs.Prelude.{if◌then◌else◌, Option, Some, None, unwrap_or, find, is_some}
use Rattle.std.specs.FinMap.Entries.{find as value_at}
use Rattle.pid_file.specs.Trees.{text_cmp}
use Rattle.pid_file.specs.declared.line.Mark.{Mark}
use Rattle.pid_file.specs.Marks.{is_idle, depth, mark, is_unknown, is_generics, inside}
use Rattle.pid_file.specs.Levels.{front, widths}
use Rattle.pid_file.specs.Columns.{digits_in, name_in}

-- a line that isn't idle, of a depth below n
abbrev pub is_above : ℕ → List ℕ → Bool
is_above n line = not (is_idle line) && nat_lt (depth line) n

-- the nearest such line
abbrev pub above : ℕ → List (List ℕ) → Option (List ℕ)
above n earlier = find (is_above n) earlier

-- The head of a line: itself at depth 0, else the nearest earlier line of depth 0. If there is
-- none, the empty line stands for it, whose mark is that of vendors. So a nested line without a
-- head counts as an entry if it is not idle, and the first of these lines has a fault: NoParent, or
-- TooDeep after three tabs or more, or before both NotUtf8.
abbrev pub head_of : List (List ℕ) → List ℕ → List ℕ
head_of earlier line = if depth line == 0 then line else unwrap_or (above 1 earlier) []

abbrev pub mark_at : List (List ℕ) → List ℕ → Mark
mark_at earlier line = mark (head_of earlier line)

abbrev pub if_depth : ℕ → Option (List ℕ) → Option (List ℕ)
if_depth d None = None
if_depth d (Some line) = if suc (depth line) == d then Some line else None

-- the parent line of a nested line: the nearest earlier one of lesser depth, if that is less by one
abbrev pub parent_line : List (List ℕ) → List ℕ → Option (List ℕ)
parent_line earlier line = if_depth (depth line) (above (depth line) earlier)

-- the line of a block of generic subsystems, which is no entry
abbrev pub is_block : List ℕ → Bool
is_block line = not (is_idle line) && depth line == 0 && is_generics (mark line)

-- a line that names something: not idle, not in an unknown block, and not the line of a block
abbrev pub is_entry : List (List ℕ) → List ℕ → Bool
is_entry earlier line = not (is_idle line) && not (is_unknown (mark_at earlier line)) && not
    (is_block line)

abbrev pub widths_at : List (List ℕ) → List ℕ → List ℕ
widths_at earlier line = widths (mark_at earlier line) (depth line)

abbrev pub digits_at : List (List ℕ) → List ℕ → List ℕ
digits_at earlier line = digits_in (widths_at earlier line) (inside line)

abbrev pub name_at : List (List ℕ) → List ℕ → List ℕ
name_at earlier line = name_in (widths_at earlier line) (inside line)

-- the path of a head: the prefix of its kind, and its digits
abbrev pub head_path : List ℕ → List ℕ
head_path line = front (mark line) ++ digits_in (widths (mark line) 0) (inside line)

-- The path of a line: that of its parent line, a slash, and its digits. No head is between a line
-- and its parent line, so a parent line that is nested has the same head, and its digits may be
-- read with the lines before its child.
abbrev pub path_at : List (List ℕ) → List ℕ → List ℕ
path_at earlier line =
    if depth line == 0 then head_path line else
    (if depth line == 1 then head_path (head_of earlier line) ++ 47 ∷ digits_at earlier line else
    head_path (head_of earlier line) ++ 47
    ∷ digits_at earlier (unwrap_or (parent_line earlier line) []) ++ 47
    ∷ digits_at earlier line)

-- an entry: the text of a path, and a name
abbrev pub Item : Type 0
Item = List ℕ × List ℕ

-- the entry of a line, if it is one
abbrev pub entry_of : List (List ℕ) → List ℕ → List Item
entry_of earlier line = if is_entry earlier line then (path_at earlier line, name_at earlier line)
    ∷ [] else []

-- the entries of lines, of which the last is the first here, in the same order
abbrev pub entries_back : List (List ℕ) → List Item
entries_back [] = []
entries_back (line ∷ earlier) = entry_of earlier line ++ entries_back earlier

-- an earlier entry has the path
abbrev pub is_known_path : List (List ℕ) → List ℕ → Bool
is_known_path earlier path = is_some (value_at text_cmp path (entries_back earlier))
