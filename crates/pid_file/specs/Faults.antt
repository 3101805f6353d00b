-- What is wrong with a line: the least kind that holds. The kinds and their order are choices of
-- this project.
use Rattle.std.specs.Prelude.{Bool, not, ◌&&◌, ◌||◌, List, [], ◌∷◌, ◌++◌, length, nat_le, ◌==◌}
use Rattle.std.specs.Prelude.{Option, is_none, find, codes, ℕ}
use Rattle.std.specs.Str.{is_utf8}
use Rattle.pid_file.specs.declared.fault_kind.LineKind.{LineKind}
use Rattle.pid_file.specs.declared.fault_kind.LineKind.TheVariants.{NotUtf8, TooDeep, NoParent}
use Rattle.pid_file.specs.declared.fault_kind.LineKind.TheVariants.{BadId, NoName, BadName}
use Rattle.pid_file.specs.declared.fault_kind.LineKind.TheVariants.{Duplicate, VendorMissing}
use Rattle.pid_file.specs.Bytes.{is_empty}
use Rattle.pid_file.specs.Words.{is_name}
use Rattle.pid_file.specs.Marks.{depth, inside}
use Rattle.pid_file.specs.Levels.{levels}
use Rattle.pid_file.specs.Columns.{begins_with_ids, is_id}
use Rattle.pid_file.specs.LookingBack.{mark_at, parent_line, is_block, is_entry, widths_at}
use Rattle.pid_file.specs.LookingBack.{digits_at, name_at, path_at, is_known_path}

-- whether a kind holds at a line
abbrev pub has : LineKind → List (List ℕ) → List ℕ → Bool
has NotUtf8 earlier line = not (is_utf8 line)
has TooDeep earlier line = is_entry earlier line && nat_le (length (levels (mark_at earlier line)))
    (depth line)
has NoParent earlier line = is_entry earlier line && not (depth line == 0) && is_none
    (parent_line earlier line)
has BadId earlier line = (is_entry earlier line && not
    (begins_with_ids (widths_at earlier line) (inside line))) ||
    (is_block line && not (is_id 4 (inside line)))
has NoName earlier line = is_entry earlier line && is_empty (name_at earlier line)
has BadName earlier line = is_entry earlier line && not (is_name (name_at earlier line))
has Duplicate earlier line = is_entry earlier line && is_known_path earlier (path_at earlier line)
has VendorMissing earlier line = is_block line && not
    (is_known_path earlier (codes "PC/" ++ digits_at earlier line))

-- the kinds that are seen without the paths of earlier entries
abbrev pub line_kinds : List LineKind
line_kinds = NotUtf8 ∷ TooDeep ∷ NoParent ∷ BadId ∷ NoName ∷ BadName ∷ []

-- the least of these that holds
abbrev pub line_fault_of : List (List ℕ) → List ℕ → Option LineKind
line_fault_of earlier line = find (λ k. has k earlier line) line_kinds

abbrev pub kinds : List LineKind
kinds = NotUtf8 ∷ TooDeep ∷ NoParent ∷ BadId ∷ NoName ∷ BadName ∷ Duplicate ∷ VendorMissing ∷ []

-- the least kind that holds
abbrev pub fault_of : List (List ℕ) → List ℕ → Option LineKind
fault_of earlier line = find (λ k. has k earlier line) kinds
