-- What one more line says behind others, and which lines are open behind it.
use Rattle.std.proofs.Common.{◌≡◌, ℕ, true, false, cond, not, ◌&&◌, eqb, ltb, leb, List, [], ◌∷◌, ◌++◌, length, take, drop, Some, None, refl, arith}
use Rattle.std.specs.Prelude.{is_some, is_none, codes, unwrap_or}
use Rattle.std.specs.Str.{is_utf8}
use Rattle.std.proofs.lemmas.Str.{is_utf8-from_IsUtf8, IsUtf8-from_ascii}
use Rattle.std.specs.FinMap.Entries.{find as value_at}
use Rattle.pid_file.specs.Words.{is_name}
use Rattle.pid_file.specs.Bytes.{is_empty}
use Rattle.pid_file.specs.Identifiers.{hex4}
use Rattle.pid_file.specs.declared.line.Mark.{Mark}
use Rattle.pid_file.specs.declared.line.Mark.TheVariants.{Devices, Classes, Generics, Unknown}
use Rattle.pid_file.specs.Marks.{depth, mark, is_unknown, is_generics, inside}
use Rattle.pid_file.specs.Levels.{front, levels, widths}
use Rattle.pid_file.specs.Columns.{begins_with_ids, digits_in}
use Rattle.pid_file.specs.LookingBack.{above, mark_at, parent_line, is_block, is_entry, widths_at, digits_at, name_at, head_path, path_at, entries_back, is_known_path}
use Rattle.pid_file.specs.Faults.{fault_of}
use Rattle.pid_file.specs.Trees.{text_cmp}
use Rattle.pid_reader.proofs.Cells.{AreDigits, hex4_is}
use Rattle.pid_reader.proofs.Written.{Written, Stands, name_parts, utf8_cons}

-- what a line says behind others
pub record Says (earlier : List (List ℕ)) (line path name : List ℕ) : Type 0 where
  pub entry : is_entry earlier line ≡ true
  pub shallow : leb (length (levels (mark_at earlier line))) (depth line) ≡ false
  pub parent : (not (eqb (depth line) 0) && is_none (parent_line earlier line)) ≡ false
  pub utf8 : is_utf8 line ≡ true
  pub no_block : is_block line ≡ false
  pub ids : begins_with_ids (widths_at earlier line) (inside line) ≡ true
  pub name_is : name_at earlier line ≡ name
  pub named : is_name name ≡ true
  pub path_is : path_at earlier line ≡ path

-- the table's row for a depth
pub record IsRow (m : Mark) (at : ℕ) (ws : List ℕ) : Type 0 where
  pub known : is_unknown m ≡ false
  pub width : widths m at ≡ ws
  pub within : leb (length (levels m)) at ≡ false

-- the open head
pub record Under (earlier : List (List ℕ)) (m : Mark) (top : List ℕ) : Type 0 where
  pub head : List ℕ
  pub is_head : above 1 earlier ≡ Some head
  pub flat : depth head ≡ 0
  pub marked : mark head ≡ m
  pub path : head_path head ≡ top

-- the open line of depth 1
pub record Below (earlier : List (List ℕ)) (m : Mark) (digits : List ℕ) : Type 0 where
  pub line : List ℕ
  pub is_open : above 2 earlier ≡ Some line
  pub nested : depth line ≡ 1
  pub says : digits_in (widths m 1) (inside line) ≡ digits

pub says_head : (earlier : List (List ℕ)) (line bytes ws digits name : List ℕ) (m : Mark) → IsRow m 0 ws → is_generics m ≡ false → Stands line m 0 bytes → Written ws bytes digits name → Says earlier line (front m ++ digits) name
says_head earlier line bytes ws digits name m row plain s w = record {
  entry = rw (s.active, s.depth_is, s.mark_is, row.known, plain) refl;
  shallow = rw (s.depth_is, s.mark_is) row.within;
  parent = rw s.depth_is refl;
  utf8 = s.utf8;
  no_block = rw (s.active, s.depth_is, s.mark_is) plain;
  ids = rw (s.inside_is, s.depth_is, s.mark_is, row.width) w.ids;
  name_is = rw (s.inside_is, s.depth_is, s.mark_is, row.width) w.name_is;
  named = w.named;
  path_is = rw (s.inside_is, s.depth_is, s.mark_is, row.width, w.digits_are) refl;
}

pub says_one : (earlier : List (List ℕ)) (line bytes ws digits name top : List ℕ) (m : Mark) → IsRow m 1 ws → Stands line Devices 1 bytes → Written ws bytes digits name → Under earlier m top → Says earlier line (top ++ 47 ∷ digits) name
says_one earlier line bytes ws digits name top m row s w u = record {
  entry = rw (s.active, s.depth_is, u.is_head, u.marked, row.known) refl;
  shallow = rw (s.depth_is, u.is_head, u.marked) row.within;
  parent = rw (s.depth_is, u.is_head, u.flat) refl;
  utf8 = s.utf8;
  no_block = rw (s.active, s.depth_is) refl;
  ids = rw (s.depth_is, u.is_head, u.marked, s.inside_is, row.width) w.ids;
  name_is = rw (s.depth_is, u.is_head, u.marked, s.inside_is, row.width) w.name_is;
  named = w.named;
  path_is =
      let digits_is : digits_at earlier line ≡ digits = rw (s.depth_is, u.is_head, u.marked, s.inside_is, row.width) w.digits_are in
      rw (digits_is, s.depth_is, u.is_head, u.path) refl;
}

pub says_two : (earlier : List (List ℕ)) (line bytes ws digits name top second : List ℕ) (m : Mark) → IsRow m 2 ws → Stands line Devices 2 bytes → Written ws bytes digits name → Under earlier m top → Below earlier m second → Says earlier line (top ++ 47 ∷ second ++ 47 ∷ digits) name
says_two earlier line bytes ws digits name top second m row s w u b = record {
  entry = rw (s.active, s.depth_is, u.is_head, u.marked, row.known) refl;
  shallow = rw (s.depth_is, u.is_head, u.marked) row.within;
  parent = rw (s.depth_is, b.is_open, b.nested) refl;
  utf8 = s.utf8;
  no_block = rw (s.active, s.depth_is) refl;
  ids = rw (s.depth_is, u.is_head, u.marked, s.inside_is, row.width) w.ids;
  name_is = rw (s.depth_is, u.is_head, u.marked, s.inside_is, row.width) w.name_is;
  named = w.named;
  path_is =
      let digits_is : digits_at earlier line ≡ digits = rw (s.depth_is, u.is_head, u.marked, s.inside_is, row.width) w.digits_are in
      let parent_is : parent_line earlier line ≡ Some b.line = rw (s.depth_is, b.is_open, b.nested) refl in
      let second_is : digits_at earlier (unwrap_or (parent_line earlier line) []) ≡ second = rw (parent_is, b.nested, u.is_head, u.marked) b.says in
      rw (digits_is, second_is, s.depth_is, u.is_head, u.path) refl;
}

long_name : (n : List ℕ) → is_name n ≡ true → is_empty n ≡ false
long_name n h = (name_parts n h).some

-- a line that says a new item has no fault
pub no_fault : (earlier : List (List ℕ)) (line path name : List ℕ) → Says earlier line path name → value_at text_cmp path (entries_back earlier) ≡ None → fault_of earlier line ≡ None
no_fault earlier line path name s new =
    let fresh : is_known_path earlier (path_at earlier line) ≡ false = rw (s.path_is, new) refl in
    rw (fresh, s.utf8, s.entry, s.shallow, s.parent, s.no_block, s.ids, s.name_is, s.named, long_name name s.named) refl

-- one more item is told
pub record OneMore (earlier : List (List ℕ)) (line path name : List ℕ) : Type 0 where
  pub entries : entries_back (line ∷ earlier) ≡ (path, name) ∷ entries_back earlier
  pub good : fault_of earlier line ≡ None

pub one_more : (earlier : List (List ℕ)) (line path name : List ℕ) → Says earlier line path name → value_at text_cmp path (entries_back earlier) ≡ None → OneMore earlier line path name
one_more earlier line path name s new = record { entries = rw (s.entry, s.path_is, s.name_is) refl; good = no_fault earlier line path name s new }

-- the line of a block
pub record SaysBlock (earlier : List (List ℕ)) (line top : List ℕ) : Type 0 where
  pub entries : entries_back (line ∷ earlier) ≡ entries_back earlier
  pub good : fault_of earlier line ≡ None
  pub under : Under (line ∷ earlier) Generics top

block_cells : (earlier : List (List ℕ)) (a b c d : ℕ) → AreDigits a b c d → is_some (value_at text_cmp (codes "PC/" ++ a ∷ b ∷ c ∷ d ∷ []) (entries_back earlier)) ≡ true → SaysBlock earlier (codes "S " ++ a ∷ b ∷ c ∷ d ∷ []) (codes "PS/" ++ a ∷ b ∷ c ∷ d ∷ [])
block_cells earlier a b c d x there =
    let line = codes "S " ++ a ∷ b ∷ c ∷ d ∷ [] in
    let utf8 : is_utf8 line ≡ true = is_utf8-from_IsUtf8 line (utf8_cons 83 _ (omega arith) (utf8_cons 32 _ (omega arith) (utf8_cons a _ x.a_is.ascii (utf8_cons b _ x.b_is.ascii (utf8_cons c _ x.c_is.ascii (utf8_cons d _ x.d_is.ascii (IsUtf8-from_ascii [] (λ i. omega arith)))))))) in
    let told : is_known_path earlier (codes "PC/" ++ digits_at earlier line) ≡ true = rw (x.a_is.lower, x.b_is.lower, x.c_is.lower, x.d_is.lower) there in
    record {
      entries = refl;
      good = rw (told, utf8, x.a_is.hex, x.b_is.hex, x.c_is.hex, x.d_is.hex) refl;
      under = record { head = line; is_head = refl; flat = refl; marked = refl; path = rw (x.a_is.lower, x.b_is.lower, x.c_is.lower, x.d_is.lower) refl };
    }

pub says_block : (earlier : List (List ℕ)) (v : ℕ) → is_some (value_at text_cmp (codes "PC/" ++ hex4 v) (entries_back earlier)) ≡ true → SaysBlock earlier (codes "S " ++ hex4 v) (codes "PS/" ++ hex4 v)
says_block earlier v there = block_cells earlier _ _ _ _ (hex4_is v) there

-- which lines are open behind an item with this path
abbrev pub mark_of : List ℕ → Mark
mark_of [] = Unknown
mark_of (p ∷ []) = Unknown
mark_of (p ∷ front ∷ rest) = cond (eqb front 67) Devices (cond (eqb front 68) Classes Generics)

abbrev pub top_by : Mark → List ℕ → List ℕ
top_by Classes path = take 5 path
top_by Devices path = take 7 path
top_by Generics path = take 7 path
top_by Unknown path = []

abbrev pub second_by : Mark → List ℕ → List ℕ
second_by Classes path = take 2 (drop 6 path)
second_by Devices path = take 4 (drop 8 path)
second_by Generics path = []
second_by Unknown path = []

pub record IsOpen (earlier : List (List ℕ)) (path : List ℕ) : Type 0 where
  pub under : Under earlier (mark_of path) (top_by (mark_of path) path)
  pub below : is_empty (second_by (mark_of path) path) ≡ false → Below earlier (mark_of path) (second_by (mark_of path) path)

pub under_head : (earlier : List (List ℕ)) (line bytes ws digits name : List ℕ) (m : Mark) → IsRow m 0 ws → Stands line m 0 bytes → Written ws bytes digits name → Under (line ∷ earlier) m (front m ++ digits)
under_head earlier line bytes ws digits name m row s w = record { head = line; is_head = rw (s.active, s.depth_is) refl; flat = s.depth_is; marked = s.mark_is; path = rw (s.inside_is, s.mark_is, row.width, w.digits_are) refl }

pub under_nested : (earlier : List (List ℕ)) (line bytes top : List ℕ) (m : Mark) (at : ℕ) → ltb at 1 ≡ false → Stands line Devices at bytes → Under earlier m top → Under (line ∷ earlier) m top
under_nested earlier line bytes top m at deep s u = record { head = u.head; is_head = rw (s.depth_is, deep, s.active) u.is_head; flat = u.flat; marked = u.marked; path = u.path }

pub below_one : (earlier : List (List ℕ)) (line bytes ws digits name : List ℕ) (m : Mark) → IsRow m 1 ws → Stands line Devices 1 bytes → Written ws bytes digits name → Below (line ∷ earlier) m digits
below_one earlier line bytes ws digits name m row s w = record { line = line; is_open = rw (s.active, s.depth_is) refl; nested = s.depth_is; says = rw (s.inside_is, row.width) w.digits_are }

pub below_two : (earlier : List (List ℕ)) (line bytes second : List ℕ) (m : Mark) → Stands line Devices 2 bytes → Below earlier m second → Below (line ∷ earlier) m second
below_two earlier line bytes second m s b = record { line = b.line; is_open = rw (s.active, s.depth_is) b.is_open; nested = b.nested; says = b.says }
