-- What one more line says below open levels.
use Rattle.std.proofs.Common.{◌≡◌, ℕ, suc, Bool, true, false, cond, not, ◌&&◌, ◌||◌, eqb, leb, List, [], ◌∷◌, ◌++◌, length, take, map, Option, Some, None, Ok, Err, refl, sym, ap, subst, ◌∙◌, arith}
use mathlib.Core.Bool.{true≢false}
use Rattle.std.specs.Prelude.{is_none, codes, unwrap_or, nat_lt}
use Rattle.std.specs.Str.{is_utf8}
use Rattle.std.specs.Char.{to_ascii_lowercase}
use Rattle.std.proofs.lemmas.Bool.Decides.{nat_tests}
use Rattle.pid_file.specs.declared.fault_kind.LineKind.{LineKind}
use Rattle.pid_file.specs.declared.fault_kind.LineKind.TheVariants.{TooDeep, NoParent, BadId}
use Rattle.pid_file.specs.declared.path.Path.{Path}
use Rattle.pid_file.specs.declared.path.Path.TheVariants as paths
use Rattle.pid_file.specs.Identifiers.{hex4, hex2}
use Rattle.pid_file.specs.PathTexts.{path_text}
use Rattle.pid_file.specs.declared.line.Mark.{Mark}
use Rattle.pid_file.specs.declared.line.Mark.TheVariants as marks
use Rattle.pid_file.specs.declared.entry_line.EntryKind.{EntryKind}
use Rattle.pid_file.specs.declared.entry_line.EntryKind.TheVariants.{Vendor, Device, Subsystem, Class, Subclass, ProgIf, Generic}
use Rattle.pid_file.specs.declared.entry_line.NamedPath.{NamedPath}
use Rattle.pid_file.specs.declared.open_levels.OpenLevels.{OpenLevels}
use Rattle.pid_file.specs.declared.open_levels.OpenLevels.TheVariants as opens
use Rattle.pid_file.specs.declared.open_levels.LineContent.TheVariants as said
use Rattle.pid_file.specs.Marks.{is_idle, depth, body, mark, is_unknown, inside}
use Rattle.pid_file.specs.Levels.{levels, front, widths}
use Rattle.pid_file.specs.Columns.{begins_with_ids, is_id, digits_in, name_in}
use Rattle.pid_file.specs.LookingBack.{is_above, above, mark_at, parent_line, is_block, is_entry, widths_at, digits_at, head_path, path_at, entry_of}
use Rattle.pid_file.specs.Faults.{line_fault_of}
use Rattle.pid_file.specs.Steps.EntryLines.{columns_fault, widths_of, IsPathAt}
use Rattle.pid_file.specs.OpenLevels.{Under, Below, IsBare, IsOpenAt}
use Rattle.pid_file.specs.Steps.OpenLevels.{open_below, Says}
use Rattle.pid_file.specs.Steps.OpenLevels.{first_below, second_below, deeper_below, below}

-- what stands before its own digits in the text of its path
abbrev text_before : EntryKind → List ℕ
text_before Vendor = codes "PC/"
text_before (Device v) = codes "PC/" ++ hex4 v ++ 47 ∷ []
text_before (Subsystem v d) = codes "PC/" ++ hex4 v ++ 47 ∷ hex4 d ++ 47 ∷ []
text_before Class = codes "PD/"
text_before (Subclass c) = codes "PD/" ++ hex2 c ++ 47 ∷ []
text_before (ProgIf c s) = codes "PD/" ++ hex2 c ++ 47 ∷ hex2 s ++ 47 ∷ []
text_before (Generic v) = codes "PS/" ++ hex4 v ++ 47 ∷ []

-- lines that are passed over when looking back
past : (n : ℕ) (earlier : List (List ℕ)) (line : List ℕ) → is_above n line ≡ false → above n (line ∷ earlier) ≡ above n earlier
past n earlier line h = ap (λ b. cond b (Some line) (above n earlier)) h

under_past : (earlier : List (List ℕ)) (line : List ℕ) (m : Mark) (top : List ℕ) → is_above 1 line ≡ false → Under earlier m top → Under (line ∷ earlier) m top
under_past earlier line m top h u = record { head = u.head; is_head = past 1 earlier line h ∙ u.is_head; flat = u.flat; marked = u.marked; path = u.path }

below_past : (earlier : List (List ℕ)) (line : List ℕ) (m : Mark) (digits : List ℕ) → is_above 2 line ≡ false → Below earlier m digits → Below (line ∷ earlier) m digits
below_past earlier line m digits h b = record { line = b.line; is_open = past 2 earlier line h ∙ b.is_open; nested = b.nested; says = b.says }

-- a line that opens a block of generic subsystems
block_good : (earlier : List (List ℕ)) (line : List ℕ) → is_utf8 line ≡ true → is_entry earlier line ≡ false → is_block line ≡ true → is_id 4 (inside line) ≡ true → line_fault_of earlier line ≡ None
block_good earlier line text entry block id = rw (text, entry, block, id) refl

block_digits : (bytes : List ℕ) (v : ℕ) → map to_ascii_lowercase (take 4 bytes) ≡ hex4 v → digits_in (4 ∷ []) bytes ≡ hex4 v
block_digits bytes v h = ap (λ (l : List ℕ). l ++ []) h

-- where an entry's line stands among the open lines
abbrev pub IsPlace : EntryKind → List (List ℕ) → List ℕ → Type 0
IsPlace Vendor earlier line = (depth line ≡ 0) × (mark line ≡ marks.Devices)
IsPlace (Device v) earlier line = (depth line ≡ 1) × Under earlier marks.Devices (codes "PC/" ++ hex4 v)
IsPlace (Subsystem v d) earlier line = (depth line ≡ 2) × Under earlier marks.Devices (codes "PC/" ++ hex4 v) × Below earlier marks.Devices (hex4 d)
IsPlace Class earlier line = (depth line ≡ 0) × (mark line ≡ marks.Classes)
IsPlace (Subclass c) earlier line = (depth line ≡ 1) × Under earlier marks.Classes (codes "PD/" ++ hex2 c)
IsPlace (ProgIf c s) earlier line = (depth line ≡ 2) × Under earlier marks.Classes (codes "PD/" ++ hex2 c) × Below earlier marks.Classes (hex2 s)
IsPlace (Generic v) earlier line = (depth line ≡ 1) × Under earlier marks.Generics (codes "PS/" ++ hex4 v)

record StandsAt (earlier : List (List ℕ)) (line : List ℕ) (place : EntryKind) : Type 0 where
  entry : is_entry earlier line ≡ true
  shallow : leb (length (levels (mark_at earlier line))) (depth line) ≡ false
  parent : (not (eqb (depth line) 0) && is_none (parent_line earlier line)) ≡ false
  no_block : is_block line ≡ false
  width : widths_at earlier line ≡ widths_of place
  path : path_at earlier line ≡ text_before place ++ digits_in (widths_of place) (inside line)

stands_one : (earlier : List (List ℕ)) (line top ws : List ℕ) (m : Mark) (place : EntryKind) → is_idle line ≡ false → depth line ≡ 1 → Under earlier m top → is_unknown m ≡ false → leb (length (levels m)) 1 ≡ false → widths m 1 ≡ ws → ws ≡ widths_of place → text_before place ≡ top ++ 47 ∷ [] → ((l : List ℕ) → top ++ 47 ∷ l ≡ (top ++ 47 ∷ []) ++ l) → StandsAt earlier line place
stands_one earlier line top ws m place active at u known within width same before joined = record {
  entry = rw (active, at, u.is_head, u.marked, known) refl;
  shallow = rw (at, u.is_head, u.marked) within;
  parent = rw (at, u.is_head, u.flat) refl;
  no_block = rw (active, at) refl;
  width = rw (at, u.is_head, u.marked) (width ∙ same);
  path =
      let digits_is : digits_at earlier line ≡ digits_in ws (inside line) = rw (at, u.is_head, u.marked, width) refl in
      let path_is : path_at earlier line ≡ top ++ 47 ∷ digits_in ws (inside line) = rw (digits_is, at, u.is_head, u.path) refl in
      path_is ∙ joined (digits_in ws (inside line)) ∙ (λ i. sym before i ++ digits_in (same i) (inside line));
}

stands_two : (earlier : List (List ℕ)) (line top second ws : List ℕ) (m : Mark) (place : EntryKind) → is_idle line ≡ false → depth line ≡ 2 → Under earlier m top → Below earlier m second → is_unknown m ≡ false → leb (length (levels m)) 2 ≡ false → widths m 2 ≡ ws → ws ≡ widths_of place → text_before place ≡ top ++ 47 ∷ second ++ 47 ∷ [] → ((l : List ℕ) → top ++ 47 ∷ second ++ 47 ∷ l ≡ (top ++ 47 ∷ second ++ 47 ∷ []) ++ l) → StandsAt earlier line place
stands_two earlier line top second ws m place active at u b known within width same before joined = record {
  entry = rw (active, at, u.is_head, u.marked, known) refl;
  shallow = rw (at, u.is_head, u.marked) within;
  parent = rw (at, b.is_open, b.nested) refl;
  no_block = rw (active, at) refl;
  width = rw (at, u.is_head, u.marked) (width ∙ same);
  path =
      let digits_is : digits_at earlier line ≡ digits_in ws (inside line) = rw (at, u.is_head, u.marked, width) refl in
      let parent_is : parent_line earlier line ≡ Some b.line = rw (at, b.is_open, b.nested) refl in
      let second_is : digits_at earlier (unwrap_or (parent_line earlier line) []) ≡ second = rw (parent_is, b.nested, u.is_head, u.marked) b.says in
      let path_is : path_at earlier line ≡ top ++ 47 ∷ second ++ 47 ∷ digits_in ws (inside line) = rw (digits_is, second_is, at, u.is_head, u.path) refl in
      path_is ∙ joined (digits_in ws (inside line)) ∙ (λ i. sym before i ++ digits_in (same i) (inside line));
}

stands : (place : EntryKind) (earlier : List (List ℕ)) (line : List ℕ) → is_idle line ≡ false → IsPlace place earlier line → StandsAt earlier line place
stands Vendor earlier line active p = record {
  entry = rw (active, p.0, p.1) refl;
  shallow = rw (p.0, p.1) refl;
  parent = rw p.0 refl;
  no_block = rw (active, p.0, p.1) refl;
  width = rw (p.0, p.1) refl;
  path = rw (p.0, p.1) refl;
}
stands Class earlier line active p = record {
  entry = rw (active, p.0, p.1) refl;
  shallow = rw (p.0, p.1) refl;
  parent = rw p.0 refl;
  no_block = rw (active, p.0, p.1) refl;
  width = rw (p.0, p.1) refl;
  path = rw (p.0, p.1) refl;
}
stands (Device v) earlier line active p = stands_one earlier line (codes "PC/" ++ hex4 v) (4 ∷ []) marks.Devices (Device v) active p.0 p.1 refl refl refl refl refl (λ l. refl)
stands (Subclass c) earlier line active p = stands_one earlier line (codes "PD/" ++ hex2 c) (2 ∷ []) marks.Classes (Subclass c) active p.0 p.1 refl refl refl refl refl (λ l. refl)
stands (Generic v) earlier line active p = stands_one earlier line (codes "PS/" ++ hex4 v) (4 ∷ []) marks.Generics (Generic v) active p.0 p.1 refl refl refl refl refl (λ l. refl)
stands (Subsystem v d) earlier line active p = stands_two earlier line (codes "PC/" ++ hex4 v) (hex4 d) (4 ∷ 4 ∷ []) marks.Devices (Subsystem v d) active p.0 p.1 p.2 refl refl refl refl refl (λ l. refl)
stands (ProgIf c s) earlier line active p = stands_two earlier line (codes "PD/" ++ hex2 c) (hex2 s) (2 ∷ []) marks.Classes (ProgIf c s) active p.0 p.1 p.2 refl refl refl refl refl (λ l. refl)

or_false : (b : Bool) (x y : Option LineKind) → cond (not b || false) x y ≡ cond (not b) x y
or_false true x y = refl
or_false false x y = refl

stands_fault : (place : EntryKind) (earlier : List (List ℕ)) (line : List ℕ) → is_utf8 line ≡ true → StandsAt earlier line place → line_fault_of earlier line ≡ columns_fault (widths_of place) (inside line)
stands_fault place earlier line text s = rw (text, s.entry, s.shallow, s.parent, s.no_block, s.width) (or_false (begins_with_ids (widths_of place) (inside line)) _ _)

-- the fault of an entry's line
pub place_fault : (place : EntryKind) (earlier : List (List ℕ)) (line : List ℕ) → is_utf8 line ≡ true → is_idle line ≡ false → IsPlace place earlier line → line_fault_of earlier line ≡ columns_fault (widths_of place) (inside line)
place_fault place earlier line text active p = stands_fault place earlier line text (stands place earlier line active p)

path_is : (place : EntryKind) (p : Path) (digits : List ℕ) → IsPathAt place p digits → path_text p ≡ text_before place ++ digits
path_is Vendor (paths.Vendor v) digits h = ap (λ (l : List ℕ). codes "PC/" ++ l) (sym h)
path_is (Device v) (paths.Device w d) digits h = ap (λ n. path_text (paths.Device n d)) h.0 ∙ ap (λ (l : List ℕ). text_before (Device v) ++ l) (sym h.1)
path_is (Subsystem v d) (paths.Subsystem w e s t) digits h = (λ i. path_text (paths.Subsystem (h.0 i) (h.1 i) s t)) ∙ ap (λ (l : List ℕ). text_before (Subsystem v d) ++ l) (sym h.2)
path_is Class (paths.Class c) digits h = ap (λ (l : List ℕ). codes "PD/" ++ l) (sym h)
path_is (Subclass c) (paths.Subclass b s) digits h = ap (λ n. path_text (paths.Subclass n s)) h.0 ∙ ap (λ (l : List ℕ). text_before (Subclass c) ++ l) (sym h.1)
path_is (ProgIf c s) (paths.ProgIf b r t) digits h = (λ i. path_text (paths.ProgIf (h.0 i) (h.1 i) t)) ∙ ap (λ (l : List ℕ). text_before (ProgIf c s) ++ l) (sym h.2)
path_is (Generic v) (paths.Generic w d) digits h = ap (λ n. path_text (paths.Generic n d)) h.0 ∙ ap (λ (l : List ℕ). text_before (Generic v) ++ l) (sym h.1)
path_is _ _ digits h = absurd h

stands_entry : (place : EntryKind) (earlier : List (List ℕ)) (line : List ℕ) → StandsAt earlier line place → entry_of earlier line ≡ (text_before place ++ digits_in (widths_of place) (inside line), name_in (widths_of place) (inside line)) ∷ []
stands_entry place earlier line s = rw (s.entry, s.path, s.width) refl

-- which levels are open after an entry's line
head_open : (earlier : List (List ℕ)) (line digits : List ℕ) (m : Mark) → is_idle line ≡ false → depth line ≡ 0 → mark line ≡ m → head_path line ≡ digits → Under (line ∷ earlier) m digits
head_open earlier line digits m active flat marked path = record { head = line; is_head = rw (active, flat) refl; flat = flat; marked = marked; path = path }

head_bare : (earlier : List (List ℕ)) (line : List ℕ) → is_idle line ≡ false → depth line ≡ 0 → IsBare (line ∷ earlier)
head_bare earlier line active flat = record { nearest = line; is_nearest = rw (active, flat) refl; flat = flat }

one_below : (earlier : List (List ℕ)) (line digits : List ℕ) (m : Mark) → is_idle line ≡ false → depth line ≡ 1 → digits_in (widths m 1) (inside line) ≡ digits → Below (line ∷ earlier) m digits
one_below earlier line digits m active at says = record { line = line; is_open = rw (active, at) refl; nested = at; says = says }

place_open : (place : EntryKind) (p : Path) (earlier : List (List ℕ)) (line : List ℕ) → is_idle line ≡ false → IsPlace place earlier line → IsPathAt place p (digits_in (widths_of place) (inside line)) → IsOpenAt (open_below p) (line ∷ earlier)
place_open Vendor (paths.Vendor v) earlier line active p h = (head_open earlier line (codes "PC/" ++ hex4 v) marks.Devices active p.0 p.1 (subst (λ (l : List ℕ). head_path line ≡ codes "PC/" ++ l) h (rw p.1 refl)), head_bare earlier line active p.0)
place_open Class (paths.Class c) earlier line active p h = (head_open earlier line (codes "PD/" ++ hex2 c) marks.Classes active p.0 p.1 (subst (λ (l : List ℕ). head_path line ≡ codes "PD/" ++ l) h (rw p.1 refl)), head_bare earlier line active p.0)
place_open (Device v) (paths.Device w d) earlier line active p h = (subst (λ n. Under (line ∷ earlier) marks.Devices (codes "PC/" ++ hex4 n)) (sym h.0) (under_past earlier line _ _ (rw (active, p.0) refl) p.1), one_below earlier line (hex4 d) marks.Devices active p.0 h.1)
place_open (Subclass c) (paths.Subclass b s) earlier line active p h = (subst (λ n. Under (line ∷ earlier) marks.Classes (codes "PD/" ++ hex2 n)) (sym h.0) (under_past earlier line _ _ (rw (active, p.0) refl) p.1), one_below earlier line (hex2 s) marks.Classes active p.0 h.1)
place_open (Generic v) (paths.Generic w d) earlier line active p h = subst (λ n. Under (line ∷ earlier) marks.Generics (codes "PS/" ++ hex4 n)) (sym h.0) (under_past earlier line _ _ (rw (active, p.0) refl) p.1)
place_open (Subsystem v d) (paths.Subsystem w e s t) earlier line active p h = (subst (λ n. Under (line ∷ earlier) marks.Devices (codes "PC/" ++ hex4 n)) (sym h.0) (under_past earlier line _ _ (rw (active, p.0) refl) p.1), subst (λ n. Below (line ∷ earlier) marks.Devices (hex4 n)) (sym h.1) (below_past earlier line _ _ (rw (active, p.0) refl) p.2))
place_open (ProgIf c s) (paths.ProgIf b r t) earlier line active p h = (subst (λ n. Under (line ∷ earlier) marks.Classes (codes "PD/" ++ hex2 n)) (sym h.0) (under_past earlier line _ _ (rw (active, p.0) refl) p.1), subst (λ n. Below (line ∷ earlier) marks.Classes (hex2 n)) (sym h.1) (below_past earlier line _ _ (rw (active, p.0) refl) p.2))
place_open _ _ earlier line active p h = absurd h

-- an entry
pub entry_says : (open_is : OpenLevels) (place : EntryKind) (earlier : List (List ℕ)) (line : List ℕ) (n : NamedPath) → is_utf8 line ≡ true → is_idle line ≡ false → IsPlace place earlier line → IsPathAt place n.path (digits_in (widths_of place) (inside line)) → n.name.now ≡ name_in (widths_of place) (inside line) → columns_fault (widths_of place) (inside line) ≡ None → Says open_is earlier line (said.Entry n)
entry_says open_is place earlier line n text active p path name good =
    let s = stands place earlier line active p in
    record {
      good = stands_fault place earlier line text s ∙ good;
      entry = (λ i. (path_is place n.path (digits_in (widths_of place) (inside line)) path i, name i) ∷ []) ∙ sym (stands_entry place earlier line s);
      block = s.no_block;
      after = place_open place n.path earlier line active p path;
    }

-- which place a nested line has
place_one : (open_is : OpenLevels) (place : EntryKind) (earlier : List (List ℕ)) (line : List ℕ) → depth line ≡ 1 → IsOpenAt open_is earlier → first_below open_is ≡ Ok (Some place) → IsPlace place earlier line
place_one opens.Nothing place earlier line at o h = absurd cc
place_one opens.Unknown place earlier line at o h = absurd cc
place_one (opens.Vendor v) place earlier line at o h = let is : Device v ≡ place = cc in subst (λ (q : EntryKind). IsPlace q earlier line) is (at, o.0)
place_one (opens.Device v d) place earlier line at o h = let is : Device v ≡ place = cc in subst (λ (q : EntryKind). IsPlace q earlier line) is (at, o.0)
place_one (opens.Class c) place earlier line at o h = let is : Subclass c ≡ place = cc in subst (λ (q : EntryKind). IsPlace q earlier line) is (at, o.0)
place_one (opens.Subclass c s) place earlier line at o h = let is : Subclass c ≡ place = cc in subst (λ (q : EntryKind). IsPlace q earlier line) is (at, o.0)
place_one (opens.Generics v) place earlier line at o h = let is : Generic v ≡ place = cc in subst (λ (q : EntryKind). IsPlace q earlier line) is (at, o)

place_two : (open_is : OpenLevels) (place : EntryKind) (earlier : List (List ℕ)) (line : List ℕ) → depth line ≡ 2 → IsOpenAt open_is earlier → second_below open_is ≡ Ok (Some place) → IsPlace place earlier line
place_two opens.Nothing place earlier line at o h = absurd cc
place_two opens.Unknown place earlier line at o h = absurd cc
place_two (opens.Vendor v) place earlier line at o h = absurd cc
place_two (opens.Device v d) place earlier line at o h = let is : Subsystem v d ≡ place = cc in subst (λ (q : EntryKind). IsPlace q earlier line) is (at, o.0, o.1)
place_two (opens.Class c) place earlier line at o h = absurd cc
place_two (opens.Subclass c s) place earlier line at o h = let is : ProgIf c s ≡ place = cc in subst (λ (q : EntryKind). IsPlace q earlier line) is (at, o.0, o.1)
place_two (opens.Generics v) place earlier line at o h = absurd cc

place_deep : (open_is : OpenLevels) (place : EntryKind) → deeper_below open_is ≡ Ok (Some place) → ⊥
place_deep opens.Nothing place h = cc
place_deep opens.Unknown place h = cc
place_deep (opens.Vendor v) place h = cc
place_deep (opens.Device v d) place h = cc
place_deep (opens.Class c) place h = cc
place_deep (opens.Subclass c s) place h = cc
place_deep (opens.Generics v) place h = cc

number_is : (d n : ℕ) → eqb d n ≡ true → d ≡ n
number_is d n h = grind (arith, nat_tests)

pub place_is : (open_is : OpenLevels) (d : ℕ) (place : EntryKind) (earlier : List (List ℕ)) (line : List ℕ) → depth line ≡ d → IsOpenAt open_is earlier → below open_is d ≡ Ok (Some place) → IsPlace place earlier line
place_is open_is d place earlier line at o h =
    elim (eqb d 1) as (λ b. eqb d 1 ≡ b → cond b (first_below open_is) (cond (eqb d 2) (second_below open_is) (deeper_below open_is)) ≡ Ok (Some place) → IsPlace place earlier line) [
      | true ↦ λ e h. place_one open_is place earlier line (at ∙ number_is d 1 e) o h
      | false ↦ λ _ h. elim (eqb d 2) as (λ b. eqb d 2 ≡ b → cond b (second_below open_is) (deeper_below open_is) ≡ Ok (Some place) → IsPlace place earlier line) [
        | true ↦ λ e h. place_two open_is place earlier line (at ∙ number_is d 2 e) o h
        | false ↦ λ _ h. absurd (place_deep open_is place h)
      ] refl h
    ] refl h

-- a nested line that stands nowhere
orphan_fault : (earlier : List (List ℕ)) (line : List ℕ) → is_utf8 line ≡ true → is_entry earlier line ≡ true → leb (length (levels (mark_at earlier line))) (depth line) ≡ false → eqb (depth line) 0 ≡ false → is_none (parent_line earlier line) ≡ true → line_fault_of earlier line ≡ Some NoParent
orphan_fault earlier line text entry shallow nested none = rw (text, entry, shallow, nested, none) refl

deep_fault : (earlier : List (List ℕ)) (line : List ℕ) → is_utf8 line ≡ true → is_entry earlier line ≡ true → leb (length (levels (mark_at earlier line))) (depth line) ≡ true → line_fault_of earlier line ≡ Some TooDeep
deep_fault earlier line text entry deep = rw (text, entry, deep) refl

fault_one : (open_is : OpenLevels) (k : LineKind) (earlier : List (List ℕ)) (line : List ℕ) → is_utf8 line ≡ true → is_idle line ≡ false → depth line ≡ 1 → IsOpenAt open_is earlier → first_below open_is ≡ Err k → line_fault_of earlier line ≡ Some k
fault_one opens.Nothing k earlier line text active at o h =
    let is : NoParent ≡ k = cc in
    orphan_fault earlier line text (rw (active, at, o.0) refl) (rw (at, o.0) refl) (rw at refl) (rw (at, o.0) refl) ∙ ap (λ (q : LineKind). Some q) is
fault_one opens.Unknown k earlier line text active at o h = absurd cc
fault_one (opens.Vendor v) k earlier line text active at o h = absurd cc
fault_one (opens.Device v d) k earlier line text active at o h = absurd cc
fault_one (opens.Class c) k earlier line text active at o h = absurd cc
fault_one (opens.Subclass c s) k earlier line text active at o h = absurd cc
fault_one (opens.Generics v) k earlier line text active at o h = absurd cc

bare_fault : (earlier : List (List ℕ)) (line top : List ℕ) (m : Mark) → is_utf8 line ≡ true → is_idle line ≡ false → depth line ≡ 2 → Under earlier m top → IsBare earlier → is_unknown m ≡ false → leb (length (levels m)) 2 ≡ false → line_fault_of earlier line ≡ Some NoParent
bare_fault earlier line top m text active at u b known within = orphan_fault earlier line text (rw (active, at, u.is_head, u.marked, known) refl) (rw (at, u.is_head, u.marked) within) (rw at refl) (rw (at, b.is_nearest, b.flat) refl)

under_deep : (earlier : List (List ℕ)) (line top : List ℕ) (m : Mark) → is_utf8 line ≡ true → is_idle line ≡ false → eqb (depth line) 0 ≡ false → Under earlier m top → is_unknown m ≡ false → leb (length (levels m)) (depth line) ≡ true → line_fault_of earlier line ≡ Some TooDeep
under_deep earlier line top m text active nested u known deep = deep_fault earlier line text (rw (active, nested, u.is_head, u.marked, known) refl) (rw (nested, u.is_head, u.marked) deep)

fault_two : (open_is : OpenLevels) (k : LineKind) (earlier : List (List ℕ)) (line : List ℕ) → is_utf8 line ≡ true → is_idle line ≡ false → depth line ≡ 2 → IsOpenAt open_is earlier → second_below open_is ≡ Err k → line_fault_of earlier line ≡ Some k
fault_two opens.Nothing k earlier line text active at o h =
    let is : NoParent ≡ k = cc in
    orphan_fault earlier line text (rw (active, at, o.0) refl) (rw (at, o.0) refl) (rw at refl) (rw (at, o.1) refl) ∙ ap (λ (q : LineKind). Some q) is
fault_two opens.Unknown k earlier line text active at o h = absurd cc
fault_two (opens.Vendor v) k earlier line text active at o h = let is : NoParent ≡ k = cc in bare_fault earlier line _ marks.Devices text active at o.0 o.1 refl refl ∙ ap (λ (q : LineKind). Some q) is
fault_two (opens.Device v d) k earlier line text active at o h = absurd cc
fault_two (opens.Class c) k earlier line text active at o h = let is : NoParent ≡ k = cc in bare_fault earlier line _ marks.Classes text active at o.0 o.1 refl refl ∙ ap (λ (q : LineKind). Some q) is
fault_two (opens.Subclass c s) k earlier line text active at o h = absurd cc
fault_two (opens.Generics v) k earlier line text active at o h = let is : TooDeep ≡ k = cc in under_deep earlier line _ marks.Generics text active (rw at refl) o refl (rw at refl) ∙ ap (λ (q : LineKind). Some q) is

deep_3 : (d : ℕ) → eqb d 0 ≡ false → eqb d 1 ≡ false → eqb d 2 ≡ false → leb 3 d ≡ true
deep_3 d a b c = grind (arith, nat_tests)

deep_2 : (d : ℕ) → eqb d 0 ≡ false → eqb d 1 ≡ false → leb 2 d ≡ true
deep_2 d a b = grind (arith, nat_tests)

fault_deep : (open_is : OpenLevels) (k : LineKind) (earlier : List (List ℕ)) (line : List ℕ) → is_utf8 line ≡ true → is_idle line ≡ false → eqb (depth line) 0 ≡ false → eqb (depth line) 1 ≡ false → eqb (depth line) 2 ≡ false → IsOpenAt open_is earlier → deeper_below open_is ≡ Err k → line_fault_of earlier line ≡ Some k
fault_deep opens.Nothing k earlier line text active a b c o h =
    let is : TooDeep ≡ k = cc in
    deep_fault earlier line text (rw (active, a, o.0) refl) (rw (a, o.0) (deep_3 (depth line) a b c)) ∙ ap (λ (q : LineKind). Some q) is
fault_deep opens.Unknown k earlier line text active a b c o h = absurd cc
fault_deep (opens.Vendor v) k earlier line text active a b c o h = let is : TooDeep ≡ k = cc in under_deep earlier line _ marks.Devices text active a o.0 refl (deep_3 (depth line) a b c) ∙ ap (λ (q : LineKind). Some q) is
fault_deep (opens.Device v d) k earlier line text active a b c o h = let is : TooDeep ≡ k = cc in under_deep earlier line _ marks.Devices text active a o.0 refl (deep_3 (depth line) a b c) ∙ ap (λ (q : LineKind). Some q) is
fault_deep (opens.Class e) k earlier line text active a b c o h = let is : TooDeep ≡ k = cc in under_deep earlier line _ marks.Classes text active a o.0 refl (deep_3 (depth line) a b c) ∙ ap (λ (q : LineKind). Some q) is
fault_deep (opens.Subclass e s) k earlier line text active a b c o h = let is : TooDeep ≡ k = cc in under_deep earlier line _ marks.Classes text active a o.0 refl (deep_3 (depth line) a b c) ∙ ap (λ (q : LineKind). Some q) is
fault_deep (opens.Generics v) k earlier line text active a b c o h = let is : TooDeep ≡ k = cc in under_deep earlier line _ marks.Generics text active a o refl (deep_2 (depth line) a b) ∙ ap (λ (q : LineKind). Some q) is

pub below_fault : (open_is : OpenLevels) (d : ℕ) (k : LineKind) (earlier : List (List ℕ)) (line : List ℕ) → is_utf8 line ≡ true → is_idle line ≡ false → eqb d 0 ≡ false → depth line ≡ d → IsOpenAt open_is earlier → below open_is d ≡ Err k → line_fault_of earlier line ≡ Some k
below_fault open_is d k earlier line text active nested at o h =
    elim (eqb d 1) as (λ b. eqb d 1 ≡ b → cond b (first_below open_is) (cond (eqb d 2) (second_below open_is) (deeper_below open_is)) ≡ Err k → line_fault_of earlier line ≡ Some k) [
      | true ↦ λ e h. fault_one open_is k earlier line text active (at ∙ number_is d 1 e) o h
      | false ↦ λ x h. elim (eqb d 2) as (λ b. eqb d 2 ≡ b → cond b (second_below open_is) (deeper_below open_is) ≡ Err k → line_fault_of earlier line ≡ Some k) [
        | true ↦ λ e h. fault_two open_is k earlier line text active (at ∙ number_is d 2 e) o h
        | false ↦ λ y h. fault_deep open_is k earlier line text active (subst (λ n. eqb n 0 ≡ false) (sym at) nested) (subst (λ n. eqb n 1 ≡ false) (sym at) x) (subst (λ n. eqb n 2 ≡ false) (sym at) y) o h
      ] refl h
    ] refl h

-- what stands inside a nested line
pub inside_nested : (line : List ℕ) → eqb (depth line) 0 ≡ false → inside line ≡ body line
inside_nested [] h = absurd (true≢false h)
inside_nested (b ∷ []) h = refl
inside_nested (b ∷ c ∷ rest) h =
    elim (eqb b 9) as (λ t. eqb b 9 ≡ t → eqb (cond t (suc (depth (c ∷ rest))) 0) 0 ≡ false → inside (b ∷ c ∷ rest) ≡ body (b ∷ c ∷ rest)) [
      | true ↦ λ e _. let is : b ≡ 9 = number_is b 9 e in rw is refl
      | false ↦ λ e x. absurd (true≢false x)
    ] refl h

-- the same, of bytes that are found to stand inside the line
pub entry_read : (open_is : OpenLevels) (place : EntryKind) (earlier : List (List ℕ)) (line bytes : List ℕ) (n : NamedPath) → is_utf8 line ≡ true → is_idle line ≡ false → IsPlace place earlier line → bytes ≡ inside line → IsPathAt place n.path (digits_in (widths_of place) bytes) → n.name.now ≡ name_in (widths_of place) bytes → columns_fault (widths_of place) bytes ≡ None → Says open_is earlier line (said.Entry n)
entry_read open_is place earlier line bytes n text active p is path name good =
    entry_says open_is place earlier line n text active p (subst (λ (l : List ℕ). IsPathAt place n.path (digits_in (widths_of place) l)) is path) (name ∙ ap (λ (l : List ℕ). name_in (widths_of place) l) is) (ap (λ (l : List ℕ). columns_fault (widths_of place) l) (sym is) ∙ good)

pub fault_read : (place : EntryKind) (earlier : List (List ℕ)) (line bytes : List ℕ) (k : LineKind) → is_utf8 line ≡ true → is_idle line ≡ false → IsPlace place earlier line → bytes ≡ inside line → columns_fault (widths_of place) bytes ≡ Some k → line_fault_of earlier line ≡ Some k
fault_read place earlier line bytes k text active p is fault = place_fault place earlier line text active p ∙ ap (λ (l : List ℕ). columns_fault (widths_of place) l) (sym is) ∙ fault

-- the line of a block of generic subsystems, with good digits or not, and that of an unknown block
pub block_says : (open_is : OpenLevels) (earlier : List (List ℕ)) (line bytes : List ℕ) (v : ℕ) → is_utf8 line ≡ true → is_idle line ≡ false → depth line ≡ 0 → mark line ≡ marks.Generics → bytes ≡ inside line → is_id 4 bytes ≡ true → map to_ascii_lowercase (take 4 bytes) ≡ hex4 v → Says open_is earlier line (said.Block v)
block_says open_is earlier line bytes v text active flat marked is id digits =
    let no_entry : is_entry earlier line ≡ false = rw (active, flat, marked) refl in
    let block : is_block line ≡ true = rw (active, flat, marked) refl in
    let own : digits_in (4 ∷ []) (inside line) ≡ hex4 v = block_digits (inside line) v (ap (λ (l : List ℕ). map to_ascii_lowercase (take 4 l)) (sym is) ∙ digits) in
    record {
      good = block_good earlier line text no_entry block (ap (is_id 4) (sym is) ∙ id);
      entry = rw no_entry refl;
      block = (block, own);
      after = head_open earlier line (codes "PS/" ++ hex4 v) marks.Generics active flat marked (ap (λ (m : Mark). front m ++ digits_in (widths m 0) (inside line)) marked ∙ ap (λ (l : List ℕ). codes "PS/" ++ l) own);
    }

pub block_fault : (earlier : List (List ℕ)) (line bytes : List ℕ) → is_utf8 line ≡ true → is_idle line ≡ false → depth line ≡ 0 → mark line ≡ marks.Generics → bytes ≡ inside line → is_id 4 bytes ≡ false → line_fault_of earlier line ≡ Some BadId
block_fault earlier line bytes text active flat marked is id =
    let no_entry : is_entry earlier line ≡ false = rw (active, flat, marked) refl in
    let block : is_block line ≡ true = rw (active, flat, marked) refl in
    let bad : is_id 4 (inside line) ≡ false = ap (is_id 4) (sym is) ∙ id in
    rw (text, no_entry, block, bad) refl

pub unknown_says : (open_is : OpenLevels) (earlier : List (List ℕ)) (line : List ℕ) → is_utf8 line ≡ true → is_idle line ≡ false → depth line ≡ 0 → mark line ≡ marks.Unknown → Says open_is earlier line said.Unknown
unknown_says open_is earlier line text active flat marked =
    let no_entry : is_entry earlier line ≡ false = rw (active, flat, marked) refl in
    let no_block : is_block line ≡ false = rw (active, flat, marked) refl in
    record {
      good = rw (text, no_entry, no_block) refl;
      entry = rw no_entry refl;
      block = no_block;
      after = record { head = line; is_head = rw (active, flat) refl; marked = marked };
    }

-- a line that is skipped, since it stands in an unknown block
skips_one : (open_is : OpenLevels) → first_below open_is ≡ Ok None → open_is ≡ opens.Unknown
skips_one opens.Unknown h = refl
skips_one opens.Nothing h = absurd cc
skips_one (opens.Vendor v) h = absurd cc
skips_one (opens.Device v d) h = absurd cc
skips_one (opens.Class c) h = absurd cc
skips_one (opens.Subclass c s) h = absurd cc
skips_one (opens.Generics v) h = absurd cc

skips_two : (open_is : OpenLevels) → second_below open_is ≡ Ok None → open_is ≡ opens.Unknown
skips_two opens.Unknown h = refl
skips_two opens.Nothing h = absurd cc
skips_two (opens.Vendor v) h = absurd cc
skips_two (opens.Device v d) h = absurd cc
skips_two (opens.Class c) h = absurd cc
skips_two (opens.Subclass c s) h = absurd cc
skips_two (opens.Generics v) h = absurd cc

skips_deep : (open_is : OpenLevels) → deeper_below open_is ≡ Ok None → open_is ≡ opens.Unknown
skips_deep opens.Unknown h = refl
skips_deep opens.Nothing h = absurd cc
skips_deep (opens.Vendor v) h = absurd cc
skips_deep (opens.Device v d) h = absurd cc
skips_deep (opens.Class c) h = absurd cc
skips_deep (opens.Subclass c s) h = absurd cc
skips_deep (opens.Generics v) h = absurd cc

skips : (open_is : OpenLevels) (d : ℕ) → below open_is d ≡ Ok None → open_is ≡ opens.Unknown
skips open_is d h =
    elim (eqb d 1) as (λ b. cond b (first_below open_is) (cond (eqb d 2) (second_below open_is) (deeper_below open_is)) ≡ Ok None → open_is ≡ opens.Unknown) [
      | true ↦ skips_one open_is
      | false ↦ elim (eqb d 2) as (λ b. cond b (second_below open_is) (deeper_below open_is) ≡ Ok None → open_is ≡ opens.Unknown) [
        | true ↦ skips_two open_is
        | false ↦ skips_deep open_is
      ]
    ] h

below_head : (line : List ℕ) → eqb (depth line) 0 ≡ false → is_above 1 line ≡ false
below_head line h = elim (is_above 1 line) as (λ b. is_above 1 line ≡ b → b ≡ false) [
  | true ↦ λ e. absurd (true≢false (sym (at_head (is_idle line) (depth line) e) ∙ h))
  | false ↦ λ _. refl
] refl
  where
    at_head : (idle : Bool) (d : ℕ) → (not idle && nat_lt d 1) ≡ true → eqb d 0 ≡ true
    at_head true d e = absurd (true≢false (sym e))
    at_head false d e = grind (arith, nat_tests)

unknown_skips : (earlier : List (List ℕ)) (line : List ℕ) → is_utf8 line ≡ true → is_idle line ≡ false → eqb (depth line) 0 ≡ false → IsOpenAt opens.Unknown earlier → Says opens.Unknown earlier line said.Nothing
unknown_skips earlier line text active nested o =
    let no_entry : is_entry earlier line ≡ false = rw (active, nested, o.is_head, o.marked) refl in
    let no_block : is_block line ≡ false = rw (active, nested) refl in
    record {
      good = rw (text, no_entry, no_block) refl;
      entry = rw no_entry refl;
      block = no_block;
      after = record { head = o.head; is_head = past 1 earlier line (below_head line nested) ∙ o.is_head; marked = o.marked };
    }

pub skipped_says : (open_is : OpenLevels) (d : ℕ) (earlier : List (List ℕ)) (line : List ℕ) → is_utf8 line ≡ true → is_idle line ≡ false → eqb d 0 ≡ false → depth line ≡ d → IsOpenAt open_is earlier → below open_is d ≡ Ok None → Says open_is earlier line said.Nothing
skipped_says open_is d earlier line text active nested at o h =
    let is = skips open_is d h in
    subst (λ (q : OpenLevels). Says q earlier line said.Nothing) (sym is) (unknown_skips earlier line text active (subst (λ n. eqb n 0 ≡ false) (sym at) nested) (subst (λ (q : OpenLevels). IsOpenAt q earlier) is o))

-- a depth that is not 0
pub not_flat : (depth : ℕ) → (depth ≡ 0 → ⊥) → eqb depth 0 ≡ false
not_flat depth deep = grind (arith, nat_tests, deep)
