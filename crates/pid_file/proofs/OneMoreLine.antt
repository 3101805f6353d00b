-- One more line, of which it is known what it says.
use Rattle.std.proofs.Common.{◌≡◌, ℕ, ◌+◌, ◌<◌, ◌≤◌, Bool, true, false, cond, not, ◌&&◌, ◌||◌, eqb, leb, List, [], ◌∷◌, ◌++◌, length, map, Option, Some, None, refl, sym, ap, subst, ◌∙◌, arith}
use mathlib.Core.Bool.{false≢true, true≢false}
use Rattle.std.specs.Prelude.{is_some, codes, nat_lt}
use Rattle.std.proofs.lemmas.Bool.Decides.{nat_tests}
use Rattle.std.proofs.lemmas.Cmp.{nat_list_cmp_total, tied_itself}
use Rattle.std.specs.Ordering.{is_eq}
use Rattle.std.specs.FinMap.Entries.{find as value_at}
use Rattle.pid_file.specs.declared.fault_kind.LineKind.{LineKind}
use Rattle.pid_file.specs.declared.fault_kind.LineKind.TheVariants.{NotUtf8, TooDeep, NoParent, BadId, NoName, BadName, Duplicate, VendorMissing}
use Rattle.pid_file.specs.declared.path.Path.{Path}
use Rattle.pid_file.specs.declared.path.Path.TheVariants.{Vendor, Device, Subsystem, Class, Subclass, ProgIf, Generic}
use Rattle.pid_file.specs.PathTexts.{IsPath, path_text}
use Rattle.pid_file.specs.Steps.Paths.{path_cmp}
use Rattle.pid_file.proofs.SeenMore.{nested_differ, one_path}
use Rattle.pid_file.specs.Trees.{text_cmp}
use Rattle.pid_file.specs.Identifiers.{hex4}
use Rattle.pid_file.specs.declared.refusal.ReadRefusal.TheVariants.{Line, TooManyEntries}
use Rattle.pid_file.specs.declared.line.Mark.{Mark}
use Rattle.pid_file.specs.declared.line.Mark.TheVariants.{Generics}
use Rattle.pid_file.specs.declared.line.Mark.TheVariants as marks
use Rattle.pid_file.specs.declared.open_levels.OpenLevels.{OpenLevels}
use Rattle.pid_file.specs.Marks.{is_idle, depth, mark, is_generics, inside}
use Rattle.pid_file.specs.Levels.{front, widths}
use Rattle.pid_file.specs.Columns.{digits_in}
use Rattle.pid_file.specs.LookingBack.{Item, is_above, above, head_path, is_block, is_entry, digits_at, path_at, name_at, entry_of, entries_back, is_known_path}
use Rattle.pid_file.specs.Faults.{has, fault_of, line_fault_of}
use Rattle.pid_file.specs.Numbered.{at_line, numbered_at}
use Rattle.pid_file.specs.Reading.{refused_at, ENTRIES}
use Rattle.pid_file.specs.OpenLevels.{IsOpenAt, Under, Below}
use Rattle.pid_file.specs.Steps.OpenLevels.{open_below}
use Rattle.pid_file.specs.Steps.LineEnds.{refusal_at}
use Rattle.pid_file.specs.LinesRead.{IsShown, IsUnder, open_head_path}
use Rattle.pid_file.specs.SeenPaths.{is_nested, block_of}
use Rattle.pid_file.specs.Steps.SeenPaths.{is_head, with_path}

abbrev pub or_kind : Option LineKind → Option LineKind → Option LineKind
or_kind (Some k) o = Some k
or_kind None o = o

abbrev six : (a b c d e f : Bool) → Option LineKind → Option LineKind
six a b c d e f x = cond a (Some NotUtf8) (cond b (Some TooDeep) (cond c (Some NoParent) (cond d (Some BadId) (cond e (Some NoName) (cond f (Some BadName) x)))))

six_then : (a b c d e f : Bool) (x : Option LineKind) → six a b c d e f x ≡ or_kind (six a b c d e f None) x
six_then true b c d e f x = refl
six_then false true c d e f x = refl
six_then false false true d e f x = refl
six_then false false false true e f x = refl
six_then false false false false true f x = refl
six_then false false false false false true x = refl
six_then false false false false false false x = refl

-- the faults that need the paths of earlier entries
abbrev pub late_fault : List (List ℕ) → List ℕ → Option LineKind
late_fault earlier line = cond (has Duplicate earlier line) (Some Duplicate) (cond (has VendorMissing earlier line) (Some VendorMissing) None)

pub split_fault : (earlier : List (List ℕ)) (line : List ℕ) → fault_of earlier line ≡ or_kind (line_fault_of earlier line) (late_fault earlier line)
split_fault earlier line = six_then (has NotUtf8 earlier line) (has TooDeep earlier line) (has NoParent earlier line) (has BadId earlier line) (has NoName earlier line) (has BadName earlier line) (late_fault earlier line)

-- a fault of the line itself
pub own_refused : (lines number : ℕ) (earlier : List (List ℕ)) (line : List ℕ) (k : LineKind) → lines ≡ length earlier → number ≡ lines + 1 → line_fault_of earlier line ≡ Some k → refusal_at earlier line ≡ Some (Line number k)
own_refused lines number earlier line k at next own =
    ap (refused_at earlier line) (split_fault earlier line ∙ ap (λ o. or_kind o (late_fault earlier line)) own) ∙ ap (λ n. Some (Line n k)) (sym (next ∙ ap (λ n. n + 1) at))

late : (earlier : List (List ℕ)) (line : List ℕ) → line_fault_of earlier line ≡ None → fault_of earlier line ≡ late_fault earlier line
late earlier line own = split_fault earlier line ∙ ap (λ o. or_kind o (late_fault earlier line)) own

abbrev one : List ℕ → List ℕ → List Item
one path name = (path, name) ∷ []

abbrev is_nil : List Item → Bool
is_nil [] = true
is_nil (x ∷ xs) = false

abbrev first_path : List Item → List ℕ
first_path [] = []
first_path (x ∷ xs) = x.0

no_entry : (earlier : List (List ℕ)) (line : List ℕ) → [] ≡ entry_of earlier line → is_entry earlier line ≡ false
no_entry earlier line h = elim (is_entry earlier line) as (λ b. [] ≡ cond b (one (path_at earlier line) (name_at earlier line)) [] → b ≡ false) [ true ↦ λ e. absurd (true≢false (ap is_nil e)) | false ↦ λ _. refl ] h

record IsEntryOf (earlier : List (List ℕ)) (line path name : List ℕ) : Type 0 where
  is_one : is_entry earlier line ≡ true
  path_is : path_at earlier line ≡ path

an_entry : (earlier : List (List ℕ)) (line path name : List ℕ) → one path name ≡ entry_of earlier line → IsEntryOf earlier line path name
an_entry earlier line path name h =
    elim (is_entry earlier line) as (λ b. is_entry earlier line ≡ b → one path name ≡ cond b (one (path_at earlier line) (name_at earlier line)) [] → IsEntryOf earlier line path name) [
      | true ↦ λ e x. record { is_one = e; path_is = sym (ap first_path x) }
      | false ↦ λ e x. absurd (false≢true (ap is_nil x))
    ] refl h

-- a line that is no entry, and has no fault
abbrev or_none : Option (List ℕ) → List ℕ
or_none None = []
or_none (Some l) = l

some_is : {a b : List ℕ} → Some a ≡ Some b → a ≡ b
some_is h = ap or_none h

-- the second byte of a path's text
abbrev second : List ℕ → ℕ
second [] = 0
second (a ∷ []) = 0
second (a ∷ b ∷ l) = b

no_second : (q : Path) (b : ℕ) → is_nested q ≡ true → second (path_text (block_of q)) ≡ b → (eqb b 67 || eqb b 68) ≡ false → ⊥
no_second (Vendor v) b n h o = false≢true n
no_second (Device v d) b n h o = true≢false (ap (λ k. eqb k 67 || eqb k 68) h ∙ o)
no_second (Subsystem v d s e) b n h o = true≢false (ap (λ k. eqb k 67 || eqb k 68) h ∙ o)
no_second (Class c) b n h o = false≢true n
no_second (Subclass c s) b n h o = true≢false (ap (λ k. eqb k 67 || eqb k 68) h ∙ o)
no_second (ProgIf c s t) b n h o = true≢false (ap (λ k. eqb k 67 || eqb k 68) h ∙ o)
no_second (Generic v d) b n h o = false≢true n

no_generic : (q : Path) (v : ℕ) → is_nested q ≡ true → path_text (block_of q) ≡ codes "PS/" ++ hex4 v → ⊥
no_generic q v n h = no_second q 83 n (ap second h) refl

-- the open head after a line
now_under : {lines : List (List ℕ)} {m : Mark} {top : List ℕ} → Under lines m top → open_head_path (above 1 lines) ≡ Some top
now_under u = ap open_head_path u.is_head ∙ ap (λ (l : List ℕ). Some l) u.path

none_zero : (n : ℕ) → n ≡ 1 → nat_lt n 1 ≡ false
none_zero n h = grind (arith, nat_tests)

and_both : (a b : Bool) → (a && b) ≡ true → (a ≡ true) × (b ≡ true)
and_both true b h = (refl, h)
and_both false b h = absurd (false≢true h)

not_head : (earlier : List (List ℕ)) (line : List ℕ) {m : Mark} {digits : List ℕ} → Below (line ∷ earlier) m digits → open_head_path (above 1 (line ∷ earlier)) ≡ open_head_path (above 1 earlier)
not_head earlier line b = elim (is_above 1 line) as (λ x. is_above 1 line ≡ x → open_head_path (cond x (Some line) (above 1 earlier)) ≡ open_head_path (above 1 earlier)) [
  | true ↦ λ up.
      let both : (not (is_idle line) ≡ true) × (nat_lt (depth line) 1 ≡ true) = and_both (not (is_idle line)) (nat_lt (depth line) 1) up in
      let low : nat_lt (depth line) 2 ≡ true = let l = both.1 in grind (arith, nat_tests) in
      let second_up : is_above 2 line ≡ true = (λ i. both.0 i && low i) in
      let opened : Some line ≡ Some b.line = sym (ap (λ x. cond x (Some line) (above 2 earlier)) second_up) ∙ b.is_open in
      let deep : depth line ≡ 1 = ap depth (some_is opened) ∙ b.nested in
      absurd (true≢false (sym both.1 ∙ none_zero (depth line) deep))
  | false ↦ λ _. refl
] refl

zero_depth : (n : ℕ) → nat_lt n 1 ≡ true → n ≡ 0
zero_depth n h = grind (arith, nat_tests)

active_is : (b : Bool) → not b ≡ true → b ≡ false
active_is true h = absurd (false≢true h)
active_is false h = refl

no_mark : (line : List ℕ) (m : Mark) → mark line ≡ m → (q : Path) → (mark line ≡ marks.Devices → true ≡ false) → (mark line ≡ marks.Classes → true ≡ false) → is_nested q ≡ true → head_path line ≡ path_text (block_of q) → ⊥
no_mark line marks.Devices is q d c n h = true≢false (d is)
no_mark line marks.Classes is q d c n h = true≢false (c is)
no_mark line marks.Generics is q d c n h = no_second q 83 n (sym (ap second h) ∙ ap (λ m. second (front m ++ digits_in (widths m 0) (inside line))) is) refl
no_mark line marks.Unknown is q d c n h = no_second q (second (digits_in [] (inside line))) n (sym (ap second h) ∙ ap (λ m. second (front m ++ digits_in (widths m 0) (inside line))) is) refl

no_head : (earlier : List (List ℕ)) (line : List ℕ) (q : Path) → is_above 1 line ≡ true → is_entry earlier line ≡ false → is_nested q ≡ true → Some (head_path line) ≡ Some (path_text (block_of q)) → ⊥
no_head earlier line q up none nested h =
    let both : (not (is_idle line) ≡ true) × (nat_lt (depth line) 1 ≡ true) = and_both (not (is_idle line)) (nat_lt (depth line) 1) up in
    let active : is_idle line ≡ false = active_is (is_idle line) both.0 in
    let flat : depth line ≡ 0 = zero_depth (depth line) both.1 in
    no_mark line (mark line) refl q
    (λ d. sym (rw (active, flat, d) refl) ∙ none)
    (λ d. sym (rw (active, flat, d) refl) ∙ none)
    nested (some_is h)

-- a line that is no entry leaves no head open but what was
still_under : (earlier : List (List ℕ)) (line : List ℕ) (q : Path) → is_entry earlier line ≡ false → is_nested q ≡ true → IsUnder (line ∷ earlier) q → IsUnder earlier q
still_under earlier line q none nested under =
    elim (is_above 1 line) as (λ b. is_above 1 line ≡ b → open_head_path (cond b (Some line) (above 1 earlier)) ≡ Some (path_text (block_of q)) → IsUnder earlier q) [
      | true ↦ λ up u. absurd (no_head earlier line q up none nested u)
      | false ↦ λ _ u. u
    ] refl under

pub quiet_good : (earlier : List (List ℕ)) (line : List ℕ) → line_fault_of earlier line ≡ None → [] ≡ entry_of earlier line → is_block line ≡ false → fault_of earlier line ≡ None
quiet_good earlier line own none block =
    let e = no_entry earlier line none in
    late earlier line own ∙ (λ i. cond (e i && is_known_path earlier (path_at earlier line)) (Some Duplicate) (cond (block i && not (is_known_path earlier (codes "PC/" ++ digits_at earlier line))) (Some VendorMissing) None))

pub quiet_taken : (now next : OpenLevels) (seen : Path → Bool) (entries lines number : ℕ) (earlier : List (List ℕ)) (line : List ℕ) → IsShown now seen entries lines earlier → number ≡ lines + 1 → [] ≡ entry_of earlier line → fault_of earlier line ≡ None → IsOpenAt next (line ∷ earlier) → IsShown next seen entries number (line ∷ earlier) × (refusal_at earlier line ≡ None) × ([] ≡ numbered_at earlier line)
quiet_taken now next seen entries lines number earlier line shown at none good behind =
    let same : entries_back (line ∷ earlier) ≡ entries_back earlier = ap (λ (es : List Item). es ++ entries_back earlier) (sym none) in
    let told : (t : List ℕ) → is_known_path earlier t ≡ is_known_path (line ∷ earlier) t = λ t. ap (λ es. is_some (value_at text_cmp t es)) (sym same) in
    let quiet = no_entry earlier line none in (
      record {
        paths = λ q r kept. shown.paths q r (λ n. still_under earlier line q quiet n (kept n)) ∙ told (path_text q);
        kin = λ q r n t. sym (told (path_text (block_of q))) ∙ shown.kin q r n (told (path_text q) ∙ t);
        open_head = λ q r n u. sym (told (path_text (block_of q))) ∙ shown.open_head q r n (still_under earlier line q quiet n u);
        count = shown.count ∙ ap length (sym same);
        levels = behind;
        number = omega (arith, shown.number, at);
      },
      ap (refused_at earlier line) good ∙ rw (no_entry earlier line none) refl,
      ap (map (at_line (length earlier + 1))) none,
    )

-- the line of a block
flat_is : (n : ℕ) → eqb n 0 ≡ true → n ≡ 0
flat_is n h = grind (arith, nat_tests)

block_line : (line : List ℕ) → is_block line ≡ true → (depth line ≡ 0) × (mark line ≡ Generics)
block_line line h =
    elim (is_idle line) as (λ i. (not i && eqb (depth line) 0 && is_generics (mark line)) ≡ true → (depth line ≡ 0) × (mark line ≡ Generics)) [
      | true ↦ λ e. absurd (false≢true e)
      | false ↦ λ e. elim (eqb (depth line) 0) as (λ z. eqb (depth line) 0 ≡ z → (z && is_generics (mark line)) ≡ true → (depth line ≡ 0) × (mark line ≡ Generics)) [
        | true ↦ λ flat x. (
          flat_is (depth line) flat,
          elim (mark line) as (λ m. is_generics m ≡ true → m ≡ Generics) [
            | marks.Devices ↦ λ y. absurd (false≢true y)
            | marks.Classes ↦ λ y. absurd (false≢true y)
            | marks.Generics ↦ λ y. refl
            | marks.Unknown ↦ λ y. absurd (false≢true y)
          ] x,
        )
        | false ↦ λ _ x. absurd (false≢true x)
      ] refl e
    ] h

block_digits : (earlier : List (List ℕ)) (line : List ℕ) (v : ℕ) → is_block line ≡ true → digits_in (4 ∷ []) (inside line) ≡ hex4 v → digits_at earlier line ≡ hex4 v
block_digits earlier line v h digits =
    let b = block_line line h in
    let same : digits_at earlier line ≡ digits_in (4 ∷ []) (inside line) = rw (b.0, b.1) refl in
    same ∙ digits

abbrev missing : List (List ℕ) → List ℕ → Bool
missing earlier path = not (is_known_path earlier path)

vendor_of : (earlier : List (List ℕ)) (line : List ℕ) (v : ℕ) → is_block line ≡ true → digits_at earlier line ≡ hex4 v → has VendorMissing earlier line ≡ missing earlier (path_text (Vendor v))
vendor_of earlier line v block digits = ap (λ b. b && missing earlier (codes "PC/" ++ digits_at earlier line)) block ∙ ap (λ (l : List ℕ). missing earlier (codes "PC/" ++ l)) digits

block_late : (earlier : List (List ℕ)) (line : List ℕ) (v : ℕ) → line_fault_of earlier line ≡ None → [] ≡ entry_of earlier line → is_block line ≡ true → digits_in (4 ∷ []) (inside line) ≡ hex4 v → fault_of earlier line ≡ cond (missing earlier (path_text (Vendor v))) (Some VendorMissing) None
block_late earlier line v own none block digits =
    let e = no_entry earlier line none in
    late earlier line own ∙ ap (λ b. cond (b && is_known_path earlier (path_at earlier line)) (Some Duplicate) (cond (has VendorMissing earlier line) (Some VendorMissing) None)) e
    ∙ ap (λ b. cond b (Some VendorMissing) None) (vendor_of earlier line v block (block_digits earlier line v block digits))

pub block_good : (now : OpenLevels) (seen : Path → Bool) (entries lines : ℕ) (earlier : List (List ℕ)) (line : List ℕ) (v : ℕ) → IsPath (Vendor v) → IsShown now seen entries lines earlier → line_fault_of earlier line ≡ None → [] ≡ entry_of earlier line → is_block line ≡ true → digits_in (4 ∷ []) (inside line) ≡ hex4 v → seen (Vendor v) ≡ true → fault_of earlier line ≡ None
block_good now seen entries lines earlier line v range shown own none block digits there =
    block_late earlier line v own none block digits ∙ ap (λ b. cond (not b) (Some VendorMissing) None) (sym (shown.paths (Vendor v) range (λ n. absurd (false≢true n))) ∙ there)

pub block_refused : (now : OpenLevels) (seen : Path → Bool) (entries lines number : ℕ) (earlier : List (List ℕ)) (line : List ℕ) (v : ℕ) → IsPath (Vendor v) → IsShown now seen entries lines earlier → number ≡ lines + 1 → line_fault_of earlier line ≡ None → [] ≡ entry_of earlier line → is_block line ≡ true → digits_in (4 ∷ []) (inside line) ≡ hex4 v → seen (Vendor v) ≡ false → refusal_at earlier line ≡ Some (Line number VendorMissing)
block_refused now seen entries lines number earlier line v range shown next own none block digits absent =
    let fault : fault_of earlier line ≡ Some VendorMissing = block_late earlier line v own none block digits ∙ ap (λ b. cond (not b) (Some VendorMissing) None) (sym (shown.paths (Vendor v) range (λ n. absurd (false≢true n))) ∙ absent) in
    ap (refused_at earlier line) fault ∙ ap (λ n. Some (Line n VendorMissing)) (sym (next ∙ ap (λ n. n + 1) shown.number))

-- the line of an entry
entry_late : (now : OpenLevels) (seen : Path → Bool) (entries lines : ℕ) (earlier : List (List ℕ)) (line name : List ℕ) (p : Path) → IsPath p → (is_nested p ≡ true → IsUnder earlier p) → IsShown now seen entries lines earlier → line_fault_of earlier line ≡ None → (path_text p, name) ∷ [] ≡ entry_of earlier line → is_block line ≡ false → fault_of earlier line ≡ cond (seen p) (Some Duplicate) None
entry_late now seen entries lines earlier line name p range kept shown own entry block =
    let e = an_entry earlier line (path_text p) name entry in
    let told : is_known_path earlier (path_at earlier line) ≡ seen p = ap (is_known_path earlier) e.path_is ∙ sym (shown.paths p range kept) in
    late earlier line own ∙ (λ i. cond (e.is_one i && told i) (Some Duplicate) (cond (block i && missing earlier (codes "PC/" ++ digits_at earlier line)) (Some VendorMissing) None))

pub duplicate_refused : (now : OpenLevels) (seen : Path → Bool) (entries lines number : ℕ) (earlier : List (List ℕ)) (line name : List ℕ) (p : Path) → IsPath p → (is_nested p ≡ true → IsUnder earlier p) → IsShown now seen entries lines earlier → number ≡ lines + 1 → line_fault_of earlier line ≡ None → (path_text p, name) ∷ [] ≡ entry_of earlier line → is_block line ≡ false → seen p ≡ true → refusal_at earlier line ≡ Some (Line number Duplicate)
duplicate_refused now seen entries lines number earlier line name p range kept shown next own entry block there =
    let fault : fault_of earlier line ≡ Some Duplicate = entry_late now seen entries lines earlier line name p range kept shown own entry block ∙ ap (λ b. cond b (Some Duplicate) None) there in
    ap (refused_at earlier line) fault ∙ ap (λ n. Some (Line n Duplicate)) (sym (next ∙ ap (λ n. n + 1) shown.number))

new_good : (now : OpenLevels) (seen : Path → Bool) (entries lines : ℕ) (earlier : List (List ℕ)) (line name : List ℕ) (p : Path) → IsPath p → (is_nested p ≡ true → IsUnder earlier p) → IsShown now seen entries lines earlier → line_fault_of earlier line ≡ None → (path_text p, name) ∷ [] ≡ entry_of earlier line → is_block line ≡ false → seen p ≡ false → fault_of earlier line ≡ None
new_good now seen entries lines earlier line name p range kept shown own entry block absent = entry_late now seen entries lines earlier line name p range kept shown own entry block ∙ ap (λ b. cond b (Some Duplicate) None) absent

is_full : (n : ℕ) → ENTRIES ≤ n → leb ENTRIES n ≡ true
is_full n h = grind (arith, nat_tests)

has_room : (n : ℕ) → n < ENTRIES → leb ENTRIES n ≡ false
has_room n h = grind (arith, nat_tests)

pub many_refused : (now : OpenLevels) (seen : Path → Bool) (entries lines : ℕ) (earlier : List (List ℕ)) (line name : List ℕ) (p : Path) → IsPath p → (is_nested p ≡ true → IsUnder earlier p) → IsShown now seen entries lines earlier → line_fault_of earlier line ≡ None → (path_text p, name) ∷ [] ≡ entry_of earlier line → is_block line ≡ false → seen p ≡ false → ENTRIES ≤ entries → refusal_at earlier line ≡ Some TooManyEntries
many_refused now seen entries lines earlier line name p range kept shown own entry block absent many =
    let e = an_entry earlier line (path_text p) name entry in
    let full : leb ENTRIES (length (entries_back earlier)) ≡ true = subst (λ n. leb ENTRIES n ≡ true) shown.count (is_full entries many) in
    ap (refused_at earlier line) (new_good now seen entries lines earlier line name p range kept shown own entry block absent) ∙ (λ i. cond (e.is_one i && full i) (Some TooManyEntries) None)

one_more_value : (b : Bool) (n : List ℕ) (o : Option (List ℕ)) → cond b true (is_some o) ≡ is_some (cond b (Some n) o)
one_more_value true n o = refl
one_more_value false n o = refl

-- what is open after an entry: what was, or the entry itself
pub was_under : (p : Path) (earlier : List (List ℕ)) (line : List ℕ) → is_nested p ≡ true → IsOpenAt (open_below p) (line ∷ earlier) → IsUnder (line ∷ earlier) p × (open_head_path (above 1 (line ∷ earlier)) ≡ open_head_path (above 1 earlier))
was_under (Vendor v) earlier line n o = absurd (false≢true n)
was_under (Device v d) earlier line n o = (now_under o.0, not_head earlier line o.1)
was_under (Subsystem v d s e) earlier line n o = (now_under o.0, not_head earlier line o.1)
was_under (Class c) earlier line n o = absurd (false≢true n)
was_under (Subclass c s) earlier line n o = (now_under o.0, not_head earlier line o.1)
was_under (ProgIf c s t) earlier line n o = (now_under o.0, not_head earlier line o.1)
was_under (Generic v d) earlier line n o = absurd (false≢true n)

pub kept_by : (p : Path) (earlier : List (List ℕ)) (line : List ℕ) → IsOpenAt (open_below p) (line ∷ earlier) → is_nested p ≡ true → IsUnder earlier p
kept_by p earlier line o n = let w = was_under p earlier line n o in sym w.1 ∙ w.0

-- another path below the head that is open after an entry
other_under : (p q : Path) (earlier : List (List ℕ)) (line : List ℕ) → is_head p ≡ false → IsOpenAt (open_below p) (line ∷ earlier) → is_nested q ≡ true → IsUnder (line ∷ earlier) q → IsUnder earlier q
other_under (Vendor v) q earlier line h o n u = absurd (true≢false h)
other_under (Device v d) q earlier line h o n u = sym (was_under (Device v d) earlier line refl o).1 ∙ u
other_under (Subsystem v d s e) q earlier line h o n u = sym (was_under (Subsystem v d s e) earlier line refl o).1 ∙ u
other_under (Class c) q earlier line h o n u = absurd (true≢false h)
other_under (Subclass c s) q earlier line h o n u = sym (was_under (Subclass c s) earlier line refl o).1 ∙ u
other_under (ProgIf c s t) q earlier line h o n u = sym (was_under (ProgIf c s t) earlier line refl o).1 ∙ u
other_under (Generic v d) q earlier line h o n u = absurd (no_generic q v n (some_is (sym u ∙ now_under o)))

-- the head that is open after the line of a head
own_head : (p q : Path) (earlier : List (List ℕ)) (line : List ℕ) → is_head p ≡ true → IsOpenAt (open_below p) (line ∷ earlier) → IsUnder (line ∷ earlier) q → path_text (block_of q) ≡ path_text p
own_head (Vendor v) q earlier line h o u = some_is (sym u ∙ now_under o.0)
own_head (Device v d) q earlier line h o u = absurd (false≢true h)
own_head (Subsystem v d s e) q earlier line h o u = absurd (false≢true h)
own_head (Class c) q earlier line h o u = some_is (sym u ∙ now_under o.0)
own_head (Subclass c s) q earlier line h o u = absurd (false≢true h)
own_head (ProgIf c s t) q earlier line h o u = absurd (false≢true h)
own_head (Generic v d) q earlier line h o u = absurd (false≢true h)

false_by : (b : Bool) → (b ≡ true → false ≡ true) → b ≡ false
false_by true h = sym (h refl)
false_by false h = refl

more_true : (b x : Bool) → x ≡ true → cond b true x ≡ true
more_true true x h = refl
more_true false x h = h

pub item_taken : (now next : OpenLevels) (seen more : Path → Bool) (entries lines number : ℕ) (earlier : List (List ℕ)) (line name : List ℕ) (p : Path) → IsPath p → next ≡ open_below p → IsShown now seen entries lines earlier → number ≡ lines + 1 → line_fault_of earlier line ≡ None → (path_text p, name) ∷ [] ≡ entry_of earlier line → is_block line ≡ false → seen p ≡ false → entries < ENTRIES → ((q : Path) → IsPath q → more q ≡ with_path seen p q) → IsOpenAt next (line ∷ earlier) → IsShown next more (entries + 1) number (line ∷ earlier) × (refusal_at earlier line ≡ None) × ((number, (path_text p, name)) ∷ [] ≡ numbered_at earlier line)
item_taken now next seen more entries lines number earlier line name p range is_next shown at own entry block absent few one_more behind =
    let open_is : IsOpenAt (open_below p) (line ∷ earlier) = subst (λ o. IsOpenAt o (line ∷ earlier)) is_next behind in
    let kept : is_nested p ≡ true → IsUnder earlier p = kept_by p earlier line open_is in
    let e = an_entry earlier line (path_text p) name entry in
    let room : leb ENTRIES (length (entries_back earlier)) ≡ false = subst (λ n. leb ENTRIES n ≡ false) shown.count (has_room entries few) in
    let count : number ≡ length earlier + 1 = omega (arith, shown.number, at) in
    let items : entries_back (line ∷ earlier) ≡ (path_text p, name) ∷ entries_back earlier = ap (λ (es : List Item). es ++ entries_back earlier) (sym entry) in
    let told : (q : Path) → cond (is_eq (path_cmp q p)) true (is_known_path earlier (path_text q)) ≡ is_known_path (line ∷ earlier) (path_text q) = λ q.
    one_more_value (is_eq (path_cmp q p)) name (value_at text_cmp (path_text q) (entries_back earlier))
    ∙ ap (λ es. is_some (value_at text_cmp (path_text q) es)) (sym items) in
    let later : (q : Path) → is_known_path earlier (path_text q) ≡ true → is_known_path (line ∷ earlier) (path_text q) ≡ true = λ q t. sym (told q) ∙ more_true (is_eq (path_cmp q p)) (is_known_path earlier (path_text q)) t in
    let p_new : is_known_path earlier (path_text p) ≡ false = sym (shown.paths p range kept) ∙ absent in
    let p_told : is_known_path (line ∷ earlier) (path_text p) ≡ true = sym (told p) ∙ ap (λ b. cond b true (is_known_path earlier (path_text p))) (ap is_eq (tied_itself nat_list_cmp_total (path_text p))) in (
      record {
        paths = λ q r under.
            one_more q r
            ∙ elim (is_head p) as (λ h. is_head p ≡ h → cond (h && is_nested q) false (cond (is_eq (path_cmp q p)) true (seen q)) ≡ is_known_path (line ∷ earlier) (path_text q)) [
              | true ↦ λ head. elim (is_nested q) as (λ n. is_nested q ≡ n → cond n false (cond (is_eq (path_cmp q p)) true (seen q)) ≡ is_known_path (line ∷ earlier) (path_text q)) [
                | true ↦ λ n.
                    let above_is : path_text (block_of q) ≡ path_text p = own_head p q earlier line head open_is (under n) in
                    let unseen : is_known_path earlier (path_text q) ≡ false = false_by (is_known_path earlier (path_text q)) (λ t. sym p_new ∙ ap (is_known_path earlier) (sym above_is) ∙ shown.kin q r n t) in
                    sym ((λ i. cond (nested_differ p q range r head n i) true (unseen i))) ∙ told q
                | false ↦ λ n. ap (cond (is_eq (path_cmp q p)) true) (shown.paths q r (λ y. absurd (false≢true (sym n ∙ y)))) ∙ told q
              ] refl
              | false ↦ λ head. ap (cond (is_eq (path_cmp q p)) true) (shown.paths q r (λ n. other_under p q earlier line head open_is n (under n))) ∙ told q
            ] refl;
        kin = λ q r n t.
            elim (is_eq (path_cmp q p)) as (λ b. is_eq (path_cmp q p) ≡ b → cond b true (is_known_path earlier (path_text q)) ≡ true → is_known_path (line ∷ earlier) (path_text (block_of q)) ≡ true) [
              | true ↦ λ same _.
                  let is_p : q ≡ p = one_path p q range r same in
                  later (block_of q) (shown.open_head q r n (subst (λ k. is_nested k ≡ true → IsUnder earlier k) (sym is_p) kept n))
              | false ↦ λ _ s. later (block_of q) (shown.kin q r n s)
            ] refl (told q ∙ t);
        open_head = λ q r n u.
            elim (is_head p) as (λ h. is_head p ≡ h → is_known_path (line ∷ earlier) (path_text (block_of q)) ≡ true) [
              | true ↦ λ head. ap (is_known_path (line ∷ earlier)) (own_head p q earlier line head open_is u) ∙ p_told
              | false ↦ λ head. later (block_of q) (shown.open_head q r n (other_under p q earlier line head open_is n u))
            ] refl;
        count = ap (λ n. n + 1) shown.count ∙ omega arith ∙ ap length (sym items);
        levels = behind;
        number = omega (arith, shown.number, at);
      },
      ap (refused_at earlier line) (new_good now seen entries lines earlier line name p range kept shown own entry block absent) ∙ (λ i. cond (e.is_one i && room i) (Some TooManyEntries) None),
      ap (map (at_line number)) entry ∙ ap (λ n. map (at_line n) (entry_of earlier line)) count,
    )

pub not_true : (b : Bool) → not b ≡ true → b ≡ false
not_true false e = refl
not_true true e = absurd (false≢true e)

pub not_false : (b : Bool) → not b ≡ false → b ≡ true
not_false true e = refl
not_false false e = absurd (true≢false e)
