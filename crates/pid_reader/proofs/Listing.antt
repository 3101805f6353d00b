-- Items in order, each behind its parent, are what their lines say.
use Rattle.std.proofs.Common.{◌≡◌, ℕ, true, false, cond, not, List, [], ◌∷◌, ◌++◌, take, drop, Some, None, refl, sym, ap, subst, ◌∙◌}
use mathlib.Core.Bool.{false≢true, true≢false}
use lib.Utf8.{encode}
use Rattle.std.specs.Str.{is_utf8, chars}
use Rattle.std.specs.Prelude.{IsSome, IfSome, codes}
use Rattle.std.specs.declared.cmp.Ordering.{Ordering}
use Rattle.std.specs.declared.cmp.Ordering.TheVariants.{Less, Equal, Greater}
use Rattle.std.specs.Ordering.{nat_cmp, ordering_then, ordering_reverse, is_eq, is_gt}
use Rattle.std.proofs.lemmas.Cmp.{nat_list_cmp_total, nat_cmp_total}
use Rattle.std.proofs.lemmas.List.{take-append-drop}
use Rattle.std.specs.FinMap.{slice_cmp-IsAntisymmetric, nat_cmp-IsAntisymmetric}
use Rattle.std.specs.FinMap.Entries.{find as value_at}
use Rattle.std.specs.List.{AllByRecursion}
use Rattle.pid_file.specs.declared.path.Path.{Path}
use Rattle.pid_file.specs.declared.path.Path.TheVariants.{Vendor, Device, Subsystem, Class, Subclass, ProgIf, Generic}
use Rattle.pid_file.specs.PathTexts.{path_text, parent_of}
use Rattle.pid_file.specs.Words.{is_name}
use Rattle.pid_file.specs.Identifiers.{hex4, hex2}
use Rattle.pid_file.specs.declared.line.Mark.TheVariants.{Devices, Classes, Generics}
use Rattle.pid_file.specs.LookingBack.{entries_back}
use Rattle.pid_file.specs.Reading.{AreGood}
use Rattle.pid_file.specs.Faults.{fault_of}
use Rattle.pid_file.specs.Trees.{text_cmp}
use Rattle.pid_file.specs.Printing.{item_line, block_line, opens_block, header}
use Rattle.pid_reader.proofs.Written.{written4, written2, written44, bare, lettered, one_tab, two_tabs}
use Rattle.pid_reader.proofs.Steps.{Says, IsRow, Under, Below, IsOpen, OneMore, says_head, says_one, says_two, one_more, says_block, under_head, under_nested, below_one, below_two}

abbrev pub Items : Type 0
Items = List (List ℕ × List ℕ)

-- the path of the last item
abbrev pub last_path : Items → List ℕ
last_path [] = []
last_path (e ∷ rs) = e.0

-- the lines of items, of which the last is the first here
abbrev pub lines_back : Items → List (List ℕ)
lines_back [] = header ∷ []
lines_back (e ∷ rs) = item_line e ∷ (cond (opens_block (last_path rs) e.0) (block_line e.0 ∷ []) [] ++ lines_back rs)

-- an item that comes after others, the last of them first
pub record IsNext (rs : Items) (path : Path) (name : List ℕ) : Type 0 where
  pub named : is_name name ≡ true
  pub above : AllByRecursion (λ f. text_cmp f.0 (path_text path) ≡ Less) rs
  pub parent : IfSome (parent_of path) (λ q. IsSome (value_at text_cmp (path_text q) rs))

abbrev pub IsListing : Items → Type 0
IsListing [] = Unit {0}
IsListing (e ∷ rs) = ((path : Path) × (e.0 ≡ path_text path) × IsNext rs path e.1) × IsListing rs

same_texts : (a b : List ℕ) → text_cmp a b ≡ Equal → a ≡ b
same_texts = slice_cmp-IsAntisymmetric nat_cmp-IsAntisymmetric

-- a key above all others is new
pub new_key : (rs : Items) (k : List ℕ) → AllByRecursion (λ f. text_cmp f.0 k ≡ Less) rs → value_at text_cmp k rs ≡ None
new_key [] k h = refl
new_key (f ∷ rs) k h = rw (nat_list_cmp_total.antisymm k f.0 ∙ ap ordering_reverse h.0) (new_key rs k h.1)

-- one that is found among others is below what all of them are below
found_less : (rs : Items) (q k : List ℕ) → AllByRecursion (λ f. text_cmp f.0 k ≡ Less) rs → IsSome (value_at text_cmp q rs) → text_cmp q k ≡ Less
found_less [] q k h found = absurd (false≢true found)
found_less (f ∷ rs) q k h found =
    elim (text_cmp q f.0) as (λ o. text_cmp q f.0 ≡ o → IsSome (cond (is_eq o) (Some f.1) (value_at text_cmp q rs)) → text_cmp q k ≡ Less) [
      | Less ↦ λ e s. found_less rs q k h.1 s
      | Equal ↦ λ e s. nat_list_cmp_total.congr q f.0 k e ∙ h.0
      | Greater ↦ λ e s. found_less rs q k h.1 s
    ] refl found

-- a text from q on and below q with more begins with q
begins : (q s y : List ℕ) → is_gt (text_cmp q s) ≡ false → text_cmp s (q ++ y) ≡ Less → (x : List ℕ) × (s ≡ q ++ x)
begins [] s y low high = (s, refl)
begins (a ∷ q) [] y low high = absurd (true≢false low)
begins (a ∷ q) (b ∷ s) y low high =
    elim (nat_cmp a b) as (λ o. nat_cmp a b ≡ o → is_gt (ordering_then o (text_cmp q s)) ≡ false → (x : List ℕ) × (b ∷ s ≡ a ∷ q ++ x)) [
      | Less ↦ λ e l.
          let back : nat_cmp b a ≡ Greater = nat_cmp_total.antisymm b a ∙ ap ordering_reverse e in
          let wrong : Greater ≡ Less = sym (ap (λ o. ordering_then o (text_cmp s (q ++ y))) back) ∙ high in
          absurd (true≢false (ap is_gt wrong))
      | Equal ↦ λ e l.
          let same : b ≡ a = sym (nat_cmp-IsAntisymmetric a b e) in
          let back : nat_cmp b a ≡ Equal = nat_cmp_total.antisymm b a ∙ ap ordering_reverse e in
          let rest = begins q s y l (sym (ap (λ o. ordering_then o (text_cmp s (q ++ y))) back) ∙ high) in
          (rest.0, λ i. same i ∷ rest.1 i)
      | Greater ↦ λ e l. absurd (true≢false l)
    ] refl low

-- the last item begins with an earlier one that the next begins with
last_begins : (rs : Items) (q y : List ℕ) → IsListing rs → AllByRecursion (λ f. text_cmp f.0 (q ++ y) ≡ Less) rs → IsSome (value_at text_cmp q rs) → (x : List ℕ) × (last_path rs ≡ q ++ x)
last_begins [] q y listing above found = absurd (false≢true found)
last_begins (f ∷ rs) q y listing above found =
    let f_is : f.0 ≡ path_text listing.0.0 = listing.0.1 in
    let below : AllByRecursion (λ g. text_cmp g.0 f.0 ≡ Less) rs = subst (λ (k : List ℕ). AllByRecursion (λ g. text_cmp g.0 k ≡ Less) rs) (sym f_is) listing.0.2.above in
    let low : is_gt (text_cmp q f.0) ≡ false =
    elim (text_cmp q f.0) as (λ o. text_cmp q f.0 ≡ o → IsSome (cond (is_eq o) (Some f.1) (value_at text_cmp q rs)) → is_gt o ≡ false) [
      | Less ↦ λ e s. refl
      | Equal ↦ λ e s. refl
      | Greater ↦ λ e s. let less : text_cmp q f.0 ≡ Less = found_less rs q f.0 below s in absurd (true≢false (ap is_gt (sym e ∙ less)))
    ] refl found in
    begins q f.0 y low above.0

-- which lines are open behind the items
abbrev pub IsOpenAfter : Items → Type 0
IsOpenAfter [] = Unit {0}
IsOpenAfter (e ∷ rs) = IsOpen (lines_back (e ∷ rs)) e.0

pub record IsReported (rs : Items) : Type 0 where
  pub entries : entries_back (lines_back rs) ≡ rs
  pub good : AreGood (lines_back rs)
  pub is_open : IsOpenAfter rs

-- where the last path begins with another one
open_at : (rs : Items) (top rest : List ℕ) (t : ℕ) → IsReported rs → last_path rs ≡ t ∷ top ++ rest → IsOpen (lines_back rs) (t ∷ top ++ rest)
open_at [] top rest t told e = absurd cc
open_at (f ∷ rs) top rest t told e = subst (λ (k : List ℕ). IsOpen (lines_back (f ∷ rs)) k) e told.is_open

-- the step for each depth
step : (rs : Items) (earlier : List (List ℕ)) (line path name : List ℕ) → entries_back earlier ≡ rs → AllByRecursion (λ f. text_cmp f.0 path ≡ Less) rs → Says earlier line path name → OneMore earlier line path name
step rs earlier line path name same above says = one_more earlier line path name says (rw same (new_key rs path above))

told_vendor : (rs : Items) (v : ℕ) (name : List ℕ) → IsNext rs (Vendor v) name → IsReported rs → IsReported ((path_text (Vendor v), name) ∷ rs)
told_vendor rs v name next told =
    let earlier = lines_back rs in
    let w = written4 v name next.named in
    let row : IsRow Devices 0 (4 ∷ []) = record { known = refl; width = refl; within = refl } in
    let more = step rs earlier _ (path_text (Vendor v)) name told.entries next.above (says_head earlier _ _ _ _ name Devices row refl (bare w) w) in
    record {
      entries = more.entries ∙ rw told.entries refl;
      good = (more.good, told.good);
      is_open = record { under = under_head earlier _ _ _ _ name Devices row (bare w) w; below = λ h. absurd (true≢false h) };
    }

told_class : (rs : Items) (c : ℕ) (name : List ℕ) → IsNext rs (Class c) name → IsReported rs → IsReported ((path_text (Class c), name) ∷ rs)
told_class rs c name next told =
    let earlier = lines_back rs in
    let w = written2 c name next.named in
    let row : IsRow Classes 0 (2 ∷ []) = record { known = refl; width = refl; within = refl } in
    let more = step rs earlier _ (path_text (Class c)) name told.entries next.above (says_head earlier _ _ _ _ name Classes row refl (lettered w) w) in
    record {
      entries = more.entries ∙ rw told.entries refl;
      good = (more.good, told.good);
      is_open = record { under = under_head earlier _ _ _ _ name Classes row (lettered w) w; below = λ h. absurd (true≢false h) };
    }

told_device : (rs : Items) (v d : ℕ) (name : List ℕ) → IsListing rs → IsNext rs (Device v d) name → IsReported rs → IsReported ((path_text (Device v d), name) ∷ rs)
told_device rs v d name listing next told =
    let earlier = lines_back rs in
    let w = written4 d name next.named in
    let row : IsRow Devices 1 (4 ∷ []) = record { known = refl; width = refl; within = refl } in
    let last = last_begins rs (path_text (Vendor v)) (47 ∷ hex4 d) listing next.above next.parent in
    let under : Under earlier Devices (path_text (Vendor v)) = (open_at rs (67 ∷ 47 ∷ hex4 v) last.0 80 told last.1).under in
    let more = step rs earlier _ (path_text (Device v d)) name told.entries next.above (says_one earlier _ _ _ _ name (path_text (Vendor v)) Devices row (one_tab w) w under) in
    record {
      entries = more.entries ∙ rw told.entries refl;
      good = (more.good, told.good);
      is_open = record { under = under_nested earlier _ _ _ Devices 1 refl (one_tab w) under; below = λ h. below_one earlier _ _ _ _ name Devices row (one_tab w) w };
    }

told_subclass : (rs : Items) (c s : ℕ) (name : List ℕ) → IsListing rs → IsNext rs (Subclass c s) name → IsReported rs → IsReported ((path_text (Subclass c s), name) ∷ rs)
told_subclass rs c s name listing next told =
    let earlier = lines_back rs in
    let w = written2 s name next.named in
    let row : IsRow Classes 1 (2 ∷ []) = record { known = refl; width = refl; within = refl } in
    let last = last_begins rs (path_text (Class c)) (47 ∷ hex2 s) listing next.above next.parent in
    let under : Under earlier Classes (path_text (Class c)) = (open_at rs (68 ∷ 47 ∷ hex2 c) last.0 80 told last.1).under in
    let more = step rs earlier _ (path_text (Subclass c s)) name told.entries next.above (says_one earlier _ _ _ _ name (path_text (Class c)) Classes row (one_tab w) w under) in
    record {
      entries = more.entries ∙ rw told.entries refl;
      good = (more.good, told.good);
      is_open = record { under = under_nested earlier _ _ _ Classes 1 refl (one_tab w) under; below = λ h. below_one earlier _ _ _ _ name Classes row (one_tab w) w };
    }

told_subsystem : (rs : Items) (v d s e : ℕ) (name : List ℕ) → IsListing rs → IsNext rs (Subsystem v d s e) name → IsReported rs → IsReported ((path_text (Subsystem v d s e), name) ∷ rs)
told_subsystem rs v d s e name listing next told =
    let earlier = lines_back rs in
    let w = written44 s e name next.named in
    let row : IsRow Devices 2 (4 ∷ 4 ∷ []) = record { known = refl; width = refl; within = refl } in
    let last = last_begins rs (path_text (Device v d)) (47 ∷ hex4 s ++ hex4 e) listing next.above next.parent in
    let opened : IsOpen earlier (path_text (Device v d) ++ last.0) = open_at rs (67 ∷ 47 ∷ hex4 v ++ 47 ∷ hex4 d) last.0 80 told last.1 in
    let under : Under earlier Devices (path_text (Vendor v)) = opened.under in
    let below : Below earlier Devices (hex4 d) = opened.below refl in
    let more = step rs earlier _ (path_text (Subsystem v d s e)) name told.entries next.above (says_two earlier _ _ _ _ name (path_text (Vendor v)) (hex4 d) Devices row (two_tabs w) w under below) in
    record {
      entries = more.entries ∙ rw told.entries refl;
      good = (more.good, told.good);
      is_open = record { under = under_nested earlier _ _ _ Devices 2 refl (two_tabs w) under; below = λ h. below_two earlier _ _ _ Devices (two_tabs w) below };
    }

told_progif : (rs : Items) (c s p : ℕ) (name : List ℕ) → IsListing rs → IsNext rs (ProgIf c s p) name → IsReported rs → IsReported ((path_text (ProgIf c s p), name) ∷ rs)
told_progif rs c s p name listing next told =
    let earlier = lines_back rs in
    let w = written2 p name next.named in
    let row : IsRow Classes 2 (2 ∷ []) = record { known = refl; width = refl; within = refl } in
    let last = last_begins rs (path_text (Subclass c s)) (47 ∷ hex2 p) listing next.above next.parent in
    let opened : IsOpen earlier (path_text (Subclass c s) ++ last.0) = open_at rs (68 ∷ 47 ∷ hex2 c ++ 47 ∷ hex2 s) last.0 80 told last.1 in
    let under : Under earlier Classes (path_text (Class c)) = opened.under in
    let below : Below earlier Classes (hex2 s) = opened.below refl in
    let more = step rs earlier _ (path_text (ProgIf c s p)) name told.entries next.above (says_two earlier _ _ _ _ name (path_text (Class c)) (hex2 s) Classes row (two_tabs w) w under below) in
    record {
      entries = more.entries ∙ rw told.entries refl;
      good = (more.good, told.good);
      is_open = record { under = under_nested earlier _ _ _ Classes 2 refl (two_tabs w) under; below = λ h. below_two earlier _ _ _ Classes (two_tabs w) below };
    }

-- the lines before a generic subsystem: its block is open behind them
record IsBlockOpen (rs : Items) (earlier : List (List ℕ)) (top : List ℕ) : Type 0 where
  entries : entries_back earlier ≡ rs
  good : AreGood earlier
  under : Under earlier Generics top

is_equal : (o : Ordering) → not (is_eq o) ≡ false → o ≡ Equal
is_equal Less h = absurd (true≢false h)
is_equal Equal h = refl
is_equal Greater h = absurd (true≢false h)

block_open : (rs : Items) (v d : ℕ) (name : List ℕ) → IsNext rs (Generic v d) name → IsReported rs → IsBlockOpen rs (cond (opens_block (last_path rs) (path_text (Generic v d))) (block_line (path_text (Generic v d)) ∷ []) [] ++ lines_back rs) (codes "PS/" ++ hex4 v)
block_open rs v d name next told =
    let top = codes "PS/" ++ hex4 v in
    elim (opens_block (last_path rs) (path_text (Generic v d))) as (λ b. opens_block (last_path rs) (path_text (Generic v d)) ≡ b → IsBlockOpen rs (cond b (block_line (path_text (Generic v d)) ∷ []) [] ++ lines_back rs) top) [
      | true ↦ λ h.
          let block = says_block (lines_back rs) v (rw told.entries next.parent) in
          record { entries = block.entries ∙ told.entries; good = (block.good, told.good); under = block.under }
      | false ↦ λ h.
          let front_is : take 7 (last_path rs) ≡ top = same_texts (take 7 (last_path rs)) top (is_equal _ h) in
          let whole : last_path rs ≡ top ++ drop 7 (last_path rs) = sym (take-append-drop 7 (last_path rs)) ∙ ap (λ (l : List ℕ). l ++ drop 7 (last_path rs)) front_is in
          record { entries = told.entries; good = told.good; under = (open_at rs (83 ∷ 47 ∷ hex4 v) (drop 7 (last_path rs)) 80 told whole).under }
    ] refl

told_generic : (rs : Items) (v d : ℕ) (name : List ℕ) → IsNext rs (Generic v d) name → IsReported rs → IsReported ((path_text (Generic v d), name) ∷ rs)
told_generic rs v d name next told =
    let earlier = cond (opens_block (last_path rs) (path_text (Generic v d))) (block_line (path_text (Generic v d)) ∷ []) [] ++ lines_back rs in
    let block : IsBlockOpen rs earlier (codes "PS/" ++ hex4 v) = block_open rs v d name next told in
    let w = written4 d name next.named in
    let row : IsRow Generics 1 (4 ∷ []) = record { known = refl; width = refl; within = refl } in
    let more = step rs earlier _ (path_text (Generic v d)) name block.entries next.above (says_one earlier _ _ _ _ name (codes "PS/" ++ hex4 v) Generics row (one_tab w) w block.under) in
    record {
      entries = more.entries ∙ rw block.entries refl;
      good = (more.good, block.good);
      is_open = record { under = under_nested earlier _ _ _ Generics 1 refl (one_tab w) block.under; below = λ h. absurd (true≢false h) };
    }

header_good : fault_of [] header ≡ None
unfolding is_utf8 chars encode
header_good = refl

pub told : (rs : Items) → IsListing rs → IsReported rs
told [] listing = record { entries = refl; good = (header_good, tt); is_open = tt }
told (e ∷ rs) listing =
    let next = listing.0 in
    let rest = told rs listing.1 in
    subst (λ (k : List ℕ). IsReported ((k, e.1) ∷ rs)) (sym next.1) (elim next.0 as (λ p. IsNext rs p e.1 → IsReported ((path_text p, e.1) ∷ rs)) [
      | Vendor v ↦ λ n. told_vendor rs v e.1 n rest
      | Device v d ↦ λ n. told_device rs v d e.1 listing.1 n rest
      | Subsystem v d s u ↦ λ n. told_subsystem rs v d s u e.1 listing.1 n rest
      | Class c ↦ λ n. told_class rs c e.1 n rest
      | Subclass c s ↦ λ n. told_subclass rs c s e.1 listing.1 n rest
      | ProgIf c s p ↦ λ n. told_progif rs c s p e.1 listing.1 n rest
      | Generic v d ↦ λ n. told_generic rs v d e.1 n rest
    ] next.2)
