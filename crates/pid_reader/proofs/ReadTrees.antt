-- What a text without faults says is a tree.
use Rattle.std.proofs.Common.{◌≡◌, ℕ, zero, suc, Bool, true, false, cond, not, ◌&&◌, leb, List, [], ◌∷◌, ◌++◌, length, Option, Some, None, refl, sym, ap, subst, ◌∙◌, arith}
use mathlib.Core.Bool.{false≢true, true≢false}
use Rattle.std.specs.Prelude.{IsSome, IfSome, IsTrue, is_none, unwrap_or}
use Rattle.std.specs.List.{AllByRecursion}
use Rattle.std.specs.declared.cmp.Ordering.TheVariants.{Less, Equal, Greater}
use Rattle.std.specs.Ordering.{is_eq}
use Rattle.std.specs.FinMap.{get, from_entries, get-from_entries, slice_cmp-IsAntisymmetric, nat_cmp-IsAntisymmetric}
use Rattle.std.specs.FinMap.Entries.{find as value_at}
use Rattle.std.proofs.lemmas.Cmp.{nat_list_cmp_total}
use Rattle.std.proofs.lemmas.Bool.Decides.{nat_tests}
use Rattle.pid_file.specs.declared.path.Path.{Path}
use Rattle.pid_file.specs.declared.path.Path.TheVariants.{Vendor, Device, Subsystem, Class, Subclass, ProgIf, Generic}
use Rattle.pid_ident.specs.PathReading.{parent_text}
use Rattle.pid_file.specs.PathTexts.{path_text, parent_of}
use Rattle.pid_file.specs.Words.{is_name}
use Rattle.pid_file.specs.declared.line.Mark.{Mark}
use Rattle.pid_file.specs.declared.line.Mark.TheVariants.{Devices, Classes, Generics, Unknown}
use Rattle.pid_file.specs.Marks.{is_idle, depth, mark, is_unknown, is_generics}
use Rattle.pid_file.specs.Levels.{levels}
use Rattle.pid_file.specs.Reading.{Reads, history_of, AreGood}
use Rattle.pid_file.specs.Faults.{fault_of}
use Rattle.pid_file.specs.LookingBack.{above, mark_at, if_depth, entries_back, is_block, is_entry, path_at, name_at}
use Rattle.pid_file.specs.Trees.{TreeMap, IsTree, text_cmp}
use Rattle.pid_reader.proofs.Written.{both_true, not_true}
use Rattle.pid_reader.proofs.Clean.{IsClean, clean, IsToldBy, told_on, nearest}
use Rattle.pid_reader.proofs.Sound.{IsKept, kept_vendor, kept_class, kept_device, kept_subclass, kept_generic, kept_subsystem, kept_progif, has_upper, above_two}

too_deep : (m : Mark) (n : ℕ) → leb (length (levels m)) (suc (suc (suc n))) ≡ true
too_deep Devices n = grind (arith, nat_tests)
too_deep Classes n = grind (arith, nat_tests)
too_deep Generics n = grind (arith, nat_tests)
too_deep Unknown n = grind (arith, nat_tests)

-- at depth 2 a head is there
pub no_head : (before : List (List ℕ)) (u : List ℕ) → AreGood before → above 2 before ≡ Some u → depth u ≡ 1 → above 1 before ≡ None → ⊥
no_head before u good is_upper nested none =
    let near = nearest 2 before u good is_upper in
    let skipped : above 1 (u ∷ near.before) ≡ above 1 near.before = rw (above_two u near.is_near, nested) refl in
    let gone : above 1 near.before ≡ None = sym skipped ∙ near.same 1 (omega arith) ∙ none in
    let c = clean near.before u near.good.0 in
    absurd (true≢false (rw (above_two u near.is_near, nested, gone) at c.parent))

kept_by : (before : List (List ℕ)) (line : List ℕ) (d : ℕ) → AreGood before → IsClean before line → is_entry before line ≡ true → is_idle line ≡ false → is_unknown (mark_at before line) ≡ false → is_block line ≡ false → depth line ≡ d → IsKept before (path_at before line)
kept_by before line zero good c entry active known no_block depth_is =
    elim (mark line) as (λ m. mark line ≡ m → is_unknown m ≡ false → is_generics m ≡ false → IsKept before (path_at before line)) [
      | Devices ↦ λ e _ _. kept_vendor before line active depth_is e c
      | Classes ↦ λ e _ _. kept_class before line active depth_is e c
      | Generics ↦ λ e _ h. absurd (true≢false h)
      | Unknown ↦ λ e h _. absurd (true≢false h)
    ] refl (rw depth_is at known) (rw (active, depth_is) at no_block)
kept_by before line (suc zero) good c entry active known no_block depth_is =
    elim (above 1 before) as (λ o. above 1 before ≡ o → is_none (if_depth 1 o) ≡ false → is_unknown (mark (unwrap_or o [])) ≡ false → IsKept before (path_at before line)) [
      | None ↦ λ e h _. absurd (true≢false h)
      | Some h ↦ λ e _ k. elim (mark h) as (λ m. mark h ≡ m → is_unknown m ≡ false → IsKept before (path_at before line)) [
        | Devices ↦ λ f _. kept_device before line h good c active depth_is e f
        | Classes ↦ λ f _. kept_subclass before line h good c active depth_is e f
        | Generics ↦ λ f _. kept_generic before line h good c active depth_is e f
        | Unknown ↦ λ f x. absurd (true≢false x)
      ] refl k
    ] refl (rw (entry, depth_is) at c.parent) (rw depth_is at known)
kept_by before line (suc (suc zero)) good c entry active known no_block depth_is =
    let up = has_upper before line entry depth_is c in
    elim (above 1 before) as (λ o. above 1 before ≡ o → is_unknown (mark (unwrap_or o [])) ≡ false → leb (length (levels (mark (unwrap_or o [])))) 2 ≡ false → IsKept before (path_at before line)) [
      | None ↦ λ e _ _. absurd (no_head before up.upper good up.is_upper up.nested e)
      | Some h ↦ λ e k s. elim (mark h) as (λ m. mark h ≡ m → is_unknown m ≡ false → leb (length (levels m)) 2 ≡ false → IsKept before (path_at before line)) [
        | Devices ↦ λ f _ _. kept_subsystem before line h up.upper good c active depth_is e up.is_upper up.nested f
        | Classes ↦ λ f _ _. kept_progif before line h up.upper good c active depth_is e up.is_upper up.nested f
        | Generics ↦ λ f _ x. absurd (true≢false x)
        | Unknown ↦ λ f x _. absurd (true≢false x)
      ] refl k s
    ] refl (rw depth_is at known) (rw (entry, depth_is) at c.shallow)
kept_by before line (suc (suc (suc n))) good c entry active known no_block depth_is =
    let x = rw (entry, depth_is) at c.shallow in
    absurd (true≢false (sym (too_deep _ n) ∙ x))

pub kept : (before : List (List ℕ)) (line : List ℕ) → AreGood before → fault_of before line ≡ None → is_entry before line ≡ true → IsKept before (path_at before line)
kept before line good fault entry =
    let x = both_true (not (is_idle line) && not (is_unknown (mark_at before line))) (not (is_block line)) entry in
    let y = both_true (not (is_idle line)) (not (is_unknown (mark_at before line))) x.0 in
    kept_by before line (depth line) good (clean before line fault) entry (not_true _ y.0) (not_true _ y.1) (not_true _ x.1) refl

-- an entry of good lines
abbrev IsEntry : List (List ℕ) → List ℕ × List ℕ → Type 0
IsEntry lines e = IsKept lines e.0 × (is_name e.1 ≡ true)

kept_on : (lines : List (List ℕ)) (line path : List ℕ) → IsKept lines path → IsKept (line ∷ lines) path
kept_on lines line path k = record { p = k.p; in_range = k.in_range; same = k.same; parent = elim (parent_of k.p) as (λ o. IfSome o (λ q. IsToldBy lines (path_text q)) → IfSome o (λ q. IsToldBy (line ∷ lines) (path_text q))) [ None ↦ λ h. h | Some q ↦ λ h. told_on lines line (path_text q) h ] k.parent }

all_on : (lines : List (List ℕ)) (line : List ℕ) (es : List (List ℕ × List ℕ)) → AllByRecursion (IsEntry lines) es → AllByRecursion (IsEntry (line ∷ lines)) es
all_on lines line [] h = tt
all_on lines line (e ∷ es) h = ((kept_on lines line e.0 h.0.0, h.0.1), all_on lines line es h.1)

pub name_test : (b : Bool) → not b ≡ false → b ≡ true
name_test true h = refl
name_test false h = absurd (true≢false h)

pub entries_kept : (lines : List (List ℕ)) → AreGood lines → AllByRecursion (IsEntry lines) (entries_back lines)
entries_kept [] good = tt
entries_kept (line ∷ before) good =
    let rest = all_on before line (entries_back before) (entries_kept before good.1) in
    elim (is_entry before line) as (λ b. is_entry before line ≡ b → AllByRecursion (IsEntry (line ∷ before)) (cond b ((path_at before line, name_at before line) ∷ []) [] ++ entries_back before)) [
      | true ↦ λ e.
          let c = clean before line good.0 in
          let named : is_name (name_at before line) ≡ true = name_test _ (rw e at c.name) in
          ((kept_on before line (path_at before line) (kept before line good.1 good.0 e), named), rest)
      | false ↦ λ e. rest
    ] refl

-- the entry of a path that is found
record Found (P : List ℕ × List ℕ → Type 0) (k : List ℕ) (es : List (List ℕ × List ℕ)) : Type 0 where
  name : List ℕ
  is_found : value_at text_cmp k es ≡ Some name
  holds : P (k, name)

found : (P : List ℕ × List ℕ → Type 0) (k : List ℕ) (es : List (List ℕ × List ℕ)) → AllByRecursion P es → IsSome (value_at text_cmp k es) → Found P k es
found P k [] all h = absurd (false≢true h)
found P k (e ∷ es) all h =
    elim (text_cmp k e.0) as (λ o. text_cmp k e.0 ≡ o → IsSome (cond (is_eq o) (Some e.1) (value_at text_cmp k es)) → Found P k (e ∷ es)) [
      | Less ↦ λ c s. let x = found P k es all.1 s in record { name = x.name; is_found = rw c x.is_found; holds = x.holds }
      | Equal ↦ λ c s. let same : k ≡ e.0 = slice_cmp-IsAntisymmetric nat_cmp-IsAntisymmetric k e.0 c in record { name = e.1; is_found = rw c refl; holds = subst (λ (j : List ℕ). P (j, e.1)) (sym same) all.0 }
      | Greater ↦ λ c s. let x = found P k es all.1 s in record { name = x.name; is_found = rw c x.is_found; holds = x.holds }
    ] refl h

-- the parent's text is told
pub to_text : (lines : List (List ℕ)) (p : Path) → IfSome (parent_of p) (λ q. IsToldBy lines (path_text q)) → IfSome (parent_text (path_text p)) (IsToldBy lines)
to_text lines (Vendor v) h = tt
to_text lines (Device v d) h = h
to_text lines (Subsystem v d s e) h = h
to_text lines (Class c) h = tt
to_text lines (Subclass c s) h = h
to_text lines (ProgIf c s p) h = h
to_text lines (Generic v d) h = h

pub from_text : (lines : List (List ℕ)) (p : Path) → IfSome (parent_text (path_text p)) (IsToldBy lines) → IfSome (parent_of p) (λ q. IsToldBy lines (path_text q))
from_text lines (Vendor v) h = tt
from_text lines (Device v d) h = h
from_text lines (Subsystem v d s e) h = h
from_text lines (Class c) h = tt
from_text lines (Subclass c s) h = h
from_text lines (ProgIf c s p) h = h
from_text lines (Generic v d) h = h

-- whatever path is told, its parent is
pub parent_told : (lines : List (List ℕ)) (path : List ℕ) → AreGood lines → IsToldBy lines path → IfSome (parent_text path) (IsToldBy lines)
parent_told lines path good told =
    let x = found (IsEntry lines) path (entries_back lines) (entries_kept lines good) told in
    subst (λ (k : List ℕ). IfSome (parent_text k) (IsToldBy lines)) (sym x.holds.0.same) (to_text lines x.holds.0.p x.holds.0.parent)

lift_parent : (m : TreeMap) (lines : List (List ℕ)) (o : Option Path) → ((k : List ℕ) → get m k ≡ value_at text_cmp k (entries_back lines)) → IfSome o (λ q. IsToldBy lines (path_text q)) → IfSome o (λ q. IsSome (get m (path_text q)))
lift_parent m lines None at h = tt
lift_parent m lines (Some q) at h = rw (at (path_text q)) h

named_at : (lines : List (List ℕ)) (k : List ℕ) (o : Option (List ℕ)) → AllByRecursion (IsEntry lines) (entries_back lines) → value_at text_cmp k (entries_back lines) ≡ o → IfSome o (λ name. IsTrue (is_name name))
named_at lines k None all e = tt
named_at lines k (Some n) all e =
    let x = found (IsEntry lines) k (entries_back lines) all (rw e refl) in
    let same : x.name ≡ n = ap (λ (o : Option (List ℕ)). unwrap_or o []) (sym x.is_found ∙ e) in
    subst (λ (n : List ℕ). IsTrue (is_name n)) same x.holds.1

pub lines_tell_tree : (lines : List (List ℕ)) → AreGood lines → IsTree (from_entries (entries_back lines))
lines_tell_tree lines good =
    let es = entries_back lines in
    let all = entries_kept lines good in
    let at : (k : List ℕ) → get (from_entries {R = text_cmp} es) k ≡ value_at text_cmp k es = λ k. get-from_entries nat_list_cmp_total es k in
    record {
      paths = λ k h. let x = found (IsEntry lines) k es all (rw (at k) at h) in (x.holds.0.p, record { in_range = x.holds.0.in_range; same = x.holds.0.same });
      parents = λ p r h.
          lift_parent (from_entries {R = text_cmp} es) lines (parent_of p) at (from_text lines p (parent_told lines (path_text p) good (rw (at (path_text p)) at h)));
      names = λ k. rw (at k) (named_at lines k (value_at text_cmp k es) all refl);
    }

pub reads_tree : (text : List ℕ) (t : TreeMap) → Reads text t → IsTree t
reads_tree text t r = subst (λ (s : TreeMap). IsTree s) (sym r.tree) (lines_tell_tree (history_of text) r.good)
