-- What the pairs of a file come to, counted while they are put and counted at once.
use Rattle.std.proofs.Common.{◌≡◌, ℕ, ◌+◌, Bool, true, false, cond, not, ◌&&◌, List, [], ◌∷◌, length, Option, Some, None, is_none, is_some, if◌then◌else◌, refl, sym, ap, subst, ◌∙◌, arith, T}
use Rattle.std.proofs.lemmas.Cmp.{nat_list_cmp_total}
use Rattle.std.proofs.lemmas.List.Sums.{sum_by-cons}
use Rattle.std.proofs.lemmas.Slice.Eq.{bytes_eq-Decides}
use Rattle.std.specs.Str.{bytes_eq}
use Rattle.std.specs.Ordering.{eq_by_cmp}
use Rattle.std.specs.FinMap.Entries.{find, find-put, is_sorted, is_sorted-put, length-put}
use Rattle.pid_ident.specs.Trees.{text_cmp}
use Rattle.pid_moderation.specs.Items.{Items, name_at, imported, has_name, count_new, count_renamed, count_same}
use Rattle.pid_moderation.specs.WellMade.{AreApart}
use Rattle.pid_tables.specs.declared.putting.Put.{Put}
use Rattle.pid_tables.specs.declared.putting.Put.TheVariants.{Renamed, Same}
use Rattle.pid_tables.specs.Steps.Puts.{put_over}
use Rattle.pid_tables.specs.declared.tally.Tally.{Tally}
use Rattle.pid_tables.specs.Steps.Tallies.{tallied}
use Rattle.pid_tables.specs.Steps.Tallies.{tally_of}

found_past : (b : Bool) (name : List ℕ) (rest there : Option (List ℕ)) → cond b (Some name) rest ≡ None → (rest ≡ None → there ≡ there) → cond b (Some name) there ≡ there
found_past true name rest there none keep = absurd (let no : ⊥ = cc in no)
found_past false name rest there none keep = refl

rest_none : (b : Bool) (name : List ℕ) (rest : Option (List ℕ)) → cond b (Some name) rest ≡ None → rest ≡ None
rest_none true name rest none = absurd (let no : ⊥ = cc in no)
rest_none false name rest none = none

-- putting other paths leaves a path as it was
pub name_kept : (path : List ℕ) (pairs items : Items) → find text_cmp path pairs ≡ None → name_at path (imported pairs items) ≡ name_at path items
name_kept path [] items none = refl
name_kept path (pair ∷ pairs) items none =
    find-put text_cmp nat_list_cmp_total path pair.0 pair.1 (imported pairs items)
    ∙ found_past (eq_by_cmp text_cmp path pair.0) pair.1 (find text_cmp path pairs) (find text_cmp path (imported pairs items)) none (λ _. refl)
    ∙ name_kept path pairs items (rest_none (eq_by_cmp text_cmp path pair.0) pair.1 (find text_cmp path pairs) none)

-- COUNTS: no path stands twice among the pairs

both_ways : (a b : Bool) → (a ≡ true → b ≡ true) → (b ≡ true → a ≡ true) → a ≡ b
both_ways true b there back = sym (there refl)
both_ways false true there back = back refl
both_ways false false there back = refl

turned : (a b : List ℕ) → bytes_eq a b ≡ bytes_eq b a
turned a b = both_ways (bytes_eq a b) (bytes_eq b a) (λ e. (bytes_eq-Decides b a).1 (sym ((bytes_eq-Decides a b).0 e))) (λ e. (bytes_eq-Decides a b).1 (sym ((bytes_eq-Decides b a).0 e)))

abbrev more : ℕ → ℕ → ℕ → Tally → Tally
more added renamed same t = record { added = added + t.added; renamed = renamed + t.renamed; same = same + t.same }

abbrev three : ℕ → ℕ → ℕ → Tally
three a b c = record { added = a; renamed = b; same = c }

same_three : (a b c x y z : ℕ) → a ≡ x → b ≡ y → c ≡ z → three a b c ≡ three x y z
same_three a b c x y z p q r = ap (λ (n : ℕ). three n b c) p ∙ ap (λ (n : ℕ). three x n c) q ∙ ap (λ (n : ℕ). three x y n) r

by_name : (b : Bool) (t : Tally) → tallied (if b then Same else Renamed) t ≡ more 0 (cond (not b) 1 0) (cond b 1 0) t
by_name true t = same_three t.added t.renamed (t.same + 1) (0 + t.added) (0 + t.renamed) (1 + t.same) (omega arith) (omega arith) (omega arith)
by_name false t = same_three t.added (t.renamed + 1) t.same (0 + t.added) (1 + t.renamed) (0 + t.same) (omega arith) (omega arith) (omega arith)

one_pair : (o : Option (List ℕ)) (name : List ℕ) (t : Tally) → tallied (put_over name o) t ≡ more (cond (is_none o) 1 0) (cond (is_some o && not (has_name name o)) 1 0) (cond (has_name name o) 1 0) t
one_pair None name t = same_three (t.added + 1) t.renamed t.same (1 + t.added) (0 + t.renamed) (0 + t.same) (omega arith) (omega arith) (omega arith)
one_pair (Some old) name t = subst (λ (b : Bool). tallied (put_over name (Some old)) t ≡ more 0 (cond (not b) 1 0) (cond b 1 0) t) (turned old name) (by_name (bytes_eq old name) t)

abbrev counts : Items → Items → Tally
counts items pairs = record { added = count_new items pairs; renamed = count_renamed items pairs; same = count_same items pairs }

pub counted_apart : (items pairs : Items) → AreApart pairs → tally_of items pairs ≡ counts items pairs
counted_apart items [] apart = refl
counted_apart items (e ∷ pairs) apart =
    let new : count_new items (e ∷ pairs) ≡ cond (is_none (name_at e.0 items)) 1 0 + count_new items pairs = sum_by-cons (λ (x : List ℕ × List ℕ). cond (is_none (name_at x.0 items)) 1 0) e pairs in
    let renamed : count_renamed items (e ∷ pairs) ≡ cond (is_some (name_at e.0 items) && not (has_name e.1 (name_at e.0 items))) 1 0 + count_renamed items pairs = sum_by-cons (λ (x : List ℕ × List ℕ). cond (is_some (name_at x.0 items) && not (has_name x.1 (name_at x.0 items))) 1 0) e pairs in
    let same : count_same items (e ∷ pairs) ≡ cond (has_name e.1 (name_at e.0 items)) 1 0 + count_same items pairs = sum_by-cons (λ (x : List ℕ × List ℕ). cond (has_name x.1 (name_at x.0 items)) 1 0) e pairs in
    let here : put_over e.1 (name_at e.0 (imported pairs items)) ≡ put_over e.1 (name_at e.0 items) = ap (put_over e.1) (name_kept e.0 pairs items apart.0) in
    let first = ap (λ (p : Put). tallied p (tally_of items pairs)) here ∙ ap (tallied (put_over e.1 (name_at e.0 items))) (counted_apart items pairs apart.1) ∙ one_pair (name_at e.0 items) e.1 (counts items pairs) in
    first ∙ sym (ap (λ (n : ℕ). record { added = n; renamed = count_renamed items (e ∷ pairs); same = count_same items (e ∷ pairs) }) new
    ∙ ap (λ (n : ℕ). record { added = cond (is_none (name_at e.0 items)) 1 0 + count_new items pairs; renamed = n; same = count_same items (e ∷ pairs) }) renamed
    ∙ ap (λ (n : ℕ). record { added = cond (is_none (name_at e.0 items)) 1 0 + count_new items pairs; renamed = cond (is_some (name_at e.0 items) && not (has_name e.1 (name_at e.0 items))) 1 0 + count_renamed items pairs; same = n }) same)

imported_sorted : (pairs items : Items) → T (is_sorted text_cmp items) → T (is_sorted text_cmp (imported pairs items))
imported_sorted [] items h = h
imported_sorted (e ∷ pairs) items h = is_sorted-put text_cmp nat_list_cmp_total e.0 e.1 (imported pairs items) (imported_sorted pairs items h)

added_by : (b : Bool) (t : Tally) (n : ℕ) → n + (tallied (if b then Same else Renamed) t).added ≡ n + t.added
added_by true t n = refl
added_by false t n = refl

one_added : (o : Option (List ℕ)) (name : List ℕ) (t : Tally) (n m : ℕ) → m ≡ n + t.added → cond (is_some o) m (m + 1) ≡ n + (tallied (put_over name o) t).added
one_added None name t n m same = omega (arith, same)
one_added (Some old) name t n m same = same ∙ sym (added_by _ t n)

pub items_then : (pairs items : Items) → T (is_sorted text_cmp items) → length (imported pairs items) ≡ length items + (tally_of items pairs).added
items_then [] items sorted = omega arith
items_then (e ∷ pairs) items sorted =
    length-put text_cmp nat_list_cmp_total e.0 e.1 (imported pairs items) (imported_sorted pairs items sorted)
    ∙ one_added (name_at e.0 (imported pairs items)) e.1 (tally_of items pairs) (length items) (length (imported pairs items)) (items_then pairs items sorted)
