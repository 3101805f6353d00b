-- The place of a path among extents.
use Rattle.std.proofs.Common.{◌≡◌, ℕ, ◌+◌, ◌<◌, ◌≤◌, true, false, List, [], ◌∷◌, ◌++◌, length, get_or, map, take, drop, suc, Option, refl, sym, ap, subst, ◌∙◌, arith, add_assoc}
use Rattle.std.specs.List.{AllByRecursion}
use Rattle.std.specs.declared.cmp.Ordering.TheVariants.{Less, Equal, Greater}
use Rattle.std.proofs.Math.ListN.{drop_of_length-le}
use Rattle.std.proofs.Math.Seq.{drop-cons}
use Rattle.std.proofs.lemmas.List.{drop-map, length-map, map_more, take_all, take-map}
use Rattle.pid_file.specs.PathTexts.{path_text}
use Rattle.pid_file.specs.Trees.{text_cmp}
use Rattle.pid_service.proofs.Words.{BeginsAt, bytes_in, Extent, extent_in, Extents, IsPlace, last_extent, Path, path_cmp, text_or_none}

bytes_more : (xs : Extents) (e : List ℕ × ℕ) → bytes_in (xs ++ e ∷ []) ≡ bytes_in xs + e.1
bytes_more [] e = omega arith
bytes_more (x ∷ xs) e = ap (λ n. x.1 + n) (bytes_more xs e) ∙ sym (add_assoc x.1 (bytes_in xs) e.1)

last_more : (before : List ℕ) (xs : Extents) (e : List ℕ × ℕ) → last_extent before (xs ++ e ∷ []) ≡ e.0
last_more before [] e = refl
last_more before (x ∷ xs) e = last_more x.0 xs e

below_more : (key : List ℕ) (xs : Extents) (e : List ℕ × ℕ) → AllByRecursion (λ (e : List ℕ × ℕ). text_cmp key e.0 ≡ Greater) xs → text_cmp key e.0 ≡ Greater → AllByRecursion (λ (e : List ℕ × ℕ). text_cmp key e.0 ≡ Greater) (xs ++ e ∷ [])
below_more key [] e all one = (one, tt)
below_more key (x ∷ xs) e all one = (all.0, below_more key xs e all.1 one)

sum_more : (start more before length now : ℕ) → start ≡ 18 + before → more ≡ length → now ≡ before + length → start + more ≡ 18 + now
sum_more start more before length now a b c = omega arith

-- an extent in a list of them
module _ (extents : List Extent) (i : ℕ) (d : Extent) (low : i < length extents) where
  abbrev all : Extents
  all = map extent_in extents

  abbrev one : Extent
  one = get_or extents i d

  taken : take (i + 1) all ≡ take i all ++ extent_in one ∷ []
  taken = take-map extent_in (i + 1) extents ∙ map_more extent_in extents i d low ∙ ap (λ (l : Extents). l ++ extent_in one ∷ []) (sym (take-map extent_in i extents))

  left : drop i all ≡ extent_in one ∷ map extent_in (drop (suc i) extents)
  left = drop-map extent_in i extents ∙ ap (map extent_in) (drop-cons extents i d low)

  many : length all ≡ length extents
  many = length-map extents extent_in

  longer : bytes_in (take (i + 1) all) ≡ bytes_in (take i all) + one.length
  longer = ap bytes_in taken ∙ bytes_more (take i all) (extent_in one)

  -- one farther
  pub start_more : (start more : ℕ) → start ≡ 18 + bytes_in (take i all) → more ≡ one.length → start + more ≡ 18 + bytes_in (take (i + 1) all)
  start_more start more is same = sum_more start more (bytes_in (take i all)) one.length (bytes_in (take (i + 1) all)) is same longer

  pub before_more : path_text one.path ≡ last_extent [] (take (i + 1) all)
  before_more = sym (ap (last_extent []) taken ∙ last_more [] (take i all) (extent_in one))

  pub all_below : (path : Path) → AllByRecursion (λ (e : List ℕ × ℕ). text_cmp (path_text path) e.0 ≡ Greater) (take i all) → Greater ≡ path_cmp path one.path → AllByRecursion (λ (e : List ℕ × ℕ). text_cmp (path_text path) e.0 ≡ Greater) (take (i + 1) all)
  all_below path below is = subst (λ (l : Extents). AllByRecursion (λ (e : List ℕ × ℕ). text_cmp (path_text path) e.0 ≡ Greater) l) (sym taken) (below_more (path_text path) (take i all) (extent_in one) below (sym is))

  module _ (path : Path) (start : ℕ) (before : Option Path) (is : start ≡ 18 + bytes_in (take i all)) (last : text_or_none before ≡ last_extent [] (take i all)) (below : AllByRecursion (λ (e : List ℕ × ℕ). text_cmp (path_text path) e.0 ≡ Greater) (take i all)) where
    -- this one is of the path
    pub found_place : (more : ℕ) → more ≡ one.length → Equal ≡ path_cmp path one.path → IsPlace (record { there = true; index = i; after = i + 1; start = start; end = start + more; before = before }) all (path_text path)
    found_place more same equal = record {
      within = omega (arith, many, low);
      after = refl;
      start = is;
      end = start_more start more is same;
      before = last;
      below = below;
      stands = subst (λ (l : Extents). BeginsAt (path_text path) true l) (sym left) (sym equal);
    }

    -- or the path would come before this one
    pub free_place : Less ≡ path_cmp path one.path → IsPlace (record { there = false; index = i; after = i; start = start; end = start; before = before }) all (path_text path)
    free_place less = record {
      within = omega (arith, many, low);
      after = refl;
      start = is;
      end = is;
      before = last;
      below = below;
      stands = subst (λ (l : Extents). BeginsAt (path_text path) false l) (sym left) (sym less);
    }

-- it comes after all of them
pub end_place : (extents : List Extent) (i : ℕ) → length extents ≤ i → (path : Path) (start : ℕ) (before : Option Path) → start ≡ 18 + bytes_in (take i (map extent_in extents)) → text_or_none before ≡ last_extent [] (take i (map extent_in extents)) → AllByRecursion (λ (e : List ℕ × ℕ). text_cmp (path_text path) e.0 ≡ Greater) (take i (map extent_in extents))
    → (n : ℕ) → n ≡ length extents → IsPlace (record { there = false; index = n; after = n; start = start; end = start; before = before }) (map extent_in extents) (path_text path)
end_place extents i past path start before is last below n count =
    let long : length (map extent_in extents) ≡ length extents = length-map extents extent_in in
    let far : length (map extent_in extents) ≤ n = omega (arith, long, count) in
    let same : take i (map extent_in extents) ≡ take n (map extent_in extents) = take_all i (map extent_in extents) (omega (arith, long, past)) ∙ sym (take_all n (map extent_in extents) far) in
    record {
      within = omega (arith, long, count);
      after = refl;
      start = is ∙ ap (λ (l : Extents). 18 + bytes_in l) same;
      end = is ∙ ap (λ (l : Extents). 18 + bytes_in l) same;
      before = last ∙ ap (last_extent []) same;
      below = subst (λ (l : Extents). AllByRecursion (λ (e : List ℕ × ℕ). text_cmp (path_text path) e.0 ≡ Greater) l) same below;
      stands = subst (λ (l : Extents). BeginsAt (path_text path) false l) (sym (drop_of_length-le (map extent_in extents) far)) tt;
    }
