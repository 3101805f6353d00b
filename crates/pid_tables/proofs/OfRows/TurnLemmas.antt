-- Which rows an edit leaves.
use Rattle.std.proofs.Common.{◌≡◌, ◌⊎◌, inl, inr, ℤ, List, [], ◌∷◌, map, Bool, true, false, not, refl, sym, ap, subst, ◌∙◌, true≢false}
use Rattle.std.specs.List.{list_all}
use Rattle.std.specs.List.Sorted.{IsPermutation}
use Rattle.std.specs.Ordering.{is_eq}
use Rattle.std.proofs.lemmas.Bool.{not-true, cases_Bool}
use Rattle.std.proofs.lemmas.Cmp.{tied_itself}
use Rattle.std.proofs.lemmas.List.Sorted.{Contains-permutation, IsPermutation-sym}
use Rattle.sqlite.specs.declared.types.Value.TheVariants.{Int}
use Rattle.sqlite.specs.Order.{Row, value_cmp}
use Rattle.sqlite_value.proofs.OrderLemmas.{value_cmp_total}
use Rattle.sqlite.specs.Tree.{IsTable, rowid, has_rowid, put_row, without_rowid}
use Rattle.sqlite_trees.proofs.TreeLemmas.{IsTable-put_row}
use Rattle.sqlite_trees.proofs.ListLemmas.{ascending-filter}
use Rattle.sqlite.specs.Term.{Term, col, holds}
use Rattle.sqlite.specs.Edit.{id_in, without_all, put_all, are_fresh, row_at}
use Rattle.sqlite_rules.specs.Calls.{ids_of}
use Rattle.sqlite_rules.specs.Lists.{Has}
use Rattle.sqlite_rules.proofs.ListLemmas.{has_filtered, has_kept, has_contained, contains_had}
use Rattle.sqlite_rules.proofs.ProbeLemmas.{mapped_has}
use Rattle.sqlite_rules.proofs.TableLemmas.{put_all_has, put_all_keeps, put_all_adds, without_all_has}
use Rattle.sqlite_rules.proofs.PlaceLemmas.{left_or_taken, row_at_is}
use Rattle.pid_tables.proofs.OfRows.Select.{passing, shown}

pub has_mapped : {X Y : Type 0} (f : X → Y) (xs : List X) (y : Y) → Has (map f xs) y → (x : X) × Has xs x × (y ≡ f x)
has_mapped f [] y h = absurd h
has_mapped f (x ∷ xs) y (inl same) = (x, inl refl, same)
has_mapped f (x ∷ xs) y (inr later) = let it = has_mapped f xs y later in (it.0, inr it.1, it.2)

pub permuted : {X : Type 0} (xs ys : List X) (x : X) → IsPermutation xs ys → Has xs x → Has ys x
permuted xs ys x p h = has_contained ys x (Contains-permutation xs ys x p (contains_had xs x h))

pub IsTable-put_all : (news rows : List Row) → IsTable rows → IsTable (put_all rows news)
IsTable-put_all [] rows up = up
IsTable-put_all (n ∷ news) rows up = IsTable-put_all news (put_row n rows) (IsTable-put_row n rows up)

pub IsTable-without_all : (ids : List ℤ) (rows : List Row) → IsTable rows → IsTable (without_all rows ids)
IsTable-without_all [] rows up = up
IsTable-without_all (id ∷ ids) rows up = IsTable-without_all ids (without_rowid id rows) (ascending-filter _ _ rows up)

pub left_lacks : (ids : List ℤ) (rows : List Row) (id : ℤ) (x : Row) → Has ids id → has_rowid id x ≡ true → Has (without_all rows ids) x → ⊥
left_lacks [] rows id x h is left = h
left_lacks (i ∷ ids) rows id x (inl same) is left =
    let kept = has_filtered (λ r. not (has_rowid i r)) rows x (without_all_has ids (without_rowid i rows) x left) in
    true≢false (sym is ∙ ap (λ n. has_rowid n x) same ∙ not-true _ kept.1)
left_lacks (i ∷ ids) rows id x (inr later) is left = left_lacks ids (without_rowid i rows) id x later is left

pub own_rowid : (id : ℤ) (r : Row) → rowid r ≡ Int id → has_rowid id r ≡ true
own_rowid id r is = ap (λ v. is_eq (value_cmp v (Int id))) is ∙ ap is_eq (tied_itself value_cmp_total (Int id))

abbrev pub AreKeyed : List Row → Type 0
AreKeyed rows = (r : Row) → Has rows r → (id : ℤ) × (rowid r ≡ Int id)

abbrev pub hits : List Term → Row → Row → Bool
hits tests params r = list_all (holds (params ∷ r ∷ [])) tests

-- the rows that the tests pass by are as they were, and the others are replaced
pub record Turns (rows next news : List Row) (hit : Row → Bool) : Type 0 where
  pub ordered : IsTable next
  pub from : (x : Row) → Has next x → Has news x ⊎ (Has rows x × (hit x ≡ false))
  pub stays : (x : Row) → Has rows x → hit x ≡ false → Has next x
  pub added : (x : Row) → Has news x → Has next x

-- an INSERT takes nothing out
pub turns_insert : (rows next news : List Row) → IsTable rows → are_fresh rows news ≡ true → next ≡ put_all rows news → Turns rows next news (λ _. false)
turns_insert rows next news up fresh is = record {
  ordered = subst IsTable (sym is) (IsTable-put_all news rows up);
  from = λ x h. elim (put_all_has news rows x (subst (λ l. Has l x) is h)) [ inl new ↦ inl new | inr was ↦ inr (was, refl) ];
  stays = λ x h _. subst (λ l. Has l x) (sym is) (put_all_keeps news rows x fresh h);
  added = λ x h. subst (λ l. Has l x) (sym is) (put_all_adds news rows x fresh h);
}

module _ (tests more : List Term) (params : Row) (rows answer : List Row) (up : IsTable rows) (keyed : AreKeyed rows)
    (same : IsPermutation (map (shown (col 1 0 ∷ more) params) (passing tests params rows)) answer) where
  hit_taken : (r : Row) → Has rows r → hits tests params r ≡ true → (id : ℤ) × Has (ids_of answer) id × (has_rowid id r ≡ true)
  hit_taken r h is =
      let key = keyed r h in
      let out = shown (col 1 0 ∷ more) params r in
      let there = permuted _ answer out same (mapped_has (shown (col 1 0 ∷ more) params) _ r (has_kept _ rows r h is)) in
      let id : id_in (rowid out) ≡ key.0 = ap id_in key.1 in
      (key.0, subst (Has (ids_of answer)) id (mapped_has (λ a. id_in (rowid a)) answer out there), own_rowid key.0 r key.1)

  taken_hit : (id : ℤ) → Has (ids_of answer) id → (r : Row) × Has rows r × (hits tests params r ≡ true) × (rowid r ≡ Int id)
  taken_hit id h =
      let a = has_mapped (λ a. id_in (rowid a)) answer id h in
      let r = has_mapped (shown (col 1 0 ∷ more) params) (passing tests params rows) a.0 (permuted answer _ a.0 (IsPermutation-sym _ _ same) a.1) in
      let kept = has_filtered (hits tests params) rows r.0 r.1 in
      let key = keyed r.0 kept.0 in
      let id_is : id ≡ key.0 = a.2 ∙ ap (λ out. id_in (rowid out)) r.2 ∙ ap id_in key.1 in
      (r.0, kept.0, kept.1, key.1 ∙ ap Int (sym id_is))

  pub turns_hit : (next news : List Row) → are_fresh (without_all rows (ids_of answer)) news ≡ true → next ≡ put_all (without_all rows (ids_of answer)) news → Turns rows next news (hits tests params)
  turns_hit next news fresh is =
      let left = without_all rows (ids_of answer) in
      record {
        ordered = subst IsTable (sym is) (IsTable-put_all news left (IsTable-without_all (ids_of answer) rows up));
        from = λ x h. elim (put_all_has news left x (subst (λ l. Has l x) is h)) [
          | inl new ↦ inl new
          | inr there ↦
              let was = without_all_has (ids_of answer) rows x there in
              elim (cases_Bool (hits tests params x)) [
                | inl passed ↦ absurd (let it = hit_taken x was passed in left_lacks (ids_of answer) rows it.0 x it.1 it.2 there)
                | inr miss ↦ inr (was, miss)
              ]
        ];
        stays = λ x h miss. subst (λ l. Has l x) (sym is) (put_all_keeps news left x fresh (elim (left_or_taken rows (ids_of answer) x up h) [
          | inl there ↦ there
          | inr taken ↦ absurd (
              let id = has_mapped (row_at rows) (ids_of answer) x taken in
              let r = taken_hit id.0 id.1 in
              let row = row_at_is rows id.0 r.0 up r.1 (own_rowid id.0 r.0 r.3) in
              true≢false (sym r.2 ∙ ap (hits tests params) (sym row ∙ sym id.2) ∙ miss))
        ]));
        added = λ x h. subst (λ l. Has l x) (sym is) (put_all_adds news left x fresh h);
      }
