-- What a query on one table answers.
use Rattle.std.proofs.Common.{◌≡◌, ℕ, ℤ, List, [], ◌∷◌, ◌++◌, map, filter, flat_map, Bool, true, false, cond, Some, refl, sym, ap, subst, ◌∙◌, Ordering, Less, Equal, Greater}
use Rattle.std.specs.List.{list_all}
use Rattle.std.specs.Ordering.{is_eq}
use Rattle.std.specs.List.Sorted.{IsPermutation}
use Rattle.std.proofs.lemmas.Map.Lookups.{exact_bytes, exact_signed}
use Rattle.std.proofs.lemmas.List.Sorted.{IsPermutation-map}
use Rattle.sqlite.specs.declared.types.Value.TheVariants.{Int, Text}
use Rattle.sqlite.specs.Order.{Row, value_cmp}
use Rattle.sqlite.specs.Tree.{Trees}
use Rattle.sqlite.specs.Term.{Term, Env, eval_all, holds}
use Rattle.sqlite.specs.Ops.{is_true, from_truth, binary}
use Rattle.sqlite.specs.Query.{Query, IsAnswer, Output, output}
use Rattle.sqlite_schema.specs.Rules.{equal}
use Rattle.sqlite.specs.Collation.TheVariants.{Binary}
use Rattle.sqlite_value.proofs.OrderLemmas.{value_cmp-Text, value_cmp-Int, value_cmp_total}
use Rattle.std.proofs.lemmas.Cmp.{tied_itself}
use Rattle.sqlite_value.specs.declared.keys.Key.{Key}
use Rattle.pid_tables.proofs.OfRows.Statements.{listing, whole, simple}

-- the rows that pass, as the query shows them
abbrev pub passing : List Term → Row → List Row → List Row
passing tests params rows = filter (λ r. list_all (holds (params ∷ r ∷ [])) tests) rows

abbrev pub shown : List Term → Row → Row → Row
shown project params r = eval_all project (params ∷ r ∷ [])

abbrev env : Row → Row → Env
env params r = params ∷ r ∷ []

module _ (tree : ℕ) (tests project : List Term) (order : List (Term × Key)) (limit : Term) (params : Row) where
  abbrev q : Query
  q = listing tree tests project order limit

  -- what a row is sorted by, and what it is shown as
  abbrev pub out : Row → Output
  out r = output q (env params r)

  pub outs_are : (rows : List Row) → map (output q) (flat_map (λ r. cond (list_all (holds (env params r)) tests) (env params r ∷ []) []) rows) ≡ map out (passing tests params rows)
  outs_are [] = refl
  outs_are (r ∷ rows) =
      elim (list_all (holds (env params r)) tests) as (λ b. map (output q) (cond b (env params r ∷ []) [] ++ flat_map (λ r. cond (list_all (holds (env params r)) tests) (env params r ∷ []) []) rows)
      ≡ map out (cond b (r ∷ passing tests params rows) (passing tests params rows)))
      [ true ↦ ap (λ xs. out r ∷ xs) (outs_are rows) | false ↦ outs_are rows ]

  -- what an answer keeps of the rows of the table
  pub kept_outs : (db : Trees) (answer : List Row) → (a : IsAnswer q db params answer) → a.kept ≡ map out (passing tests params (db tree))
  kept_outs db answer a = a.distinct ∙ ap (map (output q)) a.grouped ∙ outs_are (db tree)

shown_again : (project : List Term) (params : Row) (rows : List Row) → map (λ (o : Output). o.1) (map (λ r. ([], shown project params r)) rows) ≡ map (shown project params) rows
shown_again project params [] = refl
shown_again project params (r ∷ rows) = ap (λ xs. shown project params r ∷ xs) (shown_again project params rows)

pub simple_rows : (tree : ℕ) (tests project : List Term) (db : Trees) (params : Row) (rows : List Row) → IsAnswer (simple tree tests project) db params rows
    → IsPermutation (map (shown project params) (passing tests params (db tree))) rows
simple_rows tree tests project db params rows a =
    let passed = passing tests params (db tree) in
    let kept : a.kept ≡ map (λ r. ([], shown project params r)) passed = kept_outs tree tests project [] whole params db rows a in
    let moved = IsPermutation-map (λ (o : Output). o.1) _ _ (subst (λ k. IsPermutation k a.ordered) kept a.same) in
    let same : map (λ (o : Output). o.1) (map (λ r. ([], shown project params r)) passed) ≡ map (shown project params) passed = shown_again project params passed in
    subst (λ xs. IsPermutation xs rows) same (subst (IsPermutation _) (sym a.shown) moved)

-- ---- tests on a column

pub said : (b : Bool) → is_true (from_truth (Some b)) ≡ b
said true = refl
said false = refl

pub texts_equal : (p q : List ℕ) → equal Binary (Text p) (Text q) ≡ true → p ≡ q
unfolding binary
texts_equal p q h = exact_bytes p q (sym (value_cmp-Text p q) ∙ tied (value_cmp (Text p) (Text q)) (sym (said _) ∙ h))
  where
    tied : (o : Ordering) → is_eq o ≡ true → o ≡ Equal
    tied Less h = cc
    tied Equal h = refl
    tied Greater h = cc

pub text_equal : (p : List ℕ) → equal Binary (Text p) (Text p) ≡ true
unfolding binary
text_equal p = said _ ∙ ap is_eq (tied_itself value_cmp_total (Text p))

pub integers_equal : (m n : ℤ) → equal Binary (Int m) (Int n) ≡ true → m ≡ n
unfolding binary
integers_equal m n h = exact_signed m n (sym (value_cmp-Int m n) ∙ tied (value_cmp (Int m) (Int n)) (sym (said _) ∙ h))
  where
    tied : (o : Ordering) → is_eq o ≡ true → o ≡ Equal
    tied Less h = cc
    tied Equal h = refl
    tied Greater h = cc

pub integer_equal : (n : ℤ) → equal Binary (Int n) (Int n) ≡ true
unfolding binary
integer_equal n = said _ ∙ ap is_eq (tied_itself value_cmp_total (Int n))
