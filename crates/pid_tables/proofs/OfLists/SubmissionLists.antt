-- What a query of the numbers of submissions answers.
use Rattle.std.proofs.Common.{◌≡◌, inl, inr, ℕ, zero, suc, ℤ, pos, ◌+◌, ◌<◌, ◌^◌, List, [], ◌∷◌, map, filter, take, reverse, Bool, true, false, Some, Ordering, Less, Equal, is_eq, is_le, refl, sym, ap, subst, ◌∙◌, codes, arith}
use Rattle.std.specs.Prelude.{nat_lt, nat_le, ◌&&◌, ◌||◌}
use Rattle.std.specs.List.{AllByRecursion}
use Rattle.std.specs.Ordering.{ordering_then}
use Rattle.std.specs.Str.{bytes_eq}
use Rattle.std.proofs.lemmas.Bool.Decides.{nat_tests}
use Rattle.std.proofs.lemmas.Int.{ints}
use Rattle.std.proofs.lemmas.List.{reverse-append}
use Rattle.std.proofs.lemmas.List.Sorted.{IsPermutation-reverse, IsPermutation-sym}
use Rattle.std.proofs.lemmas.Map.Text.{is_eq-slice_cmp}
use Rattle.sqlite.specs.declared.types.Value.TheVariants.{Null, Text}
use Rattle.sqlite.specs.Order.{Row, column}
use Rattle.sqlite.specs.Tree.{IsAscending, rowid}
use Rattle.sqlite.specs.Term.{Term, lit, col, op2}
use Rattle.sqlite.specs.Ops.{is_true, truth, from_truth, or3, binary}
use Rattle.sqlite.specs.Query.{IsAnswer, Output, output_cmp}
use Rattle.sqlite.specs.Program.{overlay}
use Rattle.sqlite.specs.Listing.{understood, reads_listing}
use Rattle.sqlite.specs.Command.TheVariants.{Select}
use Rattle.sqlite.specs.Collation.TheVariants.{Binary}
use Rattle.sqlite.specs.Effect.{Database}
use Rattle.sqlite.specs.State.{State, Shown}
use Rattle.sqlite.proofs.Callers.{IsPlain, command_of, reads_as}
use Rattle.sqlite_tied.specs.Compute.{everything}
use Rattle.sqlite_trees.proofs.ListLemmas.{all-append, all-map, ascending-append, ascending-filter, ascending-map, ascending_weaker}
use Rattle.sqlite_sql.specs.declared.ops.BinaryOp.TheVariants.{Compare, Or}
use Rattle.sqlite_sql.specs.declared.ops.CompareOp.TheVariants.{Eq, Gt, Le}
use Rattle.sqlite_value.specs.declared.keys.Key.{Key}
use Rattle.sqlite_value.proofs.OrderLemmas.{value_cmp-Int, value_cmp-Text}
use Rattle.sqlite_rules.specs.Lists.{Has}
use Rattle.sqlite_rules.proofs.ListLemmas.{all_from, has_filtered, has_kept}
use Rattle.pid_ident.specs.PathTexts.{path_text}
use Rattle.pid_moderation.specs.declared.facts.State.{State as Standings}
use Rattle.pid_moderation.specs.Views.{Views, Submitted}
use Rattle.pid_moderation.specs.Submissions.{Standing}
use Rattle.pid_moderation.specs.PendingPages.{standings_from}
use Rattle.pid_tables.specs.Rows.Schema.{pid_schema}
use Rattle.pid_tables.specs.Rows.TableRows.{number, submission_row}
use Rattle.pid_tables.specs.Rows.Steps.Answers.{value_row}
use Rattle.pid_tables.specs.Rows.Causes.{IsReadable}
use Rattle.pid_tables.specs.Rows.Steps.Queries.{IsQuery}
use Rattle.pid_tables.specs.Rows.Shows.{Counts}
use Rattle.pid_tables.specs.Rows.Steps.Shows.{ShowsCounting}
use Rattle.pid_tables.proofs.OfRows.MapLemmas.{none_over}
use Rattle.pid_tables.proofs.OfRows.OneRowEach.{rowids_apart}
use Rattle.pid_tables.proofs.OfRows.QueryTexts.{IsOneAs, one_alone, in_order}
use Rattle.pid_tables.proofs.OfRows.Select.{passing, said, out}
use Rattle.pid_tables.proofs.OfRows.Statements.{program, listing, IsAlone, command_alone, plain_alone}
use Rattle.pid_tables.proofs.OfRows.TurnLemmas.{hits, permuted}
use Rattle.pid_tables.specs.Lists.Steps.SubmissionRows.{WantedRows, is_any_or, is_asked, latest_asked, numbers_among}
use Rattle.pid_tables.proofs.OfLists.ItemLists.{kept_distinct, finer_distinct}
use Rattle.pid_tables.proofs.OfLists.OrderedLemmas.{StandsFor, listed}
use Rattle.pid_tables.proofs.OfLists.PendingLists.{a_hundred, higher, in_standing, less_number, number_within, stands_in}

abbrev pub select_numbers : List ℕ
select_numbers = codes "SELECT num FROM submission WHERE num > ?1 AND num <= ?2 AND (?3 = '' OR path = ?3) AND (?4 = '' OR author = ?4) ORDER BY num DESC LIMIT 100"

-- the parameter is empty, or the column equals it
abbrev pub any_or : ℕ → ℕ → Term
any_or param at = op2 Or (op2 (Compare Eq Binary) (col 0 param) (lit (Text []))) (op2 (Compare Eq Binary) (col 1 at) (col 0 param))

abbrev pub asked_for : List Term
asked_for = op2 (Compare Gt Binary) (col 1 0) (col 0 0) ∷ op2 (Compare Le Binary) (col 1 0) (col 0 1) ∷ any_or 2 3 ∷ any_or 3 2 ∷ []

abbrev pub its_number : List Term
its_number = col 1 0 ∷ []

abbrev pub falling : List (Term × Key)
falling = (col 1 0, record { collation = Binary; descending = true }) ∷ []

select_numbers_alone : IsAlone pid_schema select_numbers (Select (program (listing 6 asked_for its_number falling a_hundred)) (codes "num" ∷ [])) 4
unfolding understood everything
select_numbers_alone = refl

pub select_numbers_is : command_of (understood pid_schema select_numbers) ≡ Select (program (listing 6 asked_for its_number falling a_hundred)) (codes "num" ∷ [])
select_numbers_is = command_alone pid_schema select_numbers _ 4 select_numbers_alone

pub select_numbers_plain : IsPlain (understood pid_schema select_numbers)
select_numbers_plain = plain_alone pid_schema select_numbers _ 4 select_numbers_alone

pub select_numbers_unlisted : reads_listing pid_schema select_numbers ≡ false
unfolding understood everything
select_numbers_unlisted = refl

-- what is asked, as the parameters have it
abbrev pub params_of : WantedRows → Row
params_of asked = number asked.low ∷ number asked.last ∷ Text asked.path ∷ Text asked.author ∷ []

numbers_one : (asked : WantedRows) → IsOneAs select_numbers (params_of asked) (understood pid_schema select_numbers)
numbers_one asked = one_alone select_numbers (params_of asked) (understood pid_schema select_numbers) _ select_numbers_alone

pub numbers_query : (asked : WantedRows) → IsQuery pid_schema select_numbers (params_of asked)
numbers_query asked = in_order pid_schema select_numbers (params_of asked) 6 asked_for its_number (codes "num" ∷ []) (numbers_one asked) falling a_hundred select_numbers_is select_numbers_unlisted refl

-- ---- the tests

no_higher : (m n : ℕ) → is_true (binary (Compare Le Binary) (number m) (number n)) ≡ nat_le m n
unfolding binary
no_higher m n = said _ ∙ ap is_le (value_cmp-Int (pos m) (pos n)) ∙ grind (arith, ints, nat_tests)

either_said : (a b : Bool) → is_true (from_truth (or3 (truth (from_truth (Some a))) (truth (from_truth (Some b))))) ≡ (a || b)
either_said true true = refl
either_said true false = refl
either_said false true = refl
either_said false false = refl

same_text : (p q : List ℕ) → is_eq (Rattle.sqlite.specs.Order.value_cmp (Text p) (Text q)) ≡ bytes_eq p q
same_text p q = ap is_eq (value_cmp-Text p q) ∙ is_eq-slice_cmp p q

any_said : (asked text : List ℕ) → is_true (binary Or (binary (Compare Eq Binary) (Text asked) (Text [])) (binary (Compare Eq Binary) (Text text) (Text asked))) ≡ is_any_or asked text
unfolding binary
any_said asked text = either_said _ _ ∙ λ i. same_text asked [] i || same_text text asked i

four_tests : (a b c d : Bool) → (a && (b && (c && (d && true)))) ≡ (a && (b && (c && d)))
four_tests true true true true = refl
four_tests true true true false = refl
four_tests true true false d = refl
four_tests true false c d = refl
four_tests false b c d = refl

hits_asked : (asked : WantedRows) (id : ℤ) (n : ℕ) (s : Standing) → hits asked_for (params_of asked) (submission_row id n s) ≡ is_asked asked (n, s)
hits_asked asked id n s =
    (λ i. higher n asked.low i && (no_higher n asked.last i && (any_said asked.path (path_text s.submitted.path) i && (any_said asked.author s.submitted.author i && true))))
    ∙ four_tests (nat_lt asked.low n) (nat_le n asked.last) (is_any_or asked.path (path_text s.submitted.path)) (is_any_or asked.author s.submitted.author)

-- ---- numbers rise, and the other way round they fall

standings_above : (n m : ℕ) (submits : List Submitted) (state : ℕ → Standings) → n < m → AllByRecursion (λ (e : ℕ × Standing). n < e.0) (standings_from m submits state)
standings_above n m [] state low = tt
standings_above n m (s ∷ submits) state low = (low, standings_above n (m + 1) submits state (omega (arith, low)))

pub standings_ascend : (n : ℕ) (submits : List Submitted) (state : ℕ → Standings) → IsAscending (λ (a b : ℕ × Standing). a.0 < b.0) (standings_from n submits state)
standings_ascend n [] state = tt
standings_ascend n (s ∷ submits) state = (standings_above n (n + 1) submits state (omega arith), standings_ascend (n + 1) submits state)

module _ {X : Type 0} where
  pub all_reverse : (P : X → Type 0) (xs : List X) → AllByRecursion P xs → AllByRecursion P (reverse xs)
  all_reverse P [] all = tt
  all_reverse P (x ∷ xs) all = subst (AllByRecursion P) (sym (reverse-append (x ∷ []) xs)) (all-append P (reverse xs) (x ∷ []) (all_reverse P xs all.1) (all.0, tt))

  each_before : (R : X → X → Type 0) (x : X) (ys : List X) → AllByRecursion (R x) ys → AllByRecursion (λ y. AllByRecursion (λ z. R z y) (x ∷ [])) ys
  each_before R x [] all = tt
  each_before R x (y ∷ ys) all = ((all.0, tt), each_before R x ys all.1)

  pub ascending_reverse : (R : X → X → Type 0) (xs : List X) → IsAscending R xs → IsAscending (λ a b. R b a) (reverse xs)
  ascending_reverse R [] up = tt
  ascending_reverse R (x ∷ xs) up = subst (IsAscending (λ a b. R b a)) (sym (reverse-append (x ∷ []) xs))
      (ascending-append (λ a b. R b a) (reverse xs) (x ∷ []) (ascending_reverse R xs up.1) (tt, tt) (each_before R x (reverse xs) (all_reverse (R x) xs up.0)))

abbrev pub number_mark : ℕ × Standing → Output
number_mark s = (number s.0 ∷ [], value_row s.0)

module _ (asked : WantedRows) (submits : List Submitted) (state : ℕ → Standings) where
  abbrev cmp : Output → Output → Ordering
  cmp = output_cmp (listing 6 asked_for its_number falling a_hundred)

  later_first : (a b : ℕ × Standing) → b.0 < a.0 → cmp (number_mark a) (number_mark b) ≡ Less
  later_first a b low = ap (λ o. ordering_then o Equal) (value_cmp-Int (pos b.0) (pos a.0) ∙ less_number b.0 a.0 low)

  pub numbers_fall : IsAscending (λ a b. cmp a b ≡ Less) (map number_mark (reverse (filter (is_asked asked) (standings_from 1 submits state))))
  numbers_fall = ascending-map (λ a b. cmp a b ≡ Less) number_mark (reverse (filter (is_asked asked) (standings_from 1 submits state)))
      (ascending_weaker (λ (a b : ℕ × Standing). b.0 < a.0) (λ a b. cmp (number_mark a) (number_mark b) ≡ Less) later_first _
      (ascending_reverse (λ (a b : ℕ × Standing). a.0 < b.0) (filter (is_asked asked) (standings_from 1 submits state)) (ascending-filter (λ (a b : ℕ × Standing). a.0 < b.0) (is_asked asked) _ (standings_ascend 1 submits state))))

module _ (db : Database) (c : Counts) (v : Views) (shows : ShowsCounting c db v) (asked : WantedRows) where
  abbrev params : Row
  params = params_of asked

  abbrev kept : List (ℕ × Standing)
  kept = filter (is_asked asked) (standings_from 1 v.submits v.state)

  numbers_stand : StandsFor 6 asked_for its_number falling a_hundred params number_mark (reverse kept) (db.trees 6)
  numbers_stand = record {
    each = λ r h.
        let passed = has_filtered (hits asked_for params) (db.trees 6) r h in
        let pair = shows.submissions.sound r passed.0 in
        let is : is_asked asked (pair.key, pair.value) ≡ true = sym (hits_asked asked pair.id pair.key pair.value) ∙ subst (λ x. hits asked_for params x ≡ true) pair.is passed.1 in (
          (pair.key, pair.value),
          permuted kept (reverse kept) (pair.key, pair.value) (IsPermutation-reverse kept) (has_kept (is_asked asked) _ (pair.key, pair.value) (stands_in v pair.key pair.value pair.maps) is),
          ap (out 6 asked_for its_number falling a_hundred params) pair.is,
        );
    there = λ e h.
        let found = has_filtered (is_asked asked) (standings_from 1 v.submits v.state) e (permuted (reverse kept) kept e (IsPermutation-sym _ _ (IsPermutation-reverse kept)) h) in
        let pair = shows.submissions.complete e.0 e.1 (in_standing v e found.0) in
        (submission_row pair.0 e.0 e.1, has_kept (hits asked_for params) (db.trees 6) (submission_row pair.0 e.0 e.1) pair.1 (hits_asked asked pair.0 e.0 e.1 ∙ found.1), refl);
    apart = finer_distinct rowid (out 6 asked_for its_number falling a_hundred params) (passing asked_for params (db.trees 6)) (λ x y same. ap (λ (o : Output). column o.0 0) same)
        (kept_distinct rowid (hits asked_for params) (db.trees 6) (rowids_apart (db.trees 6) shows.submissions.ordered));
    rises = numbers_fall asked v.submits v.state;
  }

  pub numbers_found : (old new : State) → old.now ≡ db → (answer : List Row) → Shown select_numbers (params_of asked) old new answer → answer ≡ map value_row (numbers_among (latest_asked 100 asked v))
  numbers_found old new is answer h =
      let got = reads_as select_numbers params old new pid_schema (ap (λ (d : Database). d.schema) is ∙ shows.schema) _ select_numbers_is select_numbers_plain select_numbers_unlisted answer h in
      listed 6 asked_for its_number falling a_hundred params number_mark (reverse kept) (overlay db.trees []) (db.trees 6) answer (none_over db.trees 6) numbers_stand
      (subst (λ (d : Database). IsAnswer (listing 6 asked_for its_number falling a_hundred) (overlay d.trees []) params answer) is (got.answer Null))
      ∙ first_of 100 (reverse kept)
    where
      first_of : (k : ℕ) (xs : List (ℕ × Standing)) → take k (map (λ (e : ℕ × Standing). (number_mark e).1) xs) ≡ map value_row (numbers_among (take k xs))
      first_of zero xs = refl
      first_of (suc k) [] = refl
      first_of (suc k) (x ∷ xs) = ap (λ l. value_row x.0 ∷ l) (first_of k xs)

-- ---- what is in a page

taken_has : {X : Type 0} (k : ℕ) (xs : List X) (e : X) → Has (take k xs) e → Has xs e
taken_has zero xs e h = absurd h
taken_has (suc k) [] e h = absurd h
taken_has (suc k) (x ∷ xs) e (inl same) = inl same
taken_has (suc k) (x ∷ xs) e (inr later) = inr (taken_has k xs e later)

-- each of them is a submission
pub latest_there : (v : Views) (most : ℕ) (asked : WantedRows) (e : ℕ × Standing) → Has (latest_asked most asked v) e → Has (standings_from 1 v.submits v.state) e
latest_there v most asked e h =
    let kept = filter (is_asked asked) (standings_from 1 v.submits v.state) in
    (has_filtered (is_asked asked) (standings_from 1 v.submits v.state) e (permuted (reverse kept) kept e (IsPermutation-sym _ _ (IsPermutation-reverse kept)) (taken_has most (reverse kept) e h))).0

-- their numbers fit 32 bits
pub numbers_fit : (v : Views) (most : ℕ) (asked : WantedRows) → IsReadable v → AllByRecursion (λ (n : ℕ). n < 2 ^ 32) (numbers_among (latest_asked most asked v))
numbers_fit v most asked readable = all-map (λ (n : ℕ). n < 2 ^ 32) (λ (s : ℕ × Standing). s.0) (latest_asked most asked v) (all_from _ _ (λ e h.
    let low = number_within v e.0 e.1 (in_standing v e (latest_there v most asked e h)) in
    omega (arith, low, readable.submission_count)))
