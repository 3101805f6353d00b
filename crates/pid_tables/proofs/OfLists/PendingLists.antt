-- What a query of a page of pending submissions answers.
use Rattle.std.proofs.Common.{◌≡◌, ◌⊎◌, inl, inr, ℕ, zero, suc, ℤ, pos, ◌+◌, ◌<◌, ◌≤◌, length, List, [], ◌∷◌, ◌++◌, map, filter, take, Bool, true, false, cond, None, Some, Option, Ordering, Less, is_gt, refl, sym, ap, subst, ◌∙◌, codes, arith}
use Rattle.std.specs.Prelude.{slice_get, option_map, nat_lt, ◌&&◌}
use Rattle.std.specs.List.{AllByRecursion}
use Rattle.std.specs.Ordering.{ordering_then, int_cmp}
use Rattle.std.proofs.lemmas.Bool.Decides.{nat_tests, Decides-eqb}
use Rattle.std.proofs.lemmas.Int.{ints}
use Rattle.sqlite.specs.declared.types.Value.TheVariants.{Null, Int}
use Rattle.sqlite.specs.Order.{Row, column}
use Rattle.sqlite.specs.Tree.{IsAscending, rowid}
use Rattle.sqlite.specs.Term.{Term, lit, col, op2}
use Rattle.sqlite.specs.Ops.{is_true, binary}
use Rattle.sqlite.specs.Query.{IsAnswer, Output, output_cmp}
use Rattle.sqlite.specs.Program.{overlay}
use Rattle.sqlite.specs.Listing.{understood, reads_listing}
use Rattle.sqlite.specs.Command.TheVariants.{Select}
use Rattle.sqlite.specs.Collation.TheVariants.{Binary}
use Rattle.sqlite.specs.Effect.{Database}
use Rattle.sqlite.specs.State.{State, Shown}
use Rattle.sqlite.proofs.Callers.{IsPlain, command_of, reads_as}
use Rattle.sqlite_tied.specs.Compute.{everything}
use Rattle.sqlite_schema.specs.Rules.{equal}
use Rattle.sqlite_sql.specs.declared.ops.BinaryOp.TheVariants.{Compare}
use Rattle.sqlite_sql.specs.declared.ops.CompareOp.TheVariants.{Eq, Gt}
use Rattle.sqlite_value.specs.declared.keys.Key.{Key}
use Rattle.sqlite_value.proofs.OrderLemmas.{value_cmp-Int}
use Rattle.sqlite_value.specs.Keys.{ascending}
use Rattle.sqlite_rules.specs.Lists.{Has}
use Rattle.sqlite_rules.proofs.ListLemmas.{has_filtered, has_kept}
use Rattle.pid_moderation.specs.CheckTables.{is_pending}
use Rattle.pid_moderation.specs.declared.facts.State.{State as Standings}
use Rattle.pid_moderation.specs.declared.facts.State.TheVariants as states
use Rattle.pid_moderation.specs.Views.{Views, Submitted, submission_at}
use Rattle.pid_tables.specs.Rows.Schema.{pid_schema}
use Rattle.pid_tables.specs.Rows.TableRows.{number, submission_row, state_number}
use Rattle.pid_moderation.specs.Submissions.{Standing, standing_in, standing_of}
use Rattle.pid_tables.specs.Rows.Answers.{standing_row}
use Rattle.pid_moderation.specs.declared.lists.Submission.{Submission}
use Rattle.pid_tables.specs.Rows.Steps.Standings.{ReadsTo}
use Rattle.pid_tables.proofs.OfRows.DecodeLemmas.{HaveOnePath, mapped_some, standing_read}
use Rattle.pid_tables.proofs.OfRows.ReadBack.{standing_readable}
use Rattle.pid_tables.specs.Rows.Causes.{IsReadable}
use Rattle.std.proofs.lemmas.Option.{slice_get_within}
use Rattle.pid_tables.specs.Rows.Shows.{Counts, AreViews}
use Rattle.pid_tables.specs.Rows.Steps.Shows.{ShowsCounting}
use Rattle.pid_tables.proofs.OfRows.Statements.{program, listing, IsAlone, command_alone, plain_alone}
use Rattle.pid_tables.proofs.OfRows.MapLemmas.{none_over}
use Rattle.pid_tables.proofs.OfRows.QueryTexts.{IsOneAs, one_alone, in_order}
use Rattle.pid_tables.specs.Rows.Steps.Queries.{IsQuery}
use Rattle.pid_tables.proofs.OfRows.Keys.{pos_same}
use Rattle.pid_tables.proofs.OfRows.OneRowEach.{rowids_apart}
use Rattle.pid_tables.proofs.OfRows.Select.{passing, said, out, integers_equal, integer_equal}
use Rattle.pid_tables.proofs.OfRows.TurnLemmas.{hits}
use Rattle.pid_moderation.specs.PendingPages.{standings_from, waits_above, pending_in}
use Rattle.pid_tables.specs.Lists.Steps.PendingRows.{pending_row, IsReadablePending, AreStandingIn}
use Rattle.pid_tables.proofs.OfLists.ItemLists.{kept_distinct, finer_distinct}
use Rattle.pid_tables.proofs.OfLists.OrderedLemmas.{StandsFor, listed}

abbrev pub select_page : List ℕ
select_page = codes "SELECT author, path, form, name, note, state, decider, reason, num FROM submission WHERE state = 0 AND num > ?1 ORDER BY num LIMIT 100"

abbrev pub waiting : List Term
waiting = op2 (Compare Eq Binary) (col 1 7) (lit (Int (pos 0))) ∷ op2 (Compare Gt Binary) (col 1 0) (col 0 0) ∷ []

abbrev pub as_it_stands : List Term
as_it_stands = col 1 2 ∷ col 1 3 ∷ col 1 4 ∷ col 1 5 ∷ col 1 6 ∷ col 1 7 ∷ col 1 8 ∷ col 1 9 ∷ col 1 0 ∷ []

abbrev pub by_number : List (Term × Key)
by_number = (col 1 0, ascending Binary) ∷ []

abbrev pub a_hundred : Term
a_hundred = lit (Int (pos 100))

select_page_alone : IsAlone pid_schema select_page (Select (program (listing 6 waiting as_it_stands by_number a_hundred)) (codes "author" ∷ codes "path" ∷ codes "form" ∷ codes "name" ∷ codes "note" ∷ codes "state" ∷ codes "decider" ∷ codes "reason" ∷ codes "num" ∷ [])) 1
unfolding understood everything
select_page_alone = refl

pub select_page_is : command_of (understood pid_schema select_page) ≡ Select (program (listing 6 waiting as_it_stands by_number a_hundred))
    (codes "author" ∷ codes "path" ∷ codes "form" ∷ codes "name" ∷ codes "note" ∷ codes "state" ∷ codes "decider" ∷ codes "reason" ∷ codes "num" ∷ [])
select_page_is = command_alone pid_schema select_page _ 1 select_page_alone

pub select_page_plain : IsPlain (understood pid_schema select_page)
select_page_plain = plain_alone pid_schema select_page _ 1 select_page_alone

pub select_page_unlisted : reads_listing pid_schema select_page ≡ false
unfolding understood everything
select_page_unlisted = refl

page_one : (after : ℕ) → IsOneAs select_page (number after ∷ []) (understood pid_schema select_page)
page_one after = one_alone select_page (number after ∷ []) (understood pid_schema select_page) _ select_page_alone

pub page_query : (after : ℕ) → IsQuery pid_schema select_page (number after ∷ [])
page_query after = in_order pid_schema select_page (number after ∷ []) 6 waiting as_it_stands
    (codes "author" ∷ codes "path" ∷ codes "form" ∷ codes "name" ∷ codes "note" ∷ codes "state" ∷ codes "decider" ∷ codes "reason" ∷ codes "num" ∷ []) (page_one after) by_number a_hundred select_page_is select_page_unlisted refl

abbrev pub page_mark : ℕ × Standing → Output
page_mark s = (number s.0 ∷ [], pending_row s)

pub higher : (m n : ℕ) → is_true (binary (Compare Gt Binary) (number m) (number n)) ≡ nat_lt n m
unfolding binary
higher m n = said _ ∙ ap is_gt (value_cmp-Int (pos m) (pos n)) ∙ grind (arith, ints, nat_tests)

zero_state : (m : ℕ) → equal Binary (number m) (Int (pos 0)) ≡ Rattle.std.specs.Prelude.◌==◌ m 0
zero_state m = same _ _
    (λ h. (Decides-eqb m 0).1 (pos_same m 0 (integers_equal (pos m) (pos 0) h)))
    (λ h. let is : m ≡ 0 = (Decides-eqb m 0).0 h in subst (λ k. equal Binary (number k) (Int (pos 0)) ≡ true) (sym is) (integer_equal (pos 0)))
  where
    same : (a b : Bool) → (a ≡ true → b ≡ true) → (b ≡ true → a ≡ true) → a ≡ b
    same true b f g = sym (f refl)
    same false true f g = g refl
    same false false f g = refl

turned : (a b : Bool) → (a && (b && true)) ≡ (b && a)
turned true true = refl
turned true false = refl
turned false true = refl
turned false false = refl

open_state : (state : Standings) → Rattle.std.specs.Prelude.◌==◌ (state_number state) 0 ≡ is_pending state
open_state states.Pending = refl
open_state (states.Approved decider) = refl
open_state (states.Rejected decider reason) = refl
open_state states.Withdrawn = refl

hits_pending : (after : ℕ) (id : ℤ) (n : ℕ) (s : Standing) → hits waiting (number after ∷ []) (submission_row id n s) ≡ waits_above after (n, s)
hits_pending after id n s =
    (λ i. zero_state (state_number s.state) i && (higher n after i && true)) ∙ turned (Rattle.std.specs.Prelude.◌==◌ (state_number s.state) 0) (nat_lt after n)
    ∙ ap (λ b. nat_lt after n && b) (open_state s.state)

pub less_number : (a b : ℕ) → a < b → int_cmp (pos a) (pos b) ≡ Less
less_number a b h = grind (arith, ints, nat_tests)

standings_there : (submits : List Submitted) (state : ℕ → Standings) (n k : ℕ) (s : Submitted) → slice_get submits k ≡ Some s → Has (standings_from n submits state) (k + n, record { submitted = s; state = state (k + n) })
standings_there [] state n k s h = absurd (let bad : ⊥ = cc in bad)
standings_there (x ∷ submits) state n zero s h = let same : x ≡ s = cc in let at : 0 + n ≡ n = omega arith in inl (λ i. (at i, record { submitted = sym same i; state = state (at i) }))
standings_there (x ∷ submits) state n (suc k) s h =
    let at : k + (n + 1) ≡ suc k + n = omega arith in
    inr (subst (λ p. Has (standings_from (n + 1) submits state) (p, record { submitted = s; state = state p })) at (standings_there submits state (n + 1) k s h))

pub standings_are : (submits : List Submitted) (state : ℕ → Standings) (n : ℕ) (e : ℕ × Standing) → Has (standings_from n submits state) e
    → (k : ℕ) × (e.0 ≡ k + n) × (slice_get submits k ≡ Some e.1.submitted) × (e.1.state ≡ state e.0)
standings_are [] state n e h = absurd h
standings_are (x ∷ submits) state n e (inl same) =
    (0, ap (λ (y : ℕ × Standing). y.0) same ∙ omega arith, ap (λ (y : ℕ × Standing). Some y.1.submitted) (sym same), ap (λ (y : ℕ × Standing). y.1.state) same ∙ ap (λ (y : ℕ × Standing). state y.0) (sym same))
standings_are (x ∷ submits) state n e (inr later) = let it = standings_are submits state (n + 1) e later in (suc it.0, omega (arith, it.1), it.2, it.3)

module _ (params : Row) where
  abbrev cmp : Output → Output → Ordering
  cmp = output_cmp (listing 6 waiting as_it_stands by_number a_hundred)

  numbers_above : (f : ℕ × Standing → Bool) (n m : ℕ) (s : Standing) (submits : List Submitted) (state : ℕ → Standings) → n < m
      → AllByRecursion (λ o. cmp (page_mark (n, s)) o ≡ Less) (map page_mark (filter f (standings_from m submits state)))
  numbers_above f n m s [] state h = tt
  numbers_above f n m s (x ∷ submits) state h =
      elim (f (m, record { submitted = x; state = state m })) as (λ b. AllByRecursion (λ o. cmp (page_mark (n, s)) o ≡ Less)
      (map page_mark (cond b ((m, record { submitted = x; state = state m }) ∷ filter f (standings_from (m + 1) submits state)) (filter f (standings_from (m + 1) submits state))))) [
        | true ↦ (ap (λ o. ordering_then o Rattle.std.proofs.Common.Equal) (value_cmp-Int (pos n) (pos m) ∙ less_number n m h), numbers_above f n (m + 1) s submits state (omega (arith, h)))
        | false ↦ numbers_above f n (m + 1) s submits state (omega (arith, h))
      ]

  numbers_rise : (f : ℕ × Standing → Bool) (n : ℕ) (submits : List Submitted) (state : ℕ → Standings) → IsAscending (λ a b. cmp a b ≡ Less) (map page_mark (filter f (standings_from n submits state)))
  numbers_rise f n [] state = tt
  numbers_rise f n (x ∷ submits) state =
      elim (f (n, record { submitted = x; state = state n })) as (λ b. IsAscending (λ a b. cmp a b ≡ Less)
      (map page_mark (cond b ((n, record { submitted = x; state = state n }) ∷ filter f (standings_from (n + 1) submits state)) (filter f (standings_from (n + 1) submits state))))) [
        | true ↦ (numbers_above f n (n + 1) (record { submitted = x; state = state n }) submits state (omega arith), numbers_rise f (n + 1) submits state)
        | false ↦ numbers_rise f (n + 1) submits state
      ]

module _ (v : Views) where
  abbrev all : List (ℕ × Standing)
  all = standings_from 1 v.submits v.state

  its_standing : (n : ℕ) (s : Submitted) → submission_at n v.submits ≡ Some s → Has all (n, record { submitted = s; state = v.state n })
  its_standing zero s is = absurd (let bad : ⊥ = cc in bad)
  its_standing (suc k) s is = let at : k + 1 ≡ suc k = omega arith in subst (λ p. Has all (p, record { submitted = s; state = v.state p })) at (standings_there v.submits v.state 1 k s is)

  pub stands_in : (n : ℕ) (s : Standing) → standing_in v n ≡ Some s → Has all (n, s)
  stands_in n s is = let it = mapped_some _ (submission_at n v.submits) s is in subst (λ (t : Standing). Has all (n, t)) it.2 (its_standing n it.0 it.1)

  pub in_standing : (e : ℕ × Standing) → Has all e → standing_in v e.0 ≡ Some e.1
  in_standing e h =
      let it = standings_are v.submits v.state 1 e h in
      let at : e.0 ≡ suc it.0 = it.1 ∙ omega arith in
      let there : submission_at e.0 v.submits ≡ Some e.1.submitted = ap (λ n. submission_at n v.submits) at ∙ it.2 in
      ap (option_map (λ s. record { submitted = s; state = v.state e.0 })) there ∙ λ i. Some (record { submitted = e.1.submitted; state = sym it.3 i })

  pub among_all : (after most : ℕ) (e : ℕ × Standing) → Has (pending_in most after v) e → Has all e
  among_all after most e h = (has_filtered (waits_above after) all e (taken_has most (filter (waits_above after) all) e h)).0
    where
      taken_has : (k : ℕ) (xs : List (ℕ × Standing)) (e : ℕ × Standing) → Has (take k xs) e → Has xs e
      taken_has zero xs e h = absurd h
      taken_has (suc k) [] e h = absurd h
      taken_has (suc k) (x ∷ xs) e (inl same) = inl same
      taken_has (suc k) (x ∷ xs) e (inr later) = inr (taken_has k xs e later)

  pub page_in : (after most : ℕ) → AreStandingIn v (pending_in most after v)
  page_in after most = each (pending_in most after v) (λ e h. in_standing e (among_all after most e h))
    where
      each : (xs : List (ℕ × Standing)) → ((e : ℕ × Standing) → Has xs e → standing_in v e.0 ≡ Some e.1) → AreStandingIn v xs
      each [] f = tt
      each (x ∷ xs) f = (f x (inl refl), each xs (λ e h. f e (inr h)))

module _ (db : Database) (c : Counts) (v : Views) (shows : ShowsCounting c db v) (after : ℕ) where
  abbrev params : Row
  params = number after ∷ []

  pending_stand : StandsFor 6 waiting as_it_stands by_number a_hundred params page_mark (filter (waits_above after) (standings_from 1 v.submits v.state)) (db.trees 6)
  pending_stand = record {
    each = λ r h.
        let kept = has_filtered (hits waiting params) (db.trees 6) r h in
        let pair = shows.submissions.sound r kept.0 in
        let is : waits_above after (pair.key, pair.value) ≡ true = sym (hits_pending after pair.id pair.key pair.value) ∙ subst (λ x. hits waiting params x ≡ true) pair.is kept.1 in
        ((pair.key, pair.value), has_kept (waits_above after) _ (pair.key, pair.value) (stands_in v pair.key pair.value pair.maps) is, ap (out 6 waiting as_it_stands by_number a_hundred params) pair.is);
    there = λ e h.
        let kept = has_filtered (waits_above after) (standings_from 1 v.submits v.state) e h in
        let pair = shows.submissions.complete e.0 e.1 (in_standing v e kept.0) in
        (submission_row pair.0 e.0 e.1, has_kept (hits waiting params) (db.trees 6) (submission_row pair.0 e.0 e.1) pair.1 (hits_pending after pair.0 e.0 e.1 ∙ kept.1), refl);
    apart = finer_distinct rowid (out 6 waiting as_it_stands by_number a_hundred params) (passing waiting params (db.trees 6)) (λ x y same. ap (λ (o : Output). column o.0 0) same)
        (kept_distinct rowid (hits waiting params) (db.trees 6) (rowids_apart (db.trees 6) shows.submissions.ordered));
    rises = numbers_rise params (waits_above after) 1 v.submits v.state;
  }

  pub page_found : (old new : State) → old.now ≡ db → (answer : List Row) → Shown select_page (number after ∷ []) old new answer → answer ≡ map pending_row (pending_in 100 after v)
  page_found old new is answer h =
      let got = reads_as select_page params old new pid_schema (ap (λ (d : Database). d.schema) is ∙ shows.schema) _ select_page_is select_page_plain select_page_unlisted answer h in
      listed 6 waiting as_it_stands by_number a_hundred params page_mark (filter (waits_above after) (standings_from 1 v.submits v.state)) (overlay db.trees []) (db.trees 6) answer (none_over db.trees 6) pending_stand
      (subst (λ (d : Database). IsAnswer (listing 6 waiting as_it_stands by_number a_hundred) (overlay d.trees []) params answer) is (got.answer Null))
      ∙ first_of 100 (filter (waits_above after) (standings_from 1 v.submits v.state))
    where
      first_of : (k : ℕ) (xs : List (ℕ × Standing)) → take k (map (λ (e : ℕ × Standing). (page_mark e).1) xs) ≡ map pending_row (take k xs)
      first_of zero xs = refl
      first_of (suc k) [] = refl
      first_of (suc k) (x ∷ xs) = ap (λ l. pending_row x ∷ l) (first_of k xs)

pub same_number : (m n : ℕ) → number m ≡ number n → m ≡ n
same_number m n e = cc

-- a row that reads to a submission and a number is that of no other
pub pending_read : HaveOnePath → (v : Views) (s : ℕ × Standing) (row : Row) (submission : Submission) (n : ℕ) → AreViews v → standing_in v s.0 ≡ Some s.1 → row ≡ pending_row s → ReadsTo row submission → column row 8 ≡ number n
    → ◌≡◌ {A = ℕ × Standing} (n, standing_of submission) s
pending_read one v s row submission n views is row_is reads at =
    let r = subst (λ x. ReadsTo x submission) row_is reads in
    let short : ReadsTo (standing_row s.1) submission =
    record { in_range = r.in_range; author = r.author; path = r.path; form = r.form; name = r.name; note = r.note; state = r.state; decider = r.decider; reason = r.reason } in
    let read = standing_read one v s.0 (standing_row s.1) submission views (ap (option_map standing_row) (sym is)) short ∙ is in
    let stands : standing_of submission ≡ s.1 = cc in
    let num : n ≡ s.0 = same_number n s.0 (sym at ∙ ap (λ x. column x 8) row_is) in
    λ i. (num i, stands i)

-- ---- what is readable

pub number_within : (v : Views) (n : ℕ) (s : Standing) → standing_in v n ≡ Some s → n ≤ length v.submits
number_within v n s is = let from = mapped_some _ (submission_at n v.submits) s is in within n from.0 from.1
  where
    within : (n : ℕ) (x : Submitted) → submission_at n v.submits ≡ Some x → n ≤ length v.submits
    within zero x there = absurd (let bad : ⊥ = cc in bad)
    within (suc k) x there = let low = slice_get_within v.submits k x there in omega (arith, low)

pub all_readable : (v : Views) (all : List (ℕ × Standing)) → IsReadable v → AreStandingIn v all → AllByRecursion IsReadablePending all
all_readable v [] readable there = tt
all_readable v (s ∷ all) readable there =
    let good = standing_readable v s.0 s.1 readable there.0 in
    let low = number_within v s.0 s.1 there.0 in
    ((omega (arith, low, readable.submission_count), good.0, good.1), all_readable v all readable there.1)
