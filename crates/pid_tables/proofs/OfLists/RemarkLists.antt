-- What a query of the remarks on a submission answers.
use Rattle.std.proofs.Common.{◌≡◌, inl, inr, ℕ, zero, suc, ℤ, pos, ◌+◌, ◌<◌, List, [], ◌∷◌, map, true, false, not, Some, Ordering, Less, Equal, refl, sym, ap, subst, ◌∙◌, codes, arith}
use Rattle.std.specs.Prelude.{◌&&◌}
use Rattle.std.specs.List.{AllByRecursion, list_any}
use Rattle.std.specs.Ordering.{ordering_then, int_cmp, is_ne}
use Rattle.std.proofs.lemmas.Bool.{and_parts, and_from, both_ways, not-true}
use Rattle.std.proofs.lemmas.Bool.Decides.{nat_tests}
use Rattle.std.proofs.lemmas.Int.{ints}
use Rattle.sqlite.specs.declared.types.Value.TheVariants.{Null, Int}
use Rattle.sqlite.specs.Order.{Row, column, value_cmp}
use Rattle.sqlite.specs.Tree.{IsAscending, rowid}
use Rattle.sqlite_trees.proofs.ListLemmas.{ascending-filter}
use Rattle.sqlite.specs.Term.{Term, col}
use Rattle.sqlite.specs.Query.{IsAnswer, Output, output_cmp}
use Rattle.sqlite.specs.Program.{overlay}
use Rattle.sqlite.specs.Listing.{understood, reads_listing}
use Rattle.sqlite.specs.Command.TheVariants.{Select}
use Rattle.sqlite.specs.Collation.TheVariants.{Binary}
use Rattle.sqlite.specs.Effect.{Database}
use Rattle.sqlite.specs.State.{State, Shown}
use Rattle.sqlite.proofs.Callers.{IsPlain, command_of, reads_as}
use Rattle.sqlite_tied.specs.Compute.{everything}
use Rattle.sqlite_value.specs.declared.keys.Key.{Key}
use Rattle.sqlite_value.proofs.OrderLemmas.{value_cmp-Int}
use Rattle.sqlite_value.specs.Keys.{ascending, plain, first_key}
use Rattle.sqlite_rules.specs.Lists.{Has}
use Rattle.sqlite_rules.proofs.ListLemmas.{has_filtered, has_kept, all_has}
use Rattle.sqlite_schema.specs.Rules.{agree, clashes, equal, passes, Obeys}
use Rattle.sqlite_schema.specs.declared.schema.Constraint.TheVariants.{Unique}
use Rattle.pid_moderation.specs.RemarkPages.{remarks_from}
use Rattle.pid_moderation.specs.Views.{Views, Remark}
use Rattle.pid_tables.specs.Rows.Schema.{pid_schema, remark}
use Rattle.pid_tables.specs.Rows.TableRows.{number, remark_row}
use Rattle.pid_tables.specs.Rows.Steps.Answers.{remark_shown}
use Rattle.pid_tables.specs.Rows.Shows.{Counts, counted_from_one}
use Rattle.pid_tables.specs.Rows.Steps.Shows.{ShowsCounting}
use Rattle.pid_tables.proofs.OfRows.Statements.{program, listing, whole, IsAlone, command_alone, plain_alone}
use Rattle.pid_tables.proofs.OfRows.MapLemmas.{none_over}
use Rattle.pid_tables.proofs.OfRows.QueryTexts.{IsOneAs, one_alone, in_order}
use Rattle.pid_tables.specs.Rows.Steps.Queries.{IsQuery}
use Rattle.pid_tables.proofs.OfRows.Keys.{pos_same}
use Rattle.pid_tables.proofs.OfRows.KeyTexts.{by_first}
use Rattle.pid_tables.proofs.OfRows.Lengths.{IsDistinct}
use Rattle.pid_tables.proofs.OfRows.OneRowEach.{rising_apart, below_differs, none_among}
use Rattle.pid_tables.proofs.OfRows.Select.{passing, out, integers_equal, integer_equal}
use Rattle.pid_tables.proofs.OfLists.OrderedLemmas.{StandsFor, listed}

abbrev pub select_remarks : List ℕ
select_remarks = codes "SELECT author, body FROM remark WHERE num = ?1 ORDER BY seq"

abbrev pub what_is_said : List Term
what_is_said = col 1 3 ∷ col 1 4 ∷ []

abbrev pub by_place : List (Term × Key)
by_place = (col 1 2, ascending Binary) ∷ []

select_remarks_alone : IsAlone pid_schema select_remarks (Select (program (listing 7 by_first what_is_said by_place whole)) (codes "author" ∷ codes "body" ∷ [])) 1
unfolding understood everything
select_remarks_alone = refl

pub select_remarks_is : command_of (understood pid_schema select_remarks) ≡ Select (program (listing 7 by_first what_is_said by_place whole)) (codes "author" ∷ codes "body" ∷ [])
select_remarks_is = command_alone pid_schema select_remarks _ 1 select_remarks_alone

pub select_remarks_plain : IsPlain (understood pid_schema select_remarks)
select_remarks_plain = plain_alone pid_schema select_remarks _ 1 select_remarks_alone

pub select_remarks_unlisted : reads_listing pid_schema select_remarks ≡ false
unfolding understood everything
select_remarks_unlisted = refl

remarks_one : (n : ℕ) → IsOneAs select_remarks (number n ∷ []) (understood pid_schema select_remarks)
remarks_one n = one_alone select_remarks (number n ∷ []) (understood pid_schema select_remarks) _ select_remarks_alone

pub remarks_query : (n : ℕ) → IsQuery pid_schema select_remarks (number n ∷ [])
remarks_query n = in_order pid_schema select_remarks (number n ∷ []) 7 by_first what_is_said (codes "author" ∷ codes "body" ∷ []) (remarks_one n) by_place whole select_remarks_is select_remarks_unlisted refl

abbrev pub place_mark : ℕ × Remark → Output
place_mark e = (number e.0 ∷ [], remark_shown e.1)

pub placed_there : (remarks : List Remark) (n k : ℕ) (r : Remark) → Rattle.std.specs.Prelude.slice_get remarks k ≡ Some r → Has (remarks_from n remarks) (k + n, r)
placed_there [] n k r h = absurd (let bad : ⊥ = cc in bad)
placed_there (x ∷ remarks) n zero r h = let same : x ≡ r = cc in let at : 0 + n ≡ n = omega arith in inl (λ i. (at i, sym same i))
placed_there (x ∷ remarks) n (suc k) r h = let at : k + (n + 1) ≡ suc k + n = omega arith in inr (subst (λ p. Has (remarks_from (n + 1) remarks) (p, r)) at (placed_there remarks (n + 1) k r h))

pub placed_is : (remarks : List Remark) (n : ℕ) (e : ℕ × Remark) → Has (remarks_from n remarks) e → (k : ℕ) × (e.0 ≡ k + n) × (Rattle.std.specs.Prelude.slice_get remarks k ≡ Some e.1)
placed_is [] n e h = absurd h
placed_is (x ∷ remarks) n e (inl same) = (0, ap (λ (y : ℕ × Remark). y.0) same ∙ omega arith, ap (λ (y : ℕ × Remark). Some y.1) (sym same))
placed_is (x ∷ remarks) n e (inr later) = let it = placed_is remarks (n + 1) e later in (suc it.0, omega (arith, it.1), it.2)

pub less_number : (a b : ℕ) → a < b → int_cmp (pos a) (pos b) ≡ Less
less_number a b h = grind (arith, ints, nat_tests)

said_alone : (n : ℕ) (remarks : List Remark) → map (λ (e : ℕ × Remark). (place_mark e).1) (remarks_from n remarks) ≡ map remark_shown remarks
said_alone n [] = refl
said_alone n (r ∷ remarks) = ap (λ l. remark_shown r ∷ l) (said_alone (n + 1) remarks)

module _ (params : Row) where
  abbrev cmp : Output → Output → Ordering
  cmp = output_cmp (listing 7 by_first what_is_said by_place whole)

  places_above : (n m : ℕ) (r : Remark) (remarks : List Remark) → n < m → AllByRecursion (λ o. cmp (place_mark (n, r)) o ≡ Less) (map place_mark (remarks_from m remarks))
  places_above n m r [] h = tt
  places_above n m r (x ∷ remarks) h = (ap (λ o. ordering_then o Equal) (value_cmp-Int (pos n) (pos m) ∙ less_number n m h), places_above n (m + 1) r remarks (omega (arith, h)))

  places_rise : (n : ℕ) (remarks : List Remark) → IsAscending (λ a b. cmp a b ≡ Less) (map place_mark (remarks_from n remarks))
  places_rise n [] = tt
  places_rise n (r ∷ remarks) = (places_above n (n + 1) r remarks (omega arith), places_rise (n + 1) remarks)

agrees_on_both : (a b : Row) (k l : ℤ) → column a 1 ≡ Int k → column b 1 ≡ Int k → column a 2 ≡ Int l → column b 2 ≡ Int l → agree plain (1 ∷ 2 ∷ []) a (1 ∷ 2 ∷ []) b ≡ true
unfolding first_key
agrees_on_both a b k l p q r s = (λ i. equal Binary (p i) (q i) && (equal Binary (r i) (s i) && true)) ∙ and_from _ _ (integer_equal k) (and_from _ _ (integer_equal l) refl)

module _ (db : Database) (c : Counts) (v : Views) (shows : ShowsCounting c db v) (n : ℕ) where
  abbrev params : Row
  params = number n ∷ []

  abbrev pub IsOwn : Row → Type 0
  IsOwn r = (id : ℤ) × (s : ℕ) × (x : Remark) × (r ≡ remark_row id (n, s) x) × (counted_from_one s (v.remarks n) ≡ Some x)

  pub own_row : (r : Row) → Has (db.trees 7) r → equal Binary (column r 1) (number n) ≡ true → IsOwn r
  own_row r there test =
      let pair = shows.remarks.sound r there in
      let same : pair.key.0 ≡ n = pos_same pair.key.0 n (integers_equal (pos pair.key.0) (pos n) (rw pair.is at test)) in
      subst (λ m. (id : ℤ) × (s : ℕ) × (x : Remark) × (r ≡ remark_row id (m, s) x) × (counted_from_one s (v.remarks m) ≡ Some x)) same (pair.id, pair.key.1, pair.value, pair.is, pair.maps)

  its_own : (r : Row) → Has (passing by_first params (db.trees 7)) r → IsOwn r
  its_own r h = let kept = has_filtered _ (db.trees 7) r h in own_row r kept.0 (and_parts _ _ kept.1).0

  -- no two remarks on a submission have one place
  pub apart_by_place : (tests project : List Term) (limit : Term) (given : Row) → ((r : Row) → Has (passing tests given (db.trees 7)) r → IsOwn r)
      → IsDistinct (map (out 7 tests project by_place limit given) (passing tests given (db.trees 7)))
  apart_by_place tests project limit given own =
      let obeys : Obeys pid_schema db.trees = subst (λ s. Obeys s db.trees) shows.schema shows.sound.obeys in
      let passed : AllByRecursion (λ row. passes Unique pid_schema db.trees remark row ≡ true) (db.trees 7) = (obeys.rules Unique).1.1.1.1.0 in
      rising_apart (λ a b. value_cmp (rowid a) (rowid b) ≡ Less) (out 7 tests project by_place limit given) (passing tests given (db.trees 7)) (ascending-filter _ _ (db.trees 7) shows.remarks.ordered) (λ a b p q less same.
      let ka = own a p in
      let kb = own b q in
      let first = (has_filtered _ (db.trees 7) a p).0 in
      let clean : not (clashes plain (1 ∷ 2 ∷ []) (db.trees 7) b) ≡ true = (and_parts _ _ (all_has _ (db.trees 7) b passed (has_filtered _ (db.trees 7) b q).0)).0 in
      let none = none_among _ (db.trees 7) a (not-true _ clean) first in
      let place : column a 2 ≡ column b 2 = ap (λ (o : Output). column o.0 0) same in
      let at_b : column b 2 ≡ Int (pos kb.1) = ap (λ x. column x 2) kb.3 in
      both_ways _ none (and_from _ _ (agrees_on_both a b (pos n) (pos kb.1) (ap (λ x. column x 1) ka.3) (ap (λ x. column x 1) kb.3) (place ∙ at_b) at_b)
      (below_differs (rowid a) (rowid b) ka.0 kb.0 (ap rowid ka.3) (ap rowid kb.3) less)))

  place_of : (s : ℕ) (x : Remark) → counted_from_one s (v.remarks n) ≡ Some x → Has (remarks_from 1 (v.remarks n)) (s, x)
  place_of zero x is = absurd (let bad : ⊥ = cc in bad)
  place_of (suc k) x is = let at : k + 1 ≡ suc k = omega arith in subst (λ p. Has (remarks_from 1 (v.remarks n)) (p, x)) at (placed_there (v.remarks n) 1 k x is)

  pub at_place : (e : ℕ × Remark) (k : ℕ) → e.0 ≡ k + 1 → Rattle.std.specs.Prelude.slice_get (v.remarks n) k ≡ Some e.1 → counted_from_one e.0 (v.remarks n) ≡ Some e.1
  at_place e k is there = let at : e.0 ≡ suc k = is ∙ omega arith in ap (λ p. counted_from_one p (v.remarks n)) at ∙ there

  remarks_stand : StandsFor 7 by_first what_is_said by_place whole params place_mark (remarks_from 1 (v.remarks n)) (db.trees 7)
  remarks_stand = record {
    each = λ r h. let it = its_own r h in ((it.1, it.2), place_of it.1 it.2 it.4, ap (out 7 by_first what_is_said by_place whole params) it.3);
    there = λ e h.
        let at = placed_is (v.remarks n) 1 e h in
        let pair = shows.remarks.complete (n, e.0) e.1 (at_place e at.0 at.1 at.2) in
        (remark_row pair.0 (n, e.0) e.1, has_kept _ (db.trees 7) (remark_row pair.0 (n, e.0) e.1) pair.1 (and_from _ _ (integer_equal (pos n)) refl), refl);
    apart = apart_by_place by_first what_is_said whole params its_own;
    rises = places_rise params 1 (v.remarks n);
  }

  pub remarks_found : (old new : State) → old.now ≡ db → (answer : List Row) → Shown select_remarks (number n ∷ []) old new answer → answer ≡ map remark_shown (v.remarks n)
  remarks_found old new is answer h =
      let got = reads_as select_remarks params old new pid_schema (ap (λ (d : Database). d.schema) is ∙ shows.schema) _ select_remarks_is select_remarks_plain select_remarks_unlisted answer h in
      listed 7 by_first what_is_said by_place whole params place_mark (remarks_from 1 (v.remarks n)) (overlay db.trees []) (db.trees 7) answer (none_over db.trees 7) remarks_stand
      (subst (λ (d : Database). IsAnswer (listing 7 by_first what_is_said by_place whole) (overlay d.trees []) params answer) is (got.answer Null)) ∙ said_alone 1 (v.remarks n)
