-- What a query of a page of remarks answers.
use Rattle.std.proofs.Common.{◌≡◌, ℕ, zero, suc, ℤ, pos, ◌+◌, ◌-◌, ◌<◌, ◌≤◌, ◌^◌, List, [], ◌∷◌, length, map, take, drop, true, false, Some, Ordering, Less, Equal, refl, sym, ap, subst, ◌∙◌, codes, arith}
use Rattle.std.specs.Prelude.{slice_get, nat_lt}
use Rattle.std.specs.List.{AllByRecursion}
use Rattle.std.specs.Ordering.{ordering_then}
use Rattle.std.proofs.lemmas.Bool.{and_parts, and_from}
use Rattle.std.proofs.lemmas.Bool.Decides.{nat_tests}
use Rattle.sqlite.specs.declared.types.Value.TheVariants.{Null, Text}
use Rattle.sqlite.specs.Order.{Row, column}
use Rattle.sqlite.specs.Ops.{is_true, binary}
use Rattle.sqlite.specs.Tree.{IsAscending}
use Rattle.sqlite.specs.Term.{Term, col, op2}
use Rattle.sqlite.specs.Query.{IsAnswer, Output, output_cmp}
use Rattle.sqlite.specs.Program.{overlay}
use Rattle.sqlite.specs.Listing.{understood, reads_listing}
use Rattle.sqlite.specs.Command.TheVariants.{Select}
use Rattle.sqlite.specs.Collation.TheVariants.{Binary}
use Rattle.sqlite.specs.Effect.{Database}
use Rattle.sqlite.specs.State.{State, Shown}
use Rattle.sqlite.proofs.Callers.{IsPlain, command_of, reads_as}
use Rattle.sqlite_tied.specs.Compute.{everything}
use Rattle.sqlite_value.proofs.OrderLemmas.{value_cmp-Int}
use Rattle.sqlite_rules.specs.Lists.{Has}
use Rattle.sqlite_rules.proofs.ListLemmas.{has_filtered, has_kept}
use Rattle.sqlite_sql.specs.declared.ops.BinaryOp.TheVariants.{Compare}
use Rattle.sqlite_sql.specs.declared.ops.CompareOp.TheVariants.{Gt}
use Rattle.pid_moderation.specs.RemarkPages.{placed_after, remarks_from}
use Rattle.pid_moderation.specs.Submissions.{remark_of}
use Rattle.pid_moderation.specs.Views.{Views, Remark}
use Rattle.pid_moderation.specs.declared.lists.Comment.{Comment}
use Rattle.pid_tables.specs.Lists.Steps.RemarkRows.{IsReadablePlaced, placed_row}
use Rattle.pid_tables.specs.Rows.Causes.{IsReadable, IsReadableRemark}
use Rattle.pid_tables.specs.Rows.Steps.Queries.{IsQuery}
use Rattle.pid_tables.specs.Rows.Schema.{pid_schema}
use Rattle.pid_tables.specs.Rows.Shows.{Counts, counted_from_one}
use Rattle.pid_tables.specs.Rows.Steps.Shows.{ShowsCounting}
use Rattle.pid_tables.specs.Rows.TableRows.{number, remark_row}
use Rattle.pid_tables.proofs.OfRows.MapLemmas.{none_over}
use Rattle.pid_tables.proofs.OfRows.QueryTexts.{IsOneAs, one_alone, in_order}
use Rattle.pid_tables.proofs.OfRows.Select.{passing, out, integer_equal}
use Rattle.pid_tables.proofs.OfRows.Statements.{program, listing, equals, IsAlone, command_alone, plain_alone}
use Rattle.pid_tables.proofs.OfRows.TurnLemmas.{hits}
use Rattle.pid_tables.proofs.OfLists.OrderedLemmas.{StandsFor, listed}
use Rattle.pid_tables.proofs.OfLists.PendingLists.{a_hundred, higher, same_number}
use Rattle.pid_tables.proofs.OfLists.RemarkLists.{IsOwn, apart_by_place, at_place, by_place, less_number, own_row, placed_is, placed_there}

abbrev pub select_after : List ℕ
select_after = codes "SELECT author, body, seq FROM remark WHERE num = ?1 AND seq > ?2 ORDER BY seq LIMIT 100"

abbrev pub later : List Term
later = equals 1 0 ∷ op2 (Compare Gt Binary) (col 1 2) (col 0 1) ∷ []

abbrev pub with_place : List Term
with_place = col 1 3 ∷ col 1 4 ∷ col 1 2 ∷ []

abbrev names : List (List ℕ)
names = codes "author" ∷ codes "body" ∷ codes "seq" ∷ []

select_after_alone : IsAlone pid_schema select_after (Select (program (listing 7 later with_place by_place a_hundred)) names) 2
unfolding understood everything
select_after_alone = refl

pub select_after_is : command_of (understood pid_schema select_after) ≡ Select (program (listing 7 later with_place by_place a_hundred)) names
select_after_is = command_alone pid_schema select_after _ 2 select_after_alone

pub select_after_plain : IsPlain (understood pid_schema select_after)
select_after_plain = plain_alone pid_schema select_after _ 2 select_after_alone

pub select_after_unlisted : reads_listing pid_schema select_after ≡ false
unfolding understood everything
select_after_unlisted = refl

after_one : (n after : ℕ) → IsOneAs select_after (number n ∷ number after ∷ []) (understood pid_schema select_after)
after_one n after = one_alone select_after (number n ∷ number after ∷ []) (understood pid_schema select_after) _ select_after_alone

pub after_query : (n after : ℕ) → IsQuery pid_schema select_after (number n ∷ number after ∷ [])
after_query n after = in_order pid_schema select_after (number n ∷ number after ∷ []) 7 later with_place names (after_one n after) by_place a_hundred select_after_is select_after_unlisted refl

abbrev placed_mark : ℕ × Remark → Output
placed_mark p = (number p.0 ∷ [], placed_row p)

module _ (params : Row) where
  abbrev cmp : Output → Output → Ordering
  cmp = output_cmp (listing 7 later with_place by_place a_hundred)

  places_above : (n m : ℕ) (r : Remark) (remarks : List Remark) → n < m → AllByRecursion (λ o. cmp (placed_mark (n, r)) o ≡ Less) (map placed_mark (remarks_from m remarks))
  places_above n m r [] h = tt
  places_above n m r (x ∷ remarks) h = (ap (λ o. ordering_then o Equal) (value_cmp-Int (pos n) (pos m) ∙ less_number n m h), places_above n (m + 1) r remarks (omega (arith, h)))

  places_rise : (n : ℕ) (remarks : List Remark) → IsAscending (λ a b. cmp a b ≡ Less) (map placed_mark (remarks_from n remarks))
  places_rise n [] = tt
  places_rise n (r ∷ remarks) = (places_above n (n + 1) r remarks (omega arith), places_rise (n + 1) remarks)

-- what is left of a list has its elements further on
left_at : (remarks : List Remark) (after k : ℕ) → slice_get (drop after remarks) k ≡ slice_get remarks (after + k)
left_at remarks zero k = let none : k ≡ 0 + k = omega arith in ap (slice_get remarks) none
left_at [] (suc after) k = refl
left_at (x ∷ remarks) (suc after) k = let more : suc (after + k) ≡ suc after + k = omega arith in left_at remarks after k ∙ ap (slice_get (x ∷ remarks)) more

module _ (db : Database) (c : Counts) (v : Views) (shows : ShowsCounting c db v) (n after : ℕ) where
  abbrev params : Row
  params = number n ∷ number after ∷ []

  abbrev all : List (ℕ × Remark)
  all = placed_after after (v.remarks n)

  its_own : (r : Row) → Has (passing later params (db.trees 7)) r → IsOwn db c v shows n r
  its_own r h = let kept = has_filtered _ (db.trees 7) r h in own_row db c v shows n r kept.0 (and_parts _ _ kept.1).0

  is_above : (r : Row) (h : Has (passing later params (db.trees 7)) r) → after < (its_own r h).1
  is_above r h =
      let kept = has_filtered _ (db.trees 7) r h in
      let own = its_own r h in
      let test : is_true (binary (Compare Gt Binary) (column r 2) (number after)) ≡ true = (and_parts _ _ (and_parts _ _ kept.1).1).0 in
      let above : nat_lt after own.1 ≡ true = sym (higher own.1 after) ∙ subst (λ x. is_true (binary (Compare Gt Binary) (column x 2) (number after)) ≡ true) own.3 test in
      grind (arith, nat_tests)

  place_of : (s : ℕ) (x : Remark) → after < s → counted_from_one s (v.remarks n) ≡ Some x → Has all (s, x)
  place_of zero x above is = absurd (omega (arith, above))
  place_of (suc k) x above is =
      let at : after + (k - after) ≡ k = omega (arith, above) in
      let there : slice_get (drop after (v.remarks n)) (k - after) ≡ Some x = left_at (v.remarks n) after (k - after) ∙ ap (slice_get (v.remarks n)) at ∙ is in
      let place : (k - after) + (after + 1) ≡ suc k = omega (arith, above) in
      subst (λ p. Has all (p, x)) place (placed_there (drop after (v.remarks n)) (after + 1) (k - after) x there)

  counted : (p : ℕ × Remark) → Has all p → (after < p.0) × (counted_from_one p.0 (v.remarks n) ≡ Some p.1)
  counted p h =
      let at = placed_is (drop after (v.remarks n)) (after + 1) p h in
      let place : p.0 ≡ (after + at.0) + 1 = at.1 ∙ omega arith in
      (omega (arith, place), at_place db c v shows n p (after + at.0) place (sym (left_at (v.remarks n) after at.0) ∙ at.2))

  passes : (id : ℤ) (p : ℕ × Remark) → after < p.0 → hits later params (remark_row id (n, p.0) p.1) ≡ true
  passes id p above =
      let is : nat_lt after p.0 ≡ true = grind (arith, nat_tests) in
      and_from _ _ (integer_equal (pos n)) (and_from _ _ (higher p.0 after ∙ is) refl)

  remarks_stand : StandsFor 7 later with_place by_place a_hundred params placed_mark all (db.trees 7)
  remarks_stand = record {
    each = λ r h.
        let it = its_own r h in
        ((it.1, it.2), place_of it.1 it.2 (is_above r h) it.4, ap (out 7 later with_place by_place a_hundred params) it.3);
    there = λ p h.
        let at = counted p h in
        let pair = shows.remarks.complete (n, p.0) p.1 at.1 in
        (remark_row pair.0 (n, p.0) p.1, has_kept _ (db.trees 7) (remark_row pair.0 (n, p.0) p.1) pair.1 (passes pair.0 p at.0), refl);
    apart = apart_by_place db c v shows n later with_place a_hundred params its_own;
    rises = places_rise params (after + 1) (drop after (v.remarks n));
  }

  pub after_found : (old new : State) → old.now ≡ db → (answer : List Row) → Shown select_after params old new answer → answer ≡ map placed_row (take 100 all)
  after_found old new is answer h =
      let got = reads_as select_after params old new pid_schema (ap (λ (d : Database). d.schema) is ∙ shows.schema) _ select_after_is select_after_plain select_after_unlisted answer h in
      listed 7 later with_place by_place a_hundred params placed_mark all (overlay db.trees []) (db.trees 7) answer (none_over db.trees 7) remarks_stand
      (subst (λ (d : Database). IsAnswer (listing 7 later with_place by_place a_hundred) (overlay d.trees []) params answer) is (got.answer Null))
      ∙ first_of 100 all
    where
      first_of : (k : ℕ) (ps : List (ℕ × Remark)) → take k (map (λ (p : ℕ × Remark). (placed_mark p).1) ps) ≡ map placed_row (take k ps)
      first_of zero ps = refl
      first_of (suc k) [] = refl
      first_of (suc k) (p ∷ ps) = ap (λ l. placed_row p ∷ l) (first_of k ps)

-- a row that reads to a remark and its place is that of no other
pub placed_read : (p : ℕ × Remark) (row : Row) (place : ℕ) (comment : Comment) → row ≡ placed_row p → column row 2 ≡ number place → column row 0 ≡ Text comment.author → column row 1 ≡ Text comment.text
    → ◌≡◌ {A = ℕ × Remark} (place, remark_of comment) p
placed_read p row place comment is at author text =
    let num : place ≡ p.0 = same_number place p.0 (sym at ∙ ap (λ r. column r 2) is) in
    let by : comment.author ≡ p.1.author = same_text comment.author p.1.author (sym author ∙ ap (λ r. column r 0) is) in
    let said : comment.text ≡ p.1.text = same_text comment.text p.1.text (sym text ∙ ap (λ r. column r 1) is) in
    λ i. (num i, record { author = by i; text = said i })
  where
    same_text : (a b : List ℕ) → Text a ≡ Text b → a ≡ b
    same_text a b e = cc

-- ---- what is readable

from_readable : (place most : ℕ) (remarks : List Remark) → AllByRecursion IsReadableRemark remarks → place + length remarks ≤ 2 ^ 32 → AllByRecursion IsReadablePlaced (take most (remarks_from place remarks))
from_readable place zero remarks good low = tt
from_readable place (suc most) [] good low = tt
from_readable place (suc most) (r ∷ remarks) good low = ((omega (arith, low), good.0), from_readable (place + 1) most remarks good.1 (omega (arith, low)))

after_readable : (place after most : ℕ) (remarks : List Remark) → AllByRecursion IsReadableRemark remarks → place + length remarks ≤ 2 ^ 32 → AllByRecursion IsReadablePlaced (take most (remarks_from (place + after) (drop after remarks)))
after_readable place zero most remarks good low = let same : place ≡ place + 0 = omega arith in subst (λ k. AllByRecursion IsReadablePlaced (take most (remarks_from k remarks))) same (from_readable place most remarks good low)
after_readable place (suc after) zero [] good low = tt
after_readable place (suc after) (suc most) [] good low = tt
after_readable place (suc after) most (r ∷ remarks) good low =
    let same : (place + 1) + after ≡ place + suc after = omega arith in
    subst (λ k. AllByRecursion IsReadablePlaced (take most (remarks_from k (drop after remarks)))) same (after_readable (place + 1) after most remarks good.1 (omega (arith, low)))

pub all_readable : (v : Views) (n after most : ℕ) → IsReadable v → AllByRecursion IsReadablePlaced (take most (placed_after after (v.remarks n)))
all_readable v n after most readable =
    let count = readable.remark_count n in
    let same : 1 + after ≡ after + 1 = omega arith in
    subst (λ k. AllByRecursion IsReadablePlaced (take most (remarks_from k (drop after (v.remarks n))))) same (after_readable 1 after most (v.remarks n) (readable.remarks n) (omega (arith, count)))
