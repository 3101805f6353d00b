-- What a query of the paths and the authors of submissions answers.
use Rattle.std.proofs.Common.{◌≡◌, ℕ, zero, suc, ℤ, pos, ◌+◌, ◌<◌, List, [], ◌∷◌, map, filter, take, drop, Bool, true, false, Ordering, Less, Equal, refl, sym, ap, subst, ◌∙◌, codes, arith}
use Rattle.std.specs.Prelude.{nat_lt, ◌&&◌}
use Rattle.std.specs.Ordering.{ordering_then}
use Rattle.std.proofs.lemmas.List.{drop-map}
use Rattle.sqlite.specs.declared.types.Value.TheVariants.{Null, Int, Text}
use Rattle.sqlite.specs.Order.{Row, column}
use Rattle.sqlite.specs.Tree.{IsAscending, rowid}
use Rattle.sqlite.specs.Term.{Term, lit, col, op2}
use Rattle.sqlite.specs.Query.{IsAnswer, Output, output_cmp}
use Rattle.sqlite.specs.Program.{overlay}
use Rattle.sqlite.specs.Listing.{understood, reads_listing}
use Rattle.sqlite.specs.Command.TheVariants.{Select}
use Rattle.sqlite.specs.Collation.TheVariants.{Binary}
use Rattle.sqlite.specs.Effect.{Database}
use Rattle.sqlite.specs.State.{State, Shown}
use Rattle.sqlite.proofs.Callers.{IsPlain, command_of, reads_as}
use Rattle.sqlite_tied.specs.Compute.{everything}
use Rattle.sqlite_trees.proofs.ListLemmas.{ascending-filter, ascending-map, ascending_weaker}
use Rattle.sqlite_sql.specs.declared.ops.BinaryOp.TheVariants.{Compare}
use Rattle.sqlite_sql.specs.declared.ops.CompareOp.TheVariants.{Gt}
use Rattle.sqlite_value.proofs.OrderLemmas.{value_cmp-Int}
use Rattle.sqlite_rules.proofs.ListLemmas.{has_filtered, has_kept}
use Rattle.pid_moderation.specs.declared.facts.State.{State as Standings}
use Rattle.pid_moderation.specs.PendingPages.{standings_from}
use Rattle.pid_moderation.specs.Submissions.{Standing}
use Rattle.pid_moderation.specs.Views.{Views, Submitted}
use Rattle.pid_tables.specs.Searches.Steps.FilingRows.{filing_row}
use Rattle.pid_tables.specs.Rows.Steps.Queries.{IsQuery}
use Rattle.pid_tables.specs.Rows.Schema.{pid_schema}
use Rattle.pid_tables.specs.Rows.Shows.{Counts}
use Rattle.pid_tables.specs.Rows.Steps.Shows.{ShowsCounting}
use Rattle.pid_tables.specs.Rows.TableRows.{number, submission_row}
use Rattle.pid_tables.proofs.OfLists.FallingLemmas.{above}
use Rattle.pid_tables.proofs.OfLists.ItemLists.{kept_distinct, finer_distinct}
use Rattle.pid_tables.proofs.OfLists.OrderedLemmas.{StandsFor, listed}
use Rattle.pid_tables.proofs.OfLists.PendingLists.{by_number, higher, in_standing, less_number, stands_in}
use Rattle.pid_tables.proofs.OfLists.SubmissionLists.{standings_ascend}
use Rattle.pid_tables.proofs.OfRows.MapLemmas.{none_over}
use Rattle.pid_tables.proofs.OfRows.OneRowEach.{rowids_apart}
use Rattle.pid_tables.proofs.OfRows.QueryTexts.{IsOneAs, one_alone, in_order}
use Rattle.pid_tables.proofs.OfRows.Select.{passing, out}
use Rattle.pid_tables.proofs.OfRows.Statements.{program, listing, IsAlone, command_alone, plain_alone}
use Rattle.pid_tables.proofs.OfRows.TurnLemmas.{hits}

abbrev pub select_filings : List ℕ
select_filings = codes "SELECT path, author FROM submission WHERE num > ?1 ORDER BY num LIMIT 1000"

abbrev pub numbered_above : List Term
numbered_above = op2 (Compare Gt Binary) (col 1 0) (col 0 0) ∷ []

abbrev pub path_and_author : List Term
path_and_author = col 1 3 ∷ col 1 2 ∷ []

abbrev pub a_thousand : Term
a_thousand = lit (Int (pos 1000))

select_filings_alone : IsAlone pid_schema select_filings (Select (program (listing 6 numbered_above path_and_author by_number a_thousand)) (codes "path" ∷ codes "author" ∷ [])) 1
unfolding understood everything
select_filings_alone = refl

pub select_filings_is : command_of (understood pid_schema select_filings) ≡ Select (program (listing 6 numbered_above path_and_author by_number a_thousand)) (codes "path" ∷ codes "author" ∷ [])
select_filings_is = command_alone pid_schema select_filings _ 1 select_filings_alone

pub select_filings_plain : IsPlain (understood pid_schema select_filings)
select_filings_plain = plain_alone pid_schema select_filings _ 1 select_filings_alone

pub select_filings_unlisted : reads_listing pid_schema select_filings ≡ false
unfolding understood everything
select_filings_unlisted = refl

filings_one : (after : ℕ) → IsOneAs select_filings (number after ∷ []) (understood pid_schema select_filings)
filings_one after = one_alone select_filings (number after ∷ []) (understood pid_schema select_filings) _ select_filings_alone

pub filings_query : (after : ℕ) → IsQuery pid_schema select_filings (number after ∷ [])
filings_query after = in_order pid_schema select_filings (number after ∷ []) 6 numbered_above path_and_author (codes "path" ∷ codes "author" ∷ []) (filings_one after) by_number a_thousand select_filings_is select_filings_unlisted refl

-- ---- the test

and_true : (a : Bool) → (a && true) ≡ a
and_true true = refl
and_true false = refl

hits_above : (after : ℕ) (id : ℤ) (n : ℕ) (s : Standing) → hits numbered_above (number after ∷ []) (submission_row id n s) ≡ nat_lt after n
hits_above after id n s = (λ i. higher n after i && true) ∙ and_true (nat_lt after n)

abbrev pub filing_mark : ℕ × Standing → Output
filing_mark s = (number s.0 ∷ [], filing_row s.1.submitted)

-- the submissions behind standings
submits_of : (n : ℕ) (submits : List Submitted) (state : ℕ → Standings) → map (λ (e : ℕ × Standing). e.1.submitted) (standings_from n submits state) ≡ submits
submits_of n [] state = refl
submits_of n (s ∷ submits) state = ap (λ l. s ∷ l) (submits_of (n + 1) submits state)

module _ (db : Database) (c : Counts) (v : Views) (shows : ShowsCounting c db v) (after : ℕ) where
  abbrev params : Row
  params = number after ∷ []

  abbrev later : ℕ × Standing → Bool
  later e = nat_lt after e.0

  abbrev all : List (ℕ × Standing)
  all = standings_from 1 v.submits v.state

  abbrev cmp : Output → Output → Ordering
  cmp = output_cmp (listing 6 numbered_above path_and_author by_number a_thousand)

  first_less : (a b : ℕ × Standing) → a.0 < b.0 → cmp (filing_mark a) (filing_mark b) ≡ Less
  first_less a b low = ap (λ o. ordering_then o Equal) (value_cmp-Int (pos a.0) (pos b.0) ∙ less_number a.0 b.0 low)

  filings_rise : IsAscending (λ a b. cmp a b ≡ Less) (map filing_mark (filter later all))
  filings_rise = ascending-map (λ a b. cmp a b ≡ Less) filing_mark (filter later all)
      (ascending_weaker (λ (a b : ℕ × Standing). a.0 < b.0) (λ a b. cmp (filing_mark a) (filing_mark b) ≡ Less) first_less _
      (ascending-filter (λ (a b : ℕ × Standing). a.0 < b.0) later _ (standings_ascend 1 v.submits v.state)))

  filings_stand : StandsFor 6 numbered_above path_and_author by_number a_thousand params filing_mark (filter later all) (db.trees 6)
  filings_stand = record {
    each = λ r h.
        let kept = has_filtered (hits numbered_above params) (db.trees 6) r h in
        let pair = shows.submissions.sound r kept.0 in
        let is : later (pair.key, pair.value) ≡ true = sym (hits_above after pair.id pair.key pair.value) ∙ subst (λ x. hits numbered_above params x ≡ true) pair.is kept.1 in
        ((pair.key, pair.value), has_kept later _ (pair.key, pair.value) (stands_in v pair.key pair.value pair.maps) is, ap (out 6 numbered_above path_and_author by_number a_thousand params) pair.is);
    there = λ e h.
        let kept = has_filtered later all e h in
        let pair = shows.submissions.complete e.0 e.1 (in_standing v e kept.0) in
        (submission_row pair.0 e.0 e.1, has_kept (hits numbered_above params) (db.trees 6) (submission_row pair.0 e.0 e.1) pair.1 (hits_above after pair.0 e.0 e.1 ∙ kept.1), refl);
    apart = finer_distinct rowid (out 6 numbered_above path_and_author by_number a_thousand params) (passing numbered_above params (db.trees 6)) (λ x y same. ap (λ (o : Output). column o.0 0) same)
        (kept_distinct rowid (hits numbered_above params) (db.trees 6) (rowids_apart (db.trees 6) shows.submissions.ordered));
    rises = filings_rise;
  }

  pub filings_found : (old new : State) → old.now ≡ db → (answer : List Row) → Shown select_filings (number after ∷ []) old new answer → answer ≡ map filing_row (take 1000 (drop after v.submits))
  filings_found old new is answer h =
      let got = reads_as select_filings params old new pid_schema (ap (λ (d : Database). d.schema) is ∙ shows.schema) _ select_filings_is select_filings_plain select_filings_unlisted answer h in
      listed 6 numbered_above path_and_author by_number a_thousand params filing_mark (filter later all) (overlay db.trees []) (db.trees 6) answer (none_over db.trees 6) filings_stand
      (subst (λ (d : Database). IsAnswer (listing 6 numbered_above path_and_author by_number a_thousand) (overlay d.trees []) params answer) is (got.answer Null))
      ∙ first_of 1000 (filter later all)
      ∙ ap (λ l. map filing_row (take 1000 l)) left
    where
      first_of : (k : ℕ) (xs : List (ℕ × Standing)) → take k (map (λ (e : ℕ × Standing). (filing_mark e).1) xs) ≡ map filing_row (take k (map (λ (e : ℕ × Standing). e.1.submitted) xs))
      first_of zero xs = refl
      first_of (suc k) [] = refl
      first_of (suc k) (x ∷ xs) = ap (λ l. filing_row x.1.submitted ∷ l) (first_of k xs)

      left : map (λ (e : ℕ × Standing). e.1.submitted) (filter later all) ≡ drop after v.submits
      left =
          ap (map (λ (e : ℕ × Standing). e.1.submitted)) (above v.state 1 after after v.submits (omega arith))
          ∙ sym (drop-map (λ (e : ℕ × Standing). e.1.submitted) after all) ∙ ap (drop after) (submits_of 1 v.submits v.state)

pub same_text : (s t : List ℕ) → Text s ≡ Text t → s ≡ t
same_text s t e = cc
