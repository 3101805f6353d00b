use Rattle.std.proofs.Common.{ℕ, ◌<◌, ◌^◌, ◌∷◌, ◌++◌, [], List, ap, arith, length, map, refl, sym, take, ◌∙◌, take_all}
use Rattle.std.proofs.lemmas.List.{length-map, map-append}
use Rattle.std.proofs.lemmas.List.Elements.{filter_map-append}
use Rattle.sqlite.specs.Order.{Row}
use Rattle.sqlite_rules.proofs.ListLemmas.{all_has}
use Rattle.pid_moderation.specs.SubmissionPages.{listed_of, Listing, listing_in}
use Rattle.pid_moderation.specs.Views.{Views}
use Rattle.pid_tables.specs.Rows.Causes.{IsCaused, IsReadable}
use Rattle.pid_tables.specs.Rows.Steps.Answers.{value_row}
use Rattle.pid_tables.proofs.OfRows.CauseLemmas.{caused_later, passed_on}
use Rattle.pid_tables.proofs.OfCheck.Asking.{nothing_read}
use Rattle.pid_tables.proofs.OfRows.OnlyReading.{reads_then}
use Rattle.pid_tables.specs.Lists.ByNumber.{standing_at, standings_at}
use Rattle.pid_tables.specs.Lists.Steps.SubmissionRows.{AreListedIn, IsListedIn}
use Rattle.pid_tables.proofs.OfLists.RowLists.{IsNext, next_of}
use Rattle.pid_tables.proofs.lists.submissions.listed_at.Goals as goal

-- what the next row has
listed_next : (v : Views) (listed : List Listing) (rows : List Row) (are : AreListedIn v listed rows) (row : Row) (i : ℕ) (next : IsNext value_row are.numbers row i) → IsListedIn v (map (listing_in v) (standings_at (next.it ∷ []) v)) row
listed_next v listed rows are row i next = record { number = next.it; shown = next.is; fits = λ readable. all_has (λ (n : ℕ). n < 2 ^ 32) are.numbers next.it (are.fit readable) next.there; is = refl }

pub loop-row-preserved : goal.loop-row-preserved
loop-row-preserved g c =
    let one = c.in_ok-add_listed.ensures in
    let before = c.loop-row.invariant in (
      reads_then _ _ _ before.0 one.rests,
      λ clean v listed rest are.
          let next = next_of value_row are.numbers c.args.rows.now c.loop-row.row-index c.row-item.result are.shown c.loop-row-test.true in
          let row = listed_next v listed c.args.rows.now are _ c.loop-row.row-index next in
          one.told clean v (map (listing_in v) (standings_at (next.it ∷ []) v)) (before.0.kept v rest) (record { number = row.number; shown = c.row-item.is ∙ row.shown; fits = row.fits; is = row.is })
          ∙ ap (λ l. l ++ map (listing_in v) (standings_at (next.it ∷ []) v)) (before.1 (one.rests.clean clean) v listed rest are)
          ∙ sym (map-append (listing_in v) (standings_at (take c.loop-row.row-index are.numbers) v) (standings_at (next.it ∷ []) v))
          ∙ ap (map (listing_in v)) (sym (filter_map-append (standing_at v) (take c.loop-row.row-index are.numbers) (next.it ∷ [])) ∙ ap (λ l. standings_at l v) (sym next.more)),
    )

pub returns : goal.returns
returns g c = record {
  rests = c.loop-row.invariant.0;
  told = λ clean v listed rest are.
      c.loop-row.invariant.1 clean v listed rest are
      ∙ ap (λ l. map (listing_in v) (standings_at l v)) (take_all c.loop-row.row-index are.numbers (let done = c.loop-row-test.false in let long = ap length are.shown ∙ length-map are.numbers value_row in omega (arith, done, long))) ∙ sym are.are;
}

pub returns-in_err-add_listed : goal.returns-in_err-add_listed
returns-in_err-add_listed g c = record {
  rests = reads_then _ _ _ c.loop-row.invariant.0 c.in_err-add_listed.ensures.rests;
  told = λ clean v listed rest are.
      let one = c.in_err-add_listed.ensures in
      let before = c.loop-row.invariant in
      let old = g.C.Database.state c.args.tables.now.conn in
      let mid = g.C.Database.state c.loop-row.tables.conn in
      let new = g.C.Database.state c.add_listed.new.tables.conn in
      let next = next_of value_row are.numbers c.args.rows.now c.loop-row.row-index c.row-item.result are.shown c.loop-row-test.true in
      let row = listed_next v listed c.args.rows.now are _ c.loop-row.row-index next in
      passed_on c.from_residual.result _ _ (λ fault. IsReadable v → IsCaused old new fault) c.from_residual.ensures.1
      (λ readable. caused_later old mid new (λ _. ⊥) c.in_err-add_listed.field-0.0 before.0.survives one.rests.survives.counts (one.rests.clean clean)
      (one.told clean v (map (listing_in v) (standings_at (next.it ∷ []) v)) (before.0.kept v rest) (record { number = row.number; shown = c.row-item.is ∙ row.shown; fits = row.fits; is = row.is }) readable));
}

pub loop-row-init : goal.loop-row-init
loop-row-init g c = (nothing_read (g.C.Database.state c.args.tables.now.conn) c.args.tables.now.settled, λ clean v listed rest are. ap (map listed_of) c.new-page.ensures.items)
