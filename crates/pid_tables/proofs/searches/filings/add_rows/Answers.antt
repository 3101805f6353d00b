use Rattle.std.proofs.Common.{◌≡◌, ◌∷◌, ◌+◌, ◌<◌, ◌++◌, [], ap, sym, subst, ◌∙◌, take_all, length, map, take, arith, rules}
use Rattle.std.proofs.lemmas.List.{append-nil, append_assoc, length-append, length-map, map-append}
use Rattle.pid_tables.proofs.OfLists.RowLists.{next_of}
use Rattle.pid_tables.specs.Searches.Filings.{filed_as}
use Rattle.pid_tables.specs.Searches.Steps.FilingRows.{filing_row}
use Rattle.pid_tables.specs.Searches.KeptNumbers.{AreKeptFor}
use Rattle.pid_tables.proofs.OfSearches.NumberLists.{taken_count}
use Rattle.pid_tables.proofs.searches.filings.add_rows.Goals as goal

pub loop-row-init : goal.loop-row-init
loop-row-init c = (omega arith, λ all filings is are count. subst (λ l. AreKeptFor c.args.kept.now l) (sym (append-nil filings)) are)

pub loop-row-preserved : goal.loop-row-preserved
loop-row-preserved c =
    let now : c.in-Some.next ≡ c.loop-row.number + 1 = search rules in
    let on = c.if-not-add_row.false in
    let was = c.loop-row.invariant.0 in (
      omega (arith, now, was),
      λ all filings is are count.
          let next = next_of filing_row all c.args.rows.now c.loop-row.row-index c.row-item.result is c.loop-row-test.true in
          let so_far = filings ++ map filed_as (take c.loop-row.row-index all) in
          let low : c.loop-row.row-index < length all = let test = c.loop-row-test.true in let long = ap length is ∙ length-map all filing_row in omega (arith, test, long) in
          let many : length so_far ≡ length filings + c.loop-row.row-index = length-append filings (map filed_as (take c.loop-row.row-index all)) ∙ ap (λ n. length filings + n) (taken_count c.loop-row.row-index all low) in
          let number : c.in-Some.next ≡ length so_far + 1 = omega (arith, now, was, many, count) in
          subst (λ l. AreKeptFor c.add_row.new.kept l)
          (append_assoc filings (map filed_as (take c.loop-row.row-index all)) (filed_as next.it ∷ []) ∙ ap (λ l. filings ++ l) (sym (ap (map filed_as) next.more ∙ map-append filed_as _ (next.it ∷ []))))
          (c.add_row.ensures next.it so_far (c.row-item.is ∙ next.is) (c.loop-row.invariant.1 all filings is are count) number on),
    )

pub returns : goal.returns
returns c all filings is are count added =
    subst (λ l. AreKeptFor c.loop-row.kept (filings ++ map filed_as l)) (take_all c.loop-row.row-index all (let done = c.loop-row-test.false in let long = ap length is ∙ length-map all filing_row in omega (arith, done, long)))
    (c.loop-row.invariant.1 all filings is are count)
