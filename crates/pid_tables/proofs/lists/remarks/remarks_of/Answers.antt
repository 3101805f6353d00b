use Rattle.std.proofs.Common.{◌∷◌, ◌++◌, [], ap, sym, ◌∙◌, take_all, length, arith}
use Rattle.std.proofs.lemmas.List.{length-map}
use Rattle.std.specs.List.{AllByRecursion}
use Rattle.sqlite_rules.proofs.ListLemmas.{all_has}
use Rattle.pid_tables.specs.Lists.Steps.RemarkRows.{IsReadablePlaced, placed_row}
use Rattle.pid_tables.specs.Rows.Steps.Unread.{IsDamagedRow}
use Rattle.pid_tables.proofs.OfRows.CauseLemmas.{passed_on}
use Rattle.pid_tables.proofs.OfRows.UnreadLemmas.{unread_more}
use Rattle.pid_tables.proofs.OfLists.RowLists.{next_of}
use Rattle.pid_tables.proofs.lists.remarks.remarks_of.Goals as goal

pub loop-row-preserved : goal.loop-row-preserved
loop-row-preserved c all is =
    let next = next_of placed_row all c.args.rows.now c.loop-row.row-index c.row-item.result is c.loop-row-test.true in
    c.in_ok-add_remark.ensures next.it (c.row-item.is ∙ next.is) ∙ ap (λ l. l ++ next.it ∷ []) (c.loop-row.invariant all is) ∙ sym next.more

pub returns-in_err-add_remark : goal.returns-in_err-add_remark
returns-in_err-add_remark c all is =
    let next = next_of placed_row all c.args.rows.now c.loop-row.row-index c.row-item.result is c.loop-row-test.true in
    passed_on c.from_residual.result _ _ (IsDamagedRow (AllByRecursion IsReadablePlaced all)) c.from_residual.ensures.1
    (unread_more c.in_err-add_remark.field-0.0 (λ good. all_has IsReadablePlaced all next.it good next.there) (c.in_err-add_remark.ensures next.it (c.row-item.is ∙ next.is)))

pub returns : goal.returns
returns c all is =
    c.loop-row.invariant all is
    ∙ take_all c.loop-row.row-index all (let done = c.loop-row-test.false in let long = ap length is ∙ length-map all placed_row in omega (arith, done, long))
