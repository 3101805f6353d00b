use Rattle.std.proofs.Common.{◌∷◌, ◌++◌, [], ap, sym, ◌∙◌, take_all, length, arith}
use Rattle.std.proofs.lemmas.List.{length-map}
use Rattle.std.specs.List.{AllByRecursion}
use Rattle.sqlite_rules.proofs.ListLemmas.{all_has}
use Rattle.pid_tables.specs.Rows.Steps.Answers.{remark_shown}
use Rattle.pid_tables.specs.Rows.Causes.{IsReadableRemark}
use Rattle.pid_tables.specs.Rows.Steps.Unread.{IsDamagedRow}
use Rattle.pid_tables.proofs.OfRows.CauseLemmas.{passed_on}
use Rattle.pid_tables.proofs.OfRows.UnreadLemmas.{unread_more}
use Rattle.pid_tables.proofs.OfLists.RowLists.{next_of}
use Rattle.pid_tables.proofs.lists.submission.comments_of.Goals as goal

pub loop-row-preserved : goal.loop-row-preserved
loop-row-preserved c remarks is =
    let next = next_of remark_shown remarks c.args.rows.now c.loop-row.row-index c.row-item.result is c.loop-row-test.true in
    c.in_ok-add_comment.ensures next.it (c.row-item.is ∙ next.is) ∙ ap (λ l. l ++ next.it ∷ []) (c.loop-row.invariant remarks is) ∙ sym next.more

pub returns-in_err-add_comment : goal.returns-in_err-add_comment
returns-in_err-add_comment c remarks is =
    let next = next_of remark_shown remarks c.args.rows.now c.loop-row.row-index c.row-item.result is c.loop-row-test.true in
    passed_on c.from_residual.result _ _ (IsDamagedRow (AllByRecursion IsReadableRemark remarks)) c.from_residual.ensures.1
    (unread_more c.in_err-add_comment.field-0.0 (λ all. all_has IsReadableRemark remarks next.it all next.there) (c.in_err-add_comment.ensures next.it (c.row-item.is ∙ next.is)))

pub returns : goal.returns
returns c remarks is =
    c.loop-row.invariant remarks is
    ∙ take_all c.loop-row.row-index remarks (let done = c.loop-row-test.false in let long = ap length is ∙ length-map remarks remark_shown in omega (arith, done, long))
