use Rattle.std.proofs.Common.{ℕ, ◌≡◌, ◌∷◌, ◌++◌, [], Some, ap, sym, ◌∙◌, take_all, length, arith}
use Rattle.std.proofs.lemmas.List.{length-map}
use Rattle.std.specs.List.{AllByRecursion}
use Rattle.sqlite_rules.proofs.ListLemmas.{all_has}
use Rattle.pid_tables.specs.Rows.Steps.Unread.{IsDamagedRow}
use Rattle.pid_tables.proofs.OfRows.CauseLemmas.{passed_on}
use Rattle.pid_tables.proofs.OfRows.UnreadLemmas.{unread_more}
use Rattle.pid_moderation.specs.Submissions.{standing_in, Standing}
use Rattle.pid_tables.specs.Lists.Steps.PendingRows.{pending_row, IsReadablePending}
use Rattle.pid_tables.proofs.OfLists.RowLists.{next_of}
use Rattle.pid_tables.proofs.lists.pending.page_of.Goals as goal

pub loop-row-preserved : goal.loop-row-preserved
loop-row-preserved c v all (views, are, is) =
    let next = next_of pending_row all c.args.rows.now c.loop-row.row-index c.row-item.result is c.loop-row-test.true in
    let stands = all_has (λ (s : ℕ × Standing). standing_in v s.0 ≡ Some s.1) all next.it are next.there in
    c.in_ok-add_pending.ensures v next.it (views, (stands, tt), c.row-item.is ∙ next.is) ∙ ap (λ l. l ++ next.it ∷ []) (c.loop-row.invariant v all (views, are, is)) ∙ sym next.more

pub returns-in_err-add_pending : goal.returns-in_err-add_pending
returns-in_err-add_pending c v all (views, are, is) =
    let next = next_of pending_row all c.args.rows.now c.loop-row.row-index c.row-item.result is c.loop-row-test.true in
    let stands = all_has (λ (s : ℕ × Standing). standing_in v s.0 ≡ Some s.1) all next.it are next.there in
    passed_on c.from_residual.result _ _ (IsDamagedRow (AllByRecursion IsReadablePending all)) c.from_residual.ensures.1
    (unread_more c.in_err-add_pending.field-0.0 (λ good. all_has IsReadablePending all next.it good next.there) (c.in_err-add_pending.ensures v next.it (views, (stands, tt), c.row-item.is ∙ next.is)))

pub returns : goal.returns
returns c v all (views, are, is) =
    c.loop-row.invariant v all (views, are, is)
    ∙ take_all c.loop-row.row-index all (let done = c.loop-row-test.false in let long = ap length is ∙ length-map all pending_row in omega (arith, done, long))
