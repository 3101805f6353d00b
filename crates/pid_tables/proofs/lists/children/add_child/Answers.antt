use Rattle.std.proofs.Common.{◌++◌, ◌∙◌, ap, append-nil, map, sym}
use Rattle.sqlite.specs.Order.{column}
use Rattle.pid_moderation.specs.ItemPairs.{pair_of}
use Rattle.pid_moderation.specs.WellMade.{IsItem}
use Rattle.pid_tables.specs.Rows.Steps.Unread.{IsDamagedRow}
use Rattle.pid_tables.proofs.OfRows.CauseLemmas.{passed_on}
use Rattle.pid_tables.proofs.OfRows.UnreadLemmas.{unread_more}
use Rattle.pid_tables.proofs.OfLists.BelowLemmas.{child_kept, child_passed, kept_child}
use Rattle.pid_tables.proofs.lists.children.add_child.Goals as goal

pub returns-in_err-item : goal.returns-in_err-item
returns-in_err-item c e is =
    passed_on c.from_residual.result _ _ (IsDamagedRow (IsItem e.0 e.1)) c.from_residual.ensures.1
    (unread_more c.in_err-item.field-0.0 (λ good. (e.0, e.1, good, ap (λ r. column r 0) is, ap (λ r. column r 1) is)) c.in_err-item.ensures.unread)

pub returns-then-is_child : goal.returns-then-is_child
returns-then-is_child c e is =
    let read = c.in_ok-item.ensures in
    let more = child_kept c.args.path e c.args.row.now is c.in_ok-item.item read.path read.name c.is_child.result c.is_child.ensures c.if-is_child.true in
    kept_child (IsItem e.0 e.1) c.args.kept.now.items c.push_last.new.list.items c.in_ok-item.item _ c.push_last.result c.push_last.ensures.items c.push_last.ensures.full more

pub returns-else-is_child : goal.returns-else-is_child
returns-else-is_child c e is =
    let read = c.in_ok-item.ensures in
    let was = map pair_of c.args.kept.now.items in
    sym (ap (λ l. was ++ l) (child_passed c.args.path e c.args.row.now is c.in_ok-item.item read.path read.name c.is_child.result c.is_child.ensures c.if-is_child.false) ∙ append-nil was)
