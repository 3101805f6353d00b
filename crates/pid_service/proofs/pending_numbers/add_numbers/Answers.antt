use Rattle.std.proofs.Common.{◌++◌, append-nil, ap, arith, map, sym, ◌∙◌}
use Rattle.std.proofs.lemmas.Bool.{false≢true}
use Rattle.std.proofs.lemmas.List.{take_all}
use Rattle.pid_service.specs.Steps.PendingNumbers.{its_number}
use Rattle.pid_service.proofs.PendingNumbers.{one_added}
use Rattle.pid_service.proofs.pending_numbers.add_numbers.Goals as goal

pub loop-pending-preserved : goal.loop-pending-preserved
loop-pending-preserved c =
    one_added c.args.numbers.now.items c.args.page.now c.loop-pending.pending-index c.pending-item.result c.loop-pending.numbers.items c.add_number.new.numbers.items (omega (arith, c.loop-pending-test.true)) (sym c.pending-item.is)
    c.loop-pending.invariant (c.add_number.ensures c.if-not-add_number.false)

pub loop-pending-init : goal.loop-pending-init
loop-pending-init c = sym (append-nil c.args.numbers.now.items)

pub returns-then-not-add_number : goal.returns-then-not-add_number
returns-then-not-add_number c is = absurd (false≢true is)

pub returns : goal.returns
returns c is = c.loop-pending.invariant ∙ ap (λ l. c.args.numbers.now.items ++ map its_number l) (take_all c.loop-pending.pending-index c.args.page.now (omega (arith, c.loop-pending-test.false)))
