use Rattle.std.proofs.Common.{◌≤◌, [], arith, ap, filter, ◌∙◌}
use Rattle.pid_service.proofs.ChangedLists.{later_among}
use Rattle.pid_service.specs.Steps.KeptChanges.{comes_after}
use Rattle.pid_service.proofs.changes.without_first.Goals as goal

pub returns : goal.returns
returns c v told =
    let least = c.least_number-least.result in
    let less : c.args.since ≤ least = omega (arith, c.if-least-since.false) in
    record {
      items = c.in_ok-items.ensures ∙ ap (filter (comes_after least [])) told ∙ later_among c.args.since least [] v v.items less;
      few = omega (arith, c.if-len-ge-PAGE.false);
    }
