use Rattle.std.proofs.Common.{◌<◌, arith, length}
use Rattle.pid_moderation.specs.declared.lists.TheConstants.{PAGE}
use Rattle.pid_service.proofs.ChangedLists.{copy_few, page_whole}
use Rattle.pid_service.proofs.changes.whole_page.Goals as goal

pub returns : goal.returns
returns c v told =
    let few : length c.args.page.now < PAGE = omega (arith, c.if-page-ge-PAGE.false) in
    record {
      items = page_whole c.args.since c.args.page.now c.in_ok-items.items.items v told few c.in_ok-items.ensures;
      few = copy_few c.args.since c.args.page.now c.in_ok-items.items.items few c.in_ok-items.ensures;
    }
