use Rattle.std.proofs.Common.{◌++◌, List, ap, arith, map, sym, ◌∙◌}
use Rattle.std.proofs.lemmas.List.{take_all}
use Rattle.pid_file.specs.PathTexts.{path_text}
use Rattle.pid_service.proofs.Words.{changed_of, ChangedItem, is_on, on_side}
use Rattle.pid_service.proofs.RenewedChanges.{one_sided}
use Rattle.pid_service.proofs.changes.add_side.Goals as goal

pub loop-item-preserved : goal.loop-item-preserved
loop-item-preserved c =
    one_sided (λ o. is_on c.args.before (path_text c.args.path) o.path) c.args.items.now c.loop-item.item-index c.item-item.result c.args.page.now.items c.loop-item.page.items c.add_on.new.page.items (omega (arith, c.loop-item-test.true)) (sym c.item-item.is)
    c.loop-item.invariant (c.add_on.ensures c.if-not-add_on.false)

pub returns : goal.returns
returns c on =
    c.loop-item.invariant ∙ ap (λ (l : List ChangedItem). map changed_of c.args.page.now.items ++ on_side c.args.before (path_text c.args.path) (map changed_of l)) (take_all c.loop-item.item-index c.args.items.now (omega (arith, c.loop-item-test.false)))
