use Rattle.std.proofs.Common.{◌≡◌, ◌++◌, map, take}
use Rattle.pid_file.specs.PathTexts.{path_text}
use Rattle.pid_service.proofs.Words.{changed_of, on_side}
use Rattle.pid_service.proofs.changes.add_side.Given as goal

abbrev pub invariant-loop-item : goal.invariant-loop-item
invariant-loop-item l = map changed_of l.page.items ≡ map changed_of l.initial.page.items ++ on_side l.before (path_text l.path) (map changed_of (take l.item-index l.items))
