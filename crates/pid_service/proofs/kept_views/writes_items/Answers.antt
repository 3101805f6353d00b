use Rattle.std.proofs.Common.{sym, ◌∙◌}
use Rattle.pid_service.proofs.ChangedLists.{undecided_numbers}
use Rattle.pid_service.proofs.kept_views.writes_items.Goals as goal

pub returns-in-Decided-clause-numbers : goal.returns-in-Decided-clause-numbers
returns-in-Decided-clause-numbers c n v off = undecided_numbers c.args.effect.now _ _ _ c.in-Decided.is (sym c.is_some.ensures ∙ off) n v
