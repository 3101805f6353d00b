use Rattle.std.proofs.Common.{◌≡◌, ◌++◌, Some, map, filter, take}
use Rattle.pid_ident.specs.PathTexts.{path_text}
use Rattle.pid_moderation.specs.Items.{Items}
use Rattle.pid_tables.specs.Rows.Steps.Answers.{item_shown}
use Rattle.pid_moderation.specs.ItemPairs.{pair_of}
use Rattle.pid_moderation.specs.Children.{stands_below}
use Rattle.pid_tables.proofs.lists.children.add_children.Given as goal

abbrev pub invariant-loop-row : goal.invariant-loop-row
invariant-loop-row l = (items : Items) → l.rows ≡ map item_shown items → map pair_of l.kept.items ≡ map pair_of l.initial.kept.items ++ filter (λ e. stands_below (Some (path_text l.path)) e.0) (take l.row-index items)
