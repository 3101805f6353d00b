use Rattle.std.proofs.Common.{◌≡◌, Option, map, subst}
use Rattle.std.specs.Prelude.{option_map}
use Rattle.pid_file.specs.PathTexts.{path_text}
use Rattle.pid_service.proofs.Words.{children_of, pair_of, Path}
use Rattle.pid_service.proofs.TopItems.{copied_holds}
use Rattle.pid_service.proofs.kept_views.KeptViews.keep_top.Goals as goal

pub returns-then-is_none : goal.returns-then-is_none
returns-then-is_none c v right told = record {
  names = right.names;
  text = right.text;
  top = copied_holds c.args.items.now c.copied.result v (subst (λ (a : Option Path). map pair_of c.args.items.now ≡ children_of (option_map path_text a) v.items) c.in-None.is told) c.copied.ensures;
  changes = right.changes;
  pending = right.pending;
  numbers = right.numbers;
  accounts = right.accounts;
}

pub returns-else-is_none : goal.returns-else-is_none
returns-else-is_none c v right told = right

pub returns-in-Some : goal.returns-in-Some
returns-in-Some c v right told = right
