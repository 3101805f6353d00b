use Rattle.std.proofs.Common.{sym, ◌∙◌}
use Rattle.pid_file.proofs.WholeLemmas.{same_item}
use Rattle.pid_file.proofs.whole.is_kept.Goals as goal

pub returns-in-Some : goal.returns-in-Some
returns-in-Some c es held same = same_item es c.args.path c.in-Some.kept (sym c.eq.ensures ∙ same) (rw c.in-Some.is at held)
