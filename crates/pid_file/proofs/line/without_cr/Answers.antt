use Rattle.std.proofs.Common.{arith, sym, rules}
use Rattle.pid_file.proofs.LineLemmas.{drop_cr-cr, drop_cr-other}
use Rattle.pid_file.proofs.line.without_cr.Goals as goal

pub returns-in-13 : goal.returns-in-13
returns-in-13 c = sym (drop_cr-cr _ (omega arith) (search rules))

pub returns-in_default-2 : goal.returns-in_default-2
returns-in_default-2 c = sym (drop_cr-other _ (λ e. search rules))
