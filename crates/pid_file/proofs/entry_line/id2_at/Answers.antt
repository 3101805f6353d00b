use Rattle.pid_file.specs.Identifiers.{hex2}
use Rattle.pid_file.proofs.LineLemmas.{no_digits_no_id, no_blank_no_id, id_is}
use Rattle.pid_file.proofs.entry_line.id2_at.Goals as goal

pub returns-in_err-number : goal.returns-in_err-number
returns-in_err-number c = rw c.from_residual.ensures (no_digits_no_id 2 c.args.bytes.now c.in_err-number.ensures)

pub returns-in_err-behind : goal.returns-in_err-behind
returns-in_err-behind c = rw c.from_residual-in_err-behind.ensures (no_blank_no_id 2 256 hex2 c.args.bytes.now c.in_ok-number.behind.now c.in_ok-number.number c.in_ok-number.ensures c.in_err-behind.ensures)

pub returns : goal.returns
returns c = id_is 2 256 hex2 c.args.bytes.now c.in_ok-number.behind.now c.in_ok-behind.behind.now c.in_ok-number.number c.in_ok-number.ensures c.in_ok-behind.ensures.0 c.in_ok-behind.ensures.1
