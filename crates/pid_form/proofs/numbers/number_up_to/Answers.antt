use Rattle.std.proofs.Common.{sym, ◌∙◌, ◌^◌, arith}
use Rattle.pid_form.proofs.PlainNumbers.{number_missing}
use Rattle.pid_form.proofs.numbers.number_up_to.Goals as goal

pub returns-in-Err-clause-number : goal.returns-in-Err-clause-number
returns-in-Err-clause-number c = number_missing c.args.most_digits c.args.most (2 ^ 64) c.args.text.now (omega arith) (sym c.is_plain_number.ensures ∙ c.if-not-is_plain_number.false) c.in-Err.ensures.value.0
