use Rattle.std.proofs.Common.{◌≡◌, true, arith, sym}
use Rattle.std.specs.Char.{is_digit}
use Rattle.std.specs.List.{list_all}
use Rattle.pid_form.proofs.Numerals.{reads_numeral, never_refused}
use Rattle.pid_form.proofs.numbers.numeral.Goals as goal

pub returns-in-Ok-clause-bound : goal.returns-in-Ok-clause-bound
returns-in-Ok-clause-bound c =
    let tested : list_all (λ b. is_digit b c.args.radix) c.args.text.now ≡ true = rw (← c.as_bytes.ensures.value) (sym c.if-not-are_digits.ensures) in
    (reads_numeral c.args.radix c.args.most c.args.text.now c.in-Ok.number c.requires.base.0 c.requires.base.1 c.requires.fits (omega arith) (omega arith) tested c.in-Ok.ensures.value.1).1

pub returns-in-Err-clause-value : goal.returns-in-Err-clause-value
returns-in-Err-clause-value c =
    let tested : list_all (λ b. is_digit b c.args.radix) c.args.text.now ≡ true = rw (← c.as_bytes.ensures.value) (sym c.if-not-are_digits.ensures) in
    absurd (never_refused c.args.radix c.args.most c.args.text.now c.in-Err.field-0 c.requires.base.0 c.requires.base.1 c.requires.fits (omega arith) (omega arith) tested c.in-Err.ensures.value)
