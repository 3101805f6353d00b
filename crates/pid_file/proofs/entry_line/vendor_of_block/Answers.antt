use Rattle.std.proofs.Common.{◌∙◌, sym, ap}
use Rattle.pid_file.specs.Bytes.{is_empty}
use Rattle.pid_file.proofs.LineLemmas.{no_digits_no_block, more_no_block, block_is}
use Rattle.pid_file.proofs.entry_line.vendor_of_block.Goals as goal

pub returns-in_err-vendor : goal.returns-in_err-vendor
returns-in_err-vendor c = rw c.from_residual.ensures (no_digits_no_block c.args.bytes.now c.in_err-vendor.ensures)

pub returns-then-not-is_empty : goal.returns-then-not-is_empty
returns-then-not-is_empty c = more_no_block c.args.bytes.now c.in_ok-vendor.behind.now c.in_ok-vendor.vendor c.in_ok-vendor.ensures (ap is_empty (sym c.trim_blanks.ensures) ∙ sym c.if-not-is_empty.ensures)

pub returns : goal.returns
returns c = block_is c.args.bytes.now c.in_ok-vendor.behind.now c.in_ok-vendor.vendor c.in_ok-vendor.ensures (ap is_empty (sym c.trim_blanks.ensures) ∙ sym c.if-not-is_empty.ensures)
