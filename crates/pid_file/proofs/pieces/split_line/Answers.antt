use Rattle.std.proofs.Common.{◌∙◌, sym, ap, arith, length}
use Rattle.std.proofs.lemmas.Bool.Decides.{nat_tests}
use Rattle.pid_file.specs.WholeLines.{ended_pieces}
use Rattle.pid_file.proofs.Cuts.{no_lf, nowhere_lf, parts_after, take_whole}
use Rattle.pid_file.proofs.pieces.split_line.Goals as goal

pub returns-in_err-end-clause-parts : goal.returns-in_err-end-clause-parts
returns-in_err-end-clause-parts c =
    let all = c.args.text.now in
    rw c.from_residual.ensures (ap ended_pieces (sym (take_whole all (length all) (omega arith))) ∙ no_lf all (length all) (omega arith) (nowhere_lf all (length all) c.in_err-end.ensures))

pub returns-clause-parts : goal.returns-clause-parts
returns-clause-parts c =
    let found = c.in_ok-end.ensures in
    (parts_after c.args.text.now c.in_ok-end.end found.0.high (grind (arith, nat_tests)), no_lf c.args.text.now c.in_ok-end.end (omega arith) (nowhere_lf c.args.text.now c.in_ok-end.end found.0.before))
