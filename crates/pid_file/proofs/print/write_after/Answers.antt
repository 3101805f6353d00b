use Rattle.std.proofs.Common.{◌++◌, sym}
use Rattle.std.specs.Prelude.{codes}
use Rattle.std.proofs.lemmas.Result.{err_from_is_err_and}
use Rattle.pid_file.specs.Identifiers.{hex4}
use Rattle.pid_file.specs.PathTexts.{path_text}
use Rattle.pid_file.specs.Steps.Printing.{text_or_none}
use Rattle.pid_file.proofs.Written.{block_and_item, block_stopped, item_alone}
use Rattle.pid_file.proofs.print.write_after.Goals as goal
use Rattle.pid_file.proofs.print.write_after.Goals.{in-Some+in_ok-write_block, in_default}

pub returns-in_err-write_block : goal.returns-in_err-write_block
returns-in_err-write_block g c =
    let p = err_from_is_err_and c.from_residual.result c.from_residual.ensures.1 in
    record {
      sent = rw p.1 (block_stopped _ _ (text_or_none c.args.before) (path_text c.args.path.now, c.args.name.now) (codes "S " ++ hex4 c.in-Some.vendor) (sym c.in-Some.ensures.opens) c.in-Some.ensures.vendor c.in_err-write_block.ensures.sent);
      fault = rw (p.1, p.2) c.in_err-write_block.ensures.fault;
    }

pub returns : goal.returns
returns g c = record {
  sent = elim c.match-opened_block.branch [
    | in-Some+in_ok-write_block w ↦ block_and_item c.write_item.result _ _ _ (text_or_none c.args.before) (path_text c.args.path.now, c.args.name.now) (codes "S " ++ hex4 w.in-Some.vendor) (sym w.in-Some.ensures.opens) w.in-Some.ensures.vendor w.in_ok-write_block.ensures.sent (rw (← w.out-is) c.write_item.ensures.sent)
    | in_default w ↦ item_alone c.write_item.result _ _ (text_or_none c.args.before) (path_text c.args.path.now, c.args.name.now) (sym w.in_default.ensures.opens) (rw (← w.out-is) c.write_item.ensures.sent)
  ];
  fault = c.write_item.ensures.fault;
}
