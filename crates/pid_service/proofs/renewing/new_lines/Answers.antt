use Rattle.pid_file.specs.Steps.Printing.{text_or_none}
use Rattle.pid_service.proofs.Renewed.{lines_given}
use Rattle.pid_service.proofs.renewing.new_lines.Goals as goal

pub returns-then-add_lines : goal.returns-then-add_lines
returns-then-add_lines c = lines_given _ (text_or_none c.args.before) c.args.write.now c.in-Add.name c.as_str.result.now c.in-Add.is c.as_str.ensures.text (c.add_lines.ensures c.if-add_lines.true _ _ c.new-text.ensures)
