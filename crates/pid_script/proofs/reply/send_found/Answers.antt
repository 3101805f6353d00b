use Rattle.pid_script.proofs.Asked.{answer_goes}
use Rattle.pid_script.proofs.reply.send_found.Goals as goal

pub returns-in-Ok-Text-clause-goes_on : goal.returns-in-Ok-Text-clause-goes_on
returns-in-Ok-Text-clause-goes_on g c = answer_goes c.say_line.result c.args.found.now c.in-Ok-Text.field-0 _ _ _ c.in-Ok-Text.is c.say_line.ensures

pub returns-in-Ok-NoAnswer-clause-goes_on : goal.returns-in-Ok-NoAnswer-clause-goes_on
returns-in-Ok-NoAnswer-clause-goes_on g c = answer_goes c.say.result c.args.found.now c.in-Ok-NoAnswer.field-0 _ _ _ c.in-Ok-NoAnswer.is c.say.ensures
