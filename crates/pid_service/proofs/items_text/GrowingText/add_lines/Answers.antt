use Rattle.std.proofs.Common.{sym, ◌∙◌}
use Rattle.std.proofs.lemmas.Bool.{false≢true}
use Rattle.pid_service.proofs.items_text.GrowingText.add_lines.Goals as goal

pub returns-else-is_ok : goal.returns-else-is_ok
returns-else-is_ok c is = absurd (false≢true (sym c.if-is_ok.false ∙ is))

pub returns-in-None : goal.returns-in-None
returns-in-None c is = absurd (false≢true is)
