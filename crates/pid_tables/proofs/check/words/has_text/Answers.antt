use Rattle.std.proofs.lemmas.Bool.{false≢true}
use Rattle.pid_tables.proofs.OfCheck.WordTexts.{text_utf8}
use Rattle.pid_tables.proofs.check.words.has_text.Goals as goal

pub returns-in-None : goal.returns-in-None
returns-in-None c = (λ no. absurd (false≢true no), λ it. absurd (c.in-None.ensures.none it.0 it.1 (text_utf8 it.0 it.2)))
