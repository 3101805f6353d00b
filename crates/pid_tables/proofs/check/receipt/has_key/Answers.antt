use Rattle.std.proofs.lemmas.Bool.{false≢true}
use Rattle.pid_tables.proofs.OfCheck.WordTexts.{key_utf8}
use Rattle.pid_tables.proofs.check.receipt.has_key.Goals as goal

pub returns-in-None : goal.returns-in-None
returns-in-None c = (λ no. absurd (false≢true no), λ it. absurd (c.in-None.ensures.none it.0 it.1 (key_utf8 it.0 it.2)))
