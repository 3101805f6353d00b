use Rattle.pid_ident.proofs.PathReadingLemmas.{text_of_parent}
use Rattle.pid_ident.proofs.laws.parents_have_texts.Goals as goal

pub returns : goal.returns
returns c = text_of_parent
