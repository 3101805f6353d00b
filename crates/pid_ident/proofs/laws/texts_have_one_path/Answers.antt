use Rattle.pid_ident.proofs.PathReadingLemmas.{path_of_text, text_of_path}
use Rattle.pid_ident.proofs.laws.texts_have_one_path.Goals as goal

pub returns : goal.returns
returns c = λ text path. (text_of_path text path, path_of_text text path)
