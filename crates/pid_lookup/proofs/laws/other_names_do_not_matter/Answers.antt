use Rattle.pid_lookup.proofs.AnswerLaws.{other_paths_do_not_matter}
use Rattle.pid_lookup.proofs.laws.other_names_do_not_matter.Goals as goal

pub returns : goal.returns
returns c = other_paths_do_not_matter
