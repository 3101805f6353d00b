use Rattle.std.proofs.Common.{◌∙◌, ap}
use Rattle.pid_ident.specs.PathReading.{path_of}
use Rattle.pid_script.proofs.PathFields.{not_alone, no_path, a_path}
use Rattle.pid_script.proofs.fields.path_in.Goals as goal

pub returns-then-not-is_path_alone : goal.returns-then-not-is_path_alone
returns-then-not-is_path_alone c = not_alone _ _ c.if-not-is_path_alone.ensures

pub returns-in-Some : goal.returns-in-Some
returns-in-Some c = a_path _ _ c.in-Some.path c.if-not-is_path_alone.ensures (c.in-Some.ensures.computed ∙ ap path_of c.text_at.ensures)

pub returns-in-None : goal.returns-in-None
returns-in-None c = no_path _ _ c.if-not-is_path_alone.ensures (c.in-None.ensures.computed ∙ ap path_of c.text_at.ensures)
