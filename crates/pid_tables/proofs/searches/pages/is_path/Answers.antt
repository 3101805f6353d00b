use Rattle.std.proofs.Common.{◌∙◌}
use Rattle.std.proofs.lemmas.Map.Text.{is_eq-slice_cmp}
use Rattle.pid_ident.specs.PathTexts.{path_text}
use Rattle.pid_tables.proofs.searches.pages.is_path.Goals as goal

pub returns-in-Some : goal.returns-in-Some
returns-in-Some c = rw c.in-Some.is (c.eq.ensures ∙ is_eq-slice_cmp (path_text c.args.path) (path_text c.in-Some.wanted.now))
