use Rattle.std.proofs.Common.{sym, ap, ◌∙◌}
use Rattle.std.specs.Prelude.{option_map}
use Rattle.std.proofs.lemmas.Map.Text.{is_eq-slice_cmp}
use Rattle.pid_file.specs.PathTexts.{path_text}
use Rattle.pid_ident.proofs.PathReadingLemmas.{text_of_parent}
use Rattle.std.proofs.Common.{Option}
use Rattle.pid_service.proofs.Words.{is_parent, Path, stands_below}
use Rattle.pid_service.proofs.kept_children.is_below.Goals as goal

pub returns-in-Some-above : goal.returns-in-Some-above
returns-in-Some-above c =
    c.eq.ensures ∙ is_eq-slice_cmp (path_text c.in-Some-above.above) (path_text c.in-Some.parent)
    ∙ sym (ap (λ (a : Option Path). stands_below (option_map path_text a) (path_text c.args.path)) c.in-Some-above.is ∙ ap (is_parent (path_text c.in-Some-above.above)) (text_of_parent c.args.path ∙ ap (option_map path_text) (sym c.in-Some.ensures.parent)))
