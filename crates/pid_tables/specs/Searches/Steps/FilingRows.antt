-- What a query of paths and authors answers.
use Rattle.std.specs.Prelude.{[], ◌∷◌}
use Rattle.sqlite.specs.Order.{Row}
use Rattle.sqlite.specs.declared.types.Value.TheVariants.{Text}
use Rattle.pid_ident.specs.PathTexts.{path_text}
use Rattle.pid_moderation.specs.Views.{Submitted}

abbrev pub filing_row : Submitted → Row
filing_row s = Text (path_text s.path) ∷ Text s.author ∷ []
