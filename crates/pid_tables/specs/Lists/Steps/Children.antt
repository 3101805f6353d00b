-- Items that are kept because they are below a path.
use Rattle.std.specs.Prelude.{ℕ, List, Some, filter}
use Rattle.pid_file.specs.declared.path.Path.{Path}
use Rattle.pid_ident.specs.PathTexts.{path_text}
use Rattle.pid_moderation.specs.Children.{stands_below}
use Rattle.pid_moderation.specs.Items.{Items}
use Rattle.pid_tables.specs.Rows.Steps.Ranges.{is_between, is_under}

-- the items above the one text and below the other
abbrev pub between : List ℕ → List ℕ → Items → Items
between low high items = filter (λ e. is_between low high e.0) items

-- the items under a text
abbrev pub under : List ℕ → Items → Items
under text items = filter (λ e. is_under text e.0) items

-- those that are directly below a path
abbrev pub children_among : Path → Items → Items
children_among path items = filter (λ e. stands_below (Some (path_text path)) e.0) items
