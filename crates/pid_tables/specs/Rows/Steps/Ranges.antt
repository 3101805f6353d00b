-- Items by ranges of their paths.
use Rattle.std.specs.Prelude.{ℕ, Bool, ◌&&◌, List, [], ◌∷◌, ◌++◌}
use Rattle.std.specs.List.{list_any}
use Rattle.std.specs.Ordering.{is_lt}
use Rattle.pid_ident.specs.Trees.{text_cmp}
use Rattle.pid_moderation.specs.Items.{Items}

-- above the one and below the other
abbrev pub is_between : List ℕ → List ℕ → List ℕ → Bool
is_between low high path = is_lt (text_cmp low path) && is_lt (text_cmp path high)

-- some item's path is
abbrev pub holds_between : List ℕ → List ℕ → Items → Bool
holds_between low high items = list_any (λ e. is_between low high e.0) items

-- below a text: it goes on after the text and a slash, which comes right before the digit 0
abbrev pub is_under : List ℕ → List ℕ → Bool
is_under text path = is_between (text ++ 47 ∷ []) (text ++ 48 ∷ []) path

abbrev pub holds_under : List ℕ → Items → Bool
holds_under text items = holds_between (text ++ 47 ∷ []) (text ++ 48 ∷ []) items
