-- The numbers of submissions that are kept in memory, by their paths and by their authors.
use Rattle.std.specs.Prelude.{◌≡◌, ℕ, ◌+◌, if◌then◌else◌, List, [], ◌∷◌}
use Rattle.std.specs.Prelude.{map, Vec, String}
use Rattle.std.specs.BTreeMap.{BTreeMap, get_by_text}
use Rattle.std.specs.Option.{option_map_or}
use Rattle.std.specs.Str.{bytes_eq}
use Rattle.std.specs.declared.alloc.Global.{Global}
use Rattle.pid_moderation.specs.Views.{Views}
use Rattle.pid_tables.specs.Searches.Filings.{filings_in}
use Rattle.pid_tables.specs.declared.searches.numbers.Kept.{Kept as Lists}
use Rattle.pid_tables.specs.declared.searches.numbers.Searches.{Searches}
use Rattle.pid_tables.specs.declared.searches.numbers.Searches.TheVariants.{Unread, Lacking, Kept}

-- the numbers of the texts that are this one, where the first one has this number
abbrev pub numbers_named : List ℕ → (first : ℕ) → List (List ℕ) → List ℕ
numbers_named wanted first [] = []
numbers_named wanted first (text ∷ texts) =
    if bytes_eq text wanted then first ∷ numbers_named wanted (first + 1) texts
    else numbers_named wanted (first + 1) texts

-- each text has its numbers, rising
abbrev pub AreListsOf : BTreeMap (String Global) (Vec ℕ Global) → List (List ℕ) → Type 0
AreListsOf lists texts = (wanted : List ℕ)
    → option_map_or (λ (list : Vec ℕ Global). list.items) (get_by_text lists wanted) []
    ≡ numbers_named wanted 1 texts

-- by the paths and by the authors
pub record AreKeptFor (kept : Lists) (filings : List (List ℕ × List ℕ)) : Type 0 where
  pub paths : AreListsOf kept.paths (map (λ (f : List ℕ × List ℕ). f.0) filings)
  pub authors : AreListsOf kept.authors (map (λ (f : List ℕ × List ℕ). f.1) filings)

-- these are those of all submissions, if they are kept
abbrev pub HoldsNumbers : Searches → Views → Type 0
HoldsNumbers Unread v = Unit {0}
HoldsNumbers Lacking v = Unit {0}
HoldsNumbers (Kept kept) v = AreKeptFor kept (filings_in v)
