-- When a cache is right about a map from paths to names. A choice of this project.
use Rattle.std.specs.Prelude.{◌≡◌, ℕ, List, Option, Contains}
use Rattle.pid_lookup.specs.CacheEntries.{Entries}

-- each entry is what the map has for its path
pub record Agrees (entries : Entries) (at : List ℕ → Option (List ℕ)) : Type 0 where
  pub known : (entry : List ℕ × Option (List ℕ)) → Contains entries entry → at entry.0 ≡ entry.1
