-- The entries of a cache: texts of paths, each with the name of its item or None for the absence of
-- one, the latest used first.
use Rattle.std.specs.Prelude.{ℕ, List, Option}
use Rattle.std.specs.Str.{bytes_eq}
use Rattle.std.specs.Map.{lookup}
use Rattle.lru.specs.LruCache.{lru_cache, promoted, put_entries}
use Rattle.pid_lookup.specs.declared.name_cache.TheConstants.{CAPACITY}

-- from the latest used on
abbrev pub Entries : Type 0
Entries = List (List ℕ × Option (List ℕ))

-- what the entries have for a path; None if they have no entry of it. A choice of this project.
abbrev pub entry_at : List ℕ → Entries → Option (Option (List ℕ))
entry_at text entries = lookup (bytes_eq text) entries

-- the entries with that of a path first, if there is one. The order is that of the Rust crate lru.
abbrev pub used : List ℕ → Entries → Entries
used text entries = promoted (bytes_eq text) entries

-- the entries with this answer first, in place of an earlier one of its path; the last of a full
-- cache goes for a new path. The order is that of the Rust crate lru.
abbrev pub with_answer : List ℕ → Option (List ℕ) → Entries → Entries
with_answer text answer entries = put_entries bytes_eq (lru_cache entries CAPACITY) text answer
