-- How much a registry holds: a choice of this project.
use Rattle.std.specs.Prelude.{◌≡◌, ℕ, List, [], ◌∷◌, length, is_some, if◌then◌else◌, codes}
use Rattle.std.specs.List.{IsDistinct, list_any}
use Rattle.std.specs.Str.{bytes_eq}
use Rattle.pid_moderation.specs.History.{Deed, Ranks, History, Begins, More}
use Rattle.pid_moderation.specs.PendingPages.{pending_above}
use Rattle.pid_moderation.specs.Views.{Views, views_of}
use Rattle.pid_moderation.specs.declared.lists.Status.{Status}

-- how many accounts, items and pending submissions there are, how many commands were accepted since
-- the mark, and how many submissions there are
pub record RegistryStatus : Type 0 where
  pub accounts : ℕ
  pub items : ℕ
  pub pending : ℕ
  pub revision : ℕ
  pub submissions : ℕ

-- the account that gets a rank, unless it has one
abbrev pub with_account : Deed → List (List ℕ) → List (List ℕ)
with_account (Ranks who rank) names = if list_any (bytes_eq who) names then names else who ∷ names
with_account deed names = names

-- each account once, the newest first; `root` is there from the beginning
abbrev pub accounts_of : History → List (List ℕ)
accounts_of (Begins mark) = codes "root" ∷ []
accounts_of (More e h) = with_account e.asked.deed (accounts_of h)

-- the views, where so many accounts have a rank
abbrev pub status_in : ℕ → Views → RegistryStatus
status_in accounts v = record {
  accounts = accounts;
  items = length v.items;
  pending = length (pending_above 0 v);
  revision = v.revision;
  submissions = length v.submits;
}

-- what the history comes to
abbrev pub status_of_registry : History → RegistryStatus
status_of_registry h = status_in (length (accounts_of h)) (views_of h)

-- these accounts have a rank in the views and no other has one; each comes once
pub record AreRanked (v : Views) (names : List (List ℕ)) : Type 0 where
  pub once : IsDistinct bytes_eq names
  pub ranked : (a : List ℕ) → is_some (v.rank a) ≡ list_any (bytes_eq a) names

-- what the views alone say of it
abbrev pub IsStatusIn : Views → RegistryStatus → Type 0
IsStatusIn v status = (names : List (List ℕ)) × AreRanked v names
    × (status ≡ status_in (length names) v)

-- the status of a value of the code
abbrev pub registry_status_of : Status → RegistryStatus
registry_status_of s = record {
  accounts = s.accounts;
  items = s.items;
  pending = s.pending;
  revision = s.revision;
  submissions = s.submissions;
}
