-- How many accounts views have.
use Rattle.std.specs.Prelude.{◌≡◌, ℕ, List, length}
use Rattle.pid_moderation.specs.RegistryStatus.{AreRanked}
use Rattle.pid_moderation.specs.Views.{Views}

-- so many have a rank, each of them counted once
abbrev pub HasAccounts : Views → ℕ → Type 0
HasAccounts v n = (names : List (List ℕ)) × AreRanked v names × (n ≡ length names)
