-- Ranks of accounts, and what a decision on a proposal needs: choices of this project.
use Rattle.std.specs.Prelude.{ℕ, Bool, true, false, nat_le, ◌==◌, Option, Some, None}
use Rattle.pid_file.specs.declared.path.Path.{Path}
use Rattle.pid_file.specs.declared.path.Path.TheVariants.{Vendor, Device, Subsystem, Class}
use Rattle.pid_file.specs.declared.path.Path.TheVariants.{Subclass, ProgIf, Generic}
use Rattle.pid_moderation.specs.declared.rank.Rank.{Rank}
use Rattle.pid_moderation.specs.declared.rank.Rank.TheVariants.{Contributor, Moderator, Senior}
use Rattle.pid_moderation.specs.declared.rank.Rank.TheVariants.{Administrator}

abbrev pub rank_number : Rank → ℕ
rank_number Contributor = 0
rank_number Moderator = 1
rank_number Senior = 2
rank_number Administrator = 3

-- the rank that names an item of the path
abbrev pub naming_rank : Path → Rank
naming_rank (Vendor v) = Senior
naming_rank (Device v d) = Moderator
naming_rank (Subsystem v d s e) = Moderator
naming_rank (Class c) = Senior
naming_rank (Subclass c s) = Moderator
naming_rank (ProgIf c s p) = Moderator
naming_rank (Generic v d) = Moderator

-- the rank that decides on a proposal for the path: a senior on vendors, classes and removals, a
-- moderator on other names
abbrev pub needed_rank : Path → Bool → Rank
needed_rank path true = Senior
needed_rank path false = naming_rank path

-- an account of this rank or a higher one
abbrev pub has_rank : Rank → Option Rank → Bool
has_rank needed None = false
has_rank needed (Some rank) = nat_le (rank_number needed) (rank_number rank)

abbrev pub is_rank : Rank → Option Rank → Bool
is_rank rank None = false
is_rank rank (Some old) = rank_number rank == rank_number old
