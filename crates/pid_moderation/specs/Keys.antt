-- The commands of an account under a key.
use Rattle.std.specs.Prelude.{ℕ, Bool, false, ◌&&◌, List, Option, Some, None, count_by}
use Rattle.std.specs.Str.{bytes_eq}
use Rattle.pid_moderation.specs.History.{Accepted, History, accepted_in}

abbrev pub has_key : List ℕ → Option (List ℕ) → Bool
has_key key None = false
has_key key (Some used) = bytes_eq key used

abbrev pub is_of_key : List ℕ → List ℕ → Accepted → Bool
is_of_key account key e = bytes_eq account e.asked.account && has_key key e.asked.key

-- how many of them a history holds
abbrev pub times_under : List ℕ → List ℕ → History → ℕ
times_under account key h = count_by (is_of_key account key) (accepted_in h)
