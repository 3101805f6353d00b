-- Submissions that are read by their numbers.
use Rattle.std.specs.Prelude.{ℕ, List, Option, option_map}
use Rattle.std.specs.List.{filter_map}
use Rattle.pid_moderation.specs.Submissions.{Standing, standing_in}
use Rattle.pid_moderation.specs.Views.{Views}

-- the submission with a number, as it stands, with its number
abbrev pub standing_at : Views → ℕ → Option (ℕ × Standing)
standing_at v number = option_map (λ s. (number, s)) (standing_in v number)

-- those with these numbers, in the order of the numbers; one that no submission has is passed over
abbrev pub standings_at : List ℕ → Views → List (ℕ × Standing)
standings_at numbers v = filter_map (standing_at v) numbers
