-- Pages of pending submissions.
use Rattle.std.specs.Prelude.{ℕ, ◌+◌, Bool, ◌&&◌, nat_lt, List, [], ◌∷◌, filter, take}
use Rattle.pid_moderation.specs.declared.facts.State.{State}
use Rattle.pid_moderation.specs.Views.{Views, Submitted}
use Rattle.pid_moderation.specs.CheckTables.{is_pending}
use Rattle.pid_moderation.specs.Submissions.{Standing, standing_of}
use Rattle.pid_moderation.specs.declared.lists.Pending.{Pending}

-- submissions as they stand, with their numbers, which count on from this one
abbrev pub standings_from : ℕ → List Submitted → (ℕ → State) → List (ℕ × Standing)
standings_from n [] state = []
standings_from n (s ∷ submits) state = (n, record { submitted = s; state = state n })
    ∷ standings_from (n + 1) submits state

-- pending, with a number above this one
abbrev pub waits_above : ℕ → ℕ × Standing → Bool
waits_above after s = nat_lt after s.0 && is_pending s.1.state

-- all of them, in the order of their numbers, which count from 1
abbrev pub pending_above : ℕ → Views → List (ℕ × Standing)
pending_above after v = filter (waits_above after) (standings_from 1 v.submits v.state)

-- the first of them, at most so many
abbrev pub pending_in : ℕ → ℕ → Views → List (ℕ × Standing)
pending_in most after v = take most (pending_above after v)

-- the pending submission of a value of the code
abbrev pub told_of : Pending → ℕ × Standing
told_of pending = (pending.number, standing_of pending.submission)
