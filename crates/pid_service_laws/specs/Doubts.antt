-- A command in doubt: a choice of this project.
use Rattle.std.specs.Prelude.{Bool, if◌then◌else◌}
use Rattle.pid_moderation.specs.History.{Asked, History}
use Rattle.pid_moderation.specs.Judgement.{after}

-- the history that a stop leaves at a command, if it was written and if it was not
abbrev pub left_at_stop : History → Asked → Bool → History
left_at_stop h c stands = if stands then after h c else h
