-- The mark of a history, from which its commands are counted.
use Rattle.std.specs.Prelude.{ℕ, ◌≤◌}
use Rattle.pid_moderation.specs.History.{Begins, More, History, mark_of, accepted_count}

-- it holds at least as many commands as its mark says
abbrev pub IsMarked : History → Type 0
IsMarked h = mark_of h ≤ accepted_count h

-- the same commands, with another mark
abbrev pub with_mark : ℕ → History → History
with_mark mark (Begins before) = Begins mark
with_mark mark (More e h) = More e (with_mark mark h)

-- what the history of a file becomes that is upgraded: all its commands are before the mark
abbrev pub taken_over : History → History
taken_over h = with_mark (accepted_count h) h
