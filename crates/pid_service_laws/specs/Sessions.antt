-- The sessions of a registry: one goes from an opening to the next, over a stop at any place. A
-- choice of this project.
use Rattle.std.specs.Prelude.{◌≡◌, ℕ, ◌+◌, Bool, List, [], ◌∷◌, ◌++◌, map, length, take}
use Rattle.std.specs.Prelude.{if◌then◌else◌, Result}
use Rattle.pid_moderation.specs.declared.command.Reply.{Reply}
use Rattle.pid_moderation.specs.declared.refusal.Refusal.{Refusal}
use Rattle.pid_moderation.specs.History.{Asked, History}
use Rattle.pid_moderation.specs.Judgement.{answer, judge, after, after_all}
use Rattle.pid_moderation.specs.Views.{views_of}

-- a command that was sent, and its outcome: a reply, or a refusal that judges it
pub record Sent : Type 0 where
  pub command : Asked
  pub outcome : Result Reply Refusal

-- A registry may end in a fault by which it failed. Of the command that met the fault it is not
-- known whether it was written; it was, or it was not.
pub data Doubt : Type 0 where
  NoDoubt : Doubt
  InDoubt : (command : Asked) (stands : Bool) → Doubt

-- What happened from one opening to the next. What got neither an outcome nor left a doubt counts
-- as not sent: it was answered 18, or 16 or 17 by a registry that stayed live, or it is of a list
-- whose run did not reach it, or an import whose input failed.
pub record Session : Type 0 where
  -- the commands with an outcome, the first one first
  pub sent : List Sent
  -- the one command more, the last one, if the session ended in doubt
  pub doubt : Doubt

-- the commands that were sent, without their outcomes
abbrev pub commands_in : List Sent → List Asked
commands_in sent = map (λ s. s.command) sent

-- the command in doubt, if there is one
abbrev pub doubted : Doubt → List Asked
doubted NoDoubt = []
doubted (InDoubt command stands) = command ∷ []

-- the commands of a session: those with an outcome, and the one in doubt
abbrev pub session_commands : Session → List Asked
session_commands session = commands_in session.sent ++ doubted session.doubt

-- one more if the command in doubt was written
abbrev pub standing : Doubt → ℕ
standing NoDoubt = 0
standing (InDoubt command stands) = if stands then 1 else 0

-- how many of them the prefix has: as many as have an outcome, the refused ones too, and one more
-- if the command in doubt was written
abbrev pub prefix_length : Session → ℕ
prefix_length session = length session.sent + standing session.doubt

-- the first ones, so many
abbrev pub prefix_of : Session → List Asked
prefix_of session = take (prefix_length session) (session_commands session)

-- the history after commands that were sent
abbrev pub after_sent : History → List Sent → History
after_sent h sent = after_all h (commands_in sent)

-- the history that a session leaves, which the next opening finds
abbrev pub after_session : History → Session → History
after_session h session = after_all h (prefix_of session)

-- the history that sessions leave, from the first one on
abbrev pub after_sessions : History → List Session → History
after_sessions h [] = h
after_sessions h (session ∷ sessions) = after_sessions (after_session h session) sessions

-- each outcome is that of the judgement over the history so far
abbrev pub AreJudged : History → List Sent → Type 0
AreJudged h [] = Unit {0}
AreJudged h (s ∷ sent) = (s.outcome ≡ answer (judge (views_of h) s.command))
    × AreJudged (after h s.command) sent

-- in each session each outcome is that of the judgement, and it begins with the history that the
-- session before it left
abbrev pub AreSessions : History → List Session → Type 0
AreSessions h [] = Unit {0}
AreSessions h (session ∷ sessions) = AreJudged h session.sent
    × AreSessions (after_session h session) sessions
