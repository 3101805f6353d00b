-- The judgement of a command over what a history shows, and the history after it.
use Rattle.std.specs.Prelude.{if◌then◌else◌, List, [], ◌∷◌, Option, Some, None, Result, Ok, Err}
use Rattle.pid_moderation.specs.declared.command.Reply.{Reply}
use Rattle.pid_moderation.specs.declared.facts.Facts.{Facts}
use Rattle.pid_moderation.specs.declared.refusal.Refusal.{Refusal}
use Rattle.pid_moderation.specs.declared.refusal.Refusal.TheVariants.{BadText}
use Rattle.pid_moderation.specs.History.{Asked, More, History}
use Rattle.pid_moderation.specs.Views.{Views, views_of}
use Rattle.pid_moderation.specs.FactsOfViews.{facts_of}
use Rattle.pid_moderation.specs.CheckTables.{checks, first_failing, is_ill_formed, reply_by_facts}

pub data Outcome : Type 0 where
  Refused : Refusal → Outcome
  Repeated : Reply → Outcome
  Accepts : Reply → Outcome

abbrev pub unless : Option Refusal → Reply → Outcome
unless (Some refusal) reply = Refused refusal
unless None reply = Accepts reply

abbrev pub unless_kept : Option Reply → Outcome → Outcome
unless_kept (Some reply) outcome = Repeated reply
unless_kept None outcome = outcome

abbrev pub judged : Facts → Asked → Outcome
judged f c = if is_ill_formed f c.deed then Refused BadText else unless_kept f.kept
    (unless (first_failing (checks f c)) (reply_by_facts f c.deed))

abbrev pub judge : Views → Asked → Outcome
judge v c = judged (facts_of v c) c

-- what is answered
abbrev pub answer : Outcome → Result Reply Refusal
answer (Refused refusal) = Err refusal
answer (Repeated reply) = Ok reply
answer (Accepts reply) = Ok reply

-- a newly accepted command is added with its reply
abbrev pub added : History → Asked → Outcome → History
added h c (Refused refusal) = h
added h c (Repeated reply) = h
added h c (Accepts reply) = More (record { asked = c; reply = reply }) h

abbrev pub after : History → Asked → History
after h c = added h c (judge (views_of h) c)

-- the commands in turn, the first one first
abbrev pub after_all : History → List Asked → History
after_all h [] = h
after_all h (c ∷ cs) = after_all (after h c) cs

-- the answers to commands in turn
abbrev pub answers : History → List Asked → List (Result Reply Refusal)
answers h [] = []
answers h (c ∷ cs) = answer (judge (views_of h) c) ∷ answers (after h c) cs
