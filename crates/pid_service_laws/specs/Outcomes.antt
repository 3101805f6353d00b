-- Which answers say that a command was judged, and which that it was not: a choice of this
-- project.
use Rattle.std.specs.Prelude.{Bool, true, ◌&&◌, nat_le, Result, Ok, Err}
use Rattle.pid_moderation.specs.declared.command.Reply.{Reply}
use Rattle.pid_moderation.specs.declared.refusal.Refusal.{Refusal}
pub use Rattle.pid_moderation.specs.Faults.{IsMemoryOrStore}
use Rattle.pid_moderation.specs.Refusals.{refusal_number, is_judged_refusal}

-- a reply, or a refusal by judgement
abbrev pub is_outcome : Result Reply Refusal → Bool
is_outcome (Ok reply) = true
is_outcome (Err refusal) = is_judged_refusal refusal

-- it is 16 or 17
abbrev pub is_fault : Refusal → Bool
is_fault refusal = nat_le 16 (refusal_number refusal) && nat_le (refusal_number refusal) 17
