use Rattle.std.proofs.Common.{[], ◌∷◌, ◌++◌, refl}
use Rattle.pid_journal.proofs.Ending.{begins_named}
use Rattle.pid_journal.proofs.opening.begin_segment.Goals as goal

pub returns-in-Err : goal.returns-in-Err
returns-in-Err g c = record { honest = c.new_name.ensures.asked.honest; kept = c.new_name.ensures.asked.kept; same = refl; hands = refl; begun = tt; fault = c.in-Err.ensures.asked.fault }

pub returns-in-Ok : goal.returns-in-Ok
returns-in-Ok g c = record {
  honest = c.new_name.ensures.asked.honest;
  kept = c.new_name.ensures.asked.kept;
  same = c.new_segment.ensures.same;
  hands = c.in-Ok.ensures.handed;
  begun = begins_named g.R.RegistryCalls g.F.JournalFolder g.F.Segment.JournalFile c.args.registry.now c.new_name.new.registry c.args.folder.now c.new_segment.new.self c.in-Ok-Some.revision c.in-Ok.segment (rw c.in-Ok-Some.field-0-is at c.in-Ok-Some.ensures.asked.told) c.new_segment.ensures.same c.in-Ok.ensures.made;
  fault = tt;
}

pub returns-in-Err-new_segment : goal.returns-in-Err-new_segment
returns-in-Err-new_segment g c = record { honest = c.new_name.ensures.asked.honest; kept = c.new_name.ensures.asked.kept; same = c.new_segment.ensures.same; hands = c.in-Err-new_segment.ensures.handed; begun = tt; fault = (tt, tt) }

-- the last one has its name
pub returns-in-Ok-None : goal.returns-in-Ok-None
returns-in-Ok-None g c = record { honest = c.new_name.ensures.asked.honest; kept = c.new_name.ensures.asked.kept; same = refl; hands = refl; begun = tt; fault = (tt, tt) }

pub new_segment-requires : goal.new_segment-requires
new_segment-requires g c front is = (rw c.in-Ok-Some.field-0-is at c.in-Ok-Some.ensures.new) front (c.requires (front ++ c.in-Ok-Some.revision ∷ []) is)
