use Rattle.std.proofs.Common.{[], ◌≤◌, ap, ◌∙◌}
use Rattle.pid_moderation.specs.History.{Begins, mark_of}
use Rattle.pid_moderation.specs.Keys.{times_under}
use Rattle.pid_moderation.specs.Sound.{IsSound}
use Rattle.std.specs.List.{flat_map}
use Rattle.pid_service_laws.specs.Sessions.{prefix_of}
use Rattle.pid_service_laws.proofs.Joining.{joined, joins, sessions_hold, sessions_keep, sessions_only, sessions_own, prefix_parts}
use Rattle.pid_service_laws.proofs.laws.sessions_are_prefixes.Goals as goal

pub returns : goal.returns
returns c = record {
  prefix = λ session. prefix_parts session.sent session.doubt;
  joined = λ mark sessions. record {
    joined = joined sessions (Begins mark);
    marked = ap mark_of (joined sessions (Begins mark)) ∙ c.marks_stay.ensures.mark (Begins mark) (flat_map prefix_of sessions);
    only = sessions_only mark sessions;
    once = λ account key. joins (λ h. times_under account key h ≤ 1) mark [] sessions (c.keys_stand_once.ensures mark (flat_map prefix_of sessions) account key);
    own = sessions_own mark sessions;
  };
  holds = λ mark sessions j. sessions_hold sessions (Begins mark) j;
  kept = λ mark sessions j. sessions_keep sessions (Begins mark) j;
  sound = λ mark sessions made. joins IsSound mark [] sessions (c.histories_are_sound.ensures mark (flat_map prefix_of sessions) made);
}
