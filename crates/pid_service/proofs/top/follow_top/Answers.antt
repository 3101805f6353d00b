use Rattle.pid_moderation.specs.Changes.{affected}
use Rattle.pid_service.proofs.TopItems.{top_same}
use Rattle.pid_service.proofs.top.follow_top.Goals as goal

pub returns-then-not-writes_top : goal.returns-then-not-writes_top
returns-then-not-writes_top c n v holds = top_same c.args.top.now v (affected n c.args.effect.now v) (c.writes_top.ensures n v c.if-not-writes_top.true) holds

pub returns : goal.returns
returns c n v holds = tt
