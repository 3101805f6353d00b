use Rattle.std.proofs.Common.{Option, subst}
use Rattle.pid_tables.proofs.OfRows.LeaveLemmas.{rests_in_two}
use Rattle.pid_tables.proofs.StandLemmas.{outside, seen_still}
use Rattle.pid_service.proofs.Words.{FindsVersion, seen, Two, Version, views_of}
use Rattle.pid_service.proofs.Reached.{reached_sound, reached_within}
use Rattle.pid_service.proofs.opening.judge_tables.Goals as goal

pub returns-in-Err : goal.returns-in-Err
returns-in-Err g c =
    let old = g.C.Database.state c.args.tables.now.conn in
    record {
      rests = c.check.ensures.rests;
      same = seen_still old (g.C.Database.state c.check.new.self.conn) (c.is_autocommit-outside.ensures.settled (outside _ _ c.args.tables.now.settled c.is_autocommit-outside.ensures.value)) c.check.ensures.rests;
      good = λ clean h reached rest. c.in-Err.ensures.good clean h (reached_sound h reached) (reached_within h reached) Two (rests_in_two old (views_of h) rest);
      shut = λ clean off. c.in-Err.ensures.shut clean off;
      told = λ clean. c.in-Err.ensures.told clean;
    }

pub returns-then-is_today : goal.returns-then-is_today
returns-then-is_today g c = record {
  rests = c.check.ensures.rests;
  same = seen_still (g.C.Database.state c.args.tables.now.conn) (g.C.Database.state c.check.new.self.conn) (c.is_autocommit-outside.ensures.settled (outside _ _ c.args.tables.now.settled c.is_autocommit-outside.ensures.value)) c.check.ensures.rests;
  good = λ clean h reached rest. tt;
  shut = λ clean off. c.in-Ok.ensures.shut clean off;
  told = λ clean. subst (λ (found : Option Version). FindsVersion (seen g.C.Database.state c.args.tables.now.conn) found) (c.is_today.ensures.0 c.if-is_today.true) (c.in-Ok.ensures.told clean);
}

pub returns-else-is_today : goal.returns-else-is_today
returns-else-is_today g c = record {
  rests = c.check.ensures.rests;
  same = seen_still (g.C.Database.state c.args.tables.now.conn) (g.C.Database.state c.check.new.self.conn) (c.is_autocommit-outside.ensures.settled (outside _ _ c.args.tables.now.settled c.is_autocommit-outside.ensures.value)) c.check.ensures.rests;
  good = λ clean h reached rest. tt;
  shut = λ clean off. absurd (c.in-Ok.ensures.shut clean off);
  told = λ clean. tt;
}
