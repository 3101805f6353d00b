use Rattle.std.proofs.Common.{◌≡◌, false, inr, sym, ◌∙◌}
use Rattle.pid_tables.specs.Rows.Clauses.{AtRest, HasCleanDisk}
use Rattle.pid_service.proofs.Words.{asked, facts_of, History, is_import, IsReached, Reading, views_of}
use Rattle.pid_service.proofs.Causes.{caused_by}
use Rattle.pid_service.proofs.Obeyed.{told_or_short}
use Rattle.pid_service.proofs.Reached.{reached_items, reached_readable}
use Rattle.pid_service.proofs.judging.judge.Goals as goal

pub returns-in-Ok : goal.returns-in-Ok
returns-in-Ok g c =
    let found : (clean : HasCleanDisk g.C.Database.state c.gather.new.self.conn) (h : History) (reading : Reading) → IsReached h → AtRest g.C.Database.state c.args.tables.now.conn (views_of h) → is_import c.args.command.now.act ≡ false → c.in-Ok.facts ≡ facts_of (views_of h) (asked c.args.command.now reading) =
    λ clean h reading reached rest other. c.in-Ok.ensures.told clean (views_of h) rest (reached_items h reached).0 (reached_items h reached).1 ∙ sym (c.needs.ensures.suffice (views_of h) reading other) in
    record {
      rests = c.gather.ensures.rests;
      judged = λ clean h reading reached rest other. c.judged_by-judged.ensures.judged h reading (found clean h reading reached rest other) reached.marked other;
      caused = λ clean h reading reached rest other.
          told_or_short g.C.Database c.args.tables.now.conn c.gather.new.self.conn h (asked c.args.command.now reading) c.judged_by-judged.result (c.judged_by-judged.ensures.refused h reading (found clean h reading reached rest other));
      alive = c.judged_by-judged.ensures.alive;
    }

pub returns-in-Err : goal.returns-in-Err
returns-in-Err g c = record {
  rests = c.gather.ensures.rests;
  judged = λ clean h reading reached rest other. inr c.refusal_of.ensures.fault;
  caused = λ clean h reading reached rest other.
      inr (caused_by g.C.Database c.args.tables.now.conn c.gather.new.self.conn c.in-Err.fault c.refusal_of.result c.refusal_of.ensures.same
      (c.in-Err.ensures.told clean (views_of h) rest (reached_readable h reached)));
  alive = c.refusal_of.ensures.alive;
}
