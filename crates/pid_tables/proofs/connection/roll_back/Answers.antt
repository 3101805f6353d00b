use Rattle.sqlite.specs.Held.{state}
use Rattle.sqlite.proofs.StateLemmas.{clean_if_open}
use Rattle.pid_tables.proofs.OfRows.LeaveLemmas.{given_back}
use Rattle.pid_tables.proofs.connection.roll_back.Goals as goal

pub returns-clause-given_back : goal.returns-clause-given_back
returns-clause-given_back g c v holds =
    let end = c.rollback.new.self.0 in
    given_back (state g.S.Store c.args.batch.conn.now) (state g.S.Store end) v (clean_if_open (g.S.Store.view end.store) (g.met.S.Store.shut_if_dirty end.store)) c.rollback.ensures.ended c.rollback.ensures.undone c.rollback.ensures.survives holds
