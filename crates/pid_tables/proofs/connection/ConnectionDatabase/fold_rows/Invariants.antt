use Rattle.std.proofs.Common.{◌≡◌}
use Rattle.pid_tables.proofs.OfCheck.Walking.{HasKept}
use Rattle.pid_tables.proofs.connection.ConnectionDatabase.fold_rows.Given as goal

abbrev pub invariant-rows : goal.invariant-rows
invariant-rows g l = HasKept g.S.Store (λ keeper rows. g.K.RowFold.keeps l.fn.keeper rows keeper) l.fn.table l.fn.self l.rows.conn.now l.fn.keeper l.keeper × (l.rows.conn.ghost_name ≡ l.initial.rows.conn.ghost_name)
