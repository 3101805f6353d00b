use Rattle.std.proofs.Common.{◌≡◌, List}
use Rattle.pid_reader.specs.Numbered.{Numbered}
use Rattle.pid_reader.specs.Sinks.{Took}
use Rattle.pid_tables.proofs.OfLists.WalkLemmas.{HasWalked}
use Rattle.pid_tables.proofs.connection.ConnectionDatabase.each_item.Given as goal

abbrev pub invariant-rows : goal.invariant-rows
invariant-rows g l = HasWalked g.S.Store g.K.Sink.takes l.fn.self l.rows.conn.now l.fn.sink l.sink l.at × (l.rows.conn.ghost_name ≡ l.initial.rows.conn.ghost_name) × ((items : List Numbered) × Took g.K.Sink.takes l.fn.sink items l.sink)
