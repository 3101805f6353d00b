use Rattle.std.proofs.Common.{◌≡◌, ◌++◌, length, map}
use Rattle.std.specs.Vec.Iter.{into_iter_items, into_iter_len}
use Rattle.pid_moderation.specs.PendingPages.{told_of}
use Rattle.pid_moderation.specs.QueuePages.{entry_in, queued_of}
use Rattle.pid_moderation.specs.Views.{Views}
use Rattle.pid_tables.specs.Rows.Clauses.{AtRest, HasCleanDisk, OnlyReads}
use Rattle.pid_tables.proofs.tables.Tables.queue_of.Given as goal

abbrev pub invariant-loop-pending : goal.invariant-loop-pending
invariant-loop-pending g l =
    OnlyReads g.C.Database.state l.initial.self.conn l.self.conn
    × (l.yielded ++ into_iter_items l.pending-iterator ≡ into_iter_items l.initial.pending-iterator)
    × (into_iter_len l.pending-iterator ≡ length (into_iter_items l.pending-iterator))
    × (HasCleanDisk g.C.Database.state l.self.conn → (v : Views) → AtRest g.C.Database.state l.initial.self.conn v → map queued_of l.queue.items ≡ map (entry_in v) (map told_of l.yielded))
