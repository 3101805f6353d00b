use Rattle.std.proofs.Common.{◌∷◌, []}
use Rattle.pid_moderation.specs.PendingPages.{told_of}
use Rattle.pid_moderation.specs.QueuePages.{entry_in, queued_of}
use Rattle.pid_moderation.specs.Submissions.{standing_of}
use Rattle.pid_tables.proofs.OfRows.CauseLemmas.{caused_later}
use Rattle.pid_tables.proofs.OfRows.OnlyReading.{reads_then}
use Rattle.pid_tables.proofs.OfLists.NumberLemmas.{kept_one}
use Rattle.pid_tables.proofs.tables.Tables.add_queued.Goals as goal

pub returns-in-Err : goal.returns-in-Err
returns-in-Err g c = record { rests = c.in-Err.ensures.rests; told = c.in-Err.ensures.told }

pub returns-in-Err-item : goal.returns-in-Err-item
returns-in-Err-item g c =
    let one = c.in-Ok.ensures in
    let two = c.in-Err-item.ensures in
    let old = g.C.Database.state c.args.self.now.conn in
    let mid = g.C.Database.state c.remark_count.new.tables.conn in
    let new = g.C.Database.state c.item.new.self.conn in
    record {
      rests = reads_then _ _ _ one.rests two.rests;
      told = λ clean v rest readable.
          caused_later old mid new (λ _. ⊥) c.in-Err-item.fault one.rests.survives two.rests.survives.counts (two.rests.clean clean) (two.told clean v (one.rests.kept v rest) readable);
    }

pub returns-in-Ok-item : goal.returns-in-Ok-item
returns-in-Ok-item g c =
    let one = c.in-Ok.ensures in
    let two = c.in-Ok-item.ensures in
    record {
      rests = reads_then _ _ _ one.rests two.rests;
      told = λ clean v rest.
          let count = one.told (two.rests.clean clean) v rest in
          let name = two.told clean v (one.rests.kept v rest) in
          kept_one queued_of c.args.queue.now.items c.push_last.new.list.items _ (entry_in v (told_of c.args.pending) ∷ []) c.push_last.result (g.C.Database.state c.args.self.now.conn) (g.C.Database.state c.item.new.self.conn) v
          c.push_last.ensures.items c.push_last.ensures.full (λ i. record { number = c.args.pending.number; standing = standing_of c.args.pending.submission; now = name i; remarks = count i } ∷ []);
    }
