use Rattle.std.proofs.Common.{◌≡◌, ℕ, Ok, Err, rules, subst}
use Rattle.pid_moderation.specs.CheckTables.{most_file_bytes}
use Rattle.pid_tables.specs.Steps.PutFiles.{PutsFile}
use Rattle.pid_tables.specs.Steps.PutSinks.{TakesEntry, LeavesEntry}
use Rattle.pid_tables.proofs.FilePut.{Went, left, left_same, left_some, put_ok, put_err}
use Rattle.pid_tables.proofs.put_file.put_file.Goals as goal

pub returns-in-Ok-clause-puts : goal.returns-in-Ok-clause-puts
returns-in-Ok-clause-puts g c =
    let puts = g.K.Putter.puts in
    let gives = g.K.Putter.gives_up in
    let rest = g.I.Input.to_come c.cut_input.new.input in
    let start = c.new-sink.result in
    let end = c.cut_input.new.sink in
    let read = c.cut_input.ensures.read in
    let went : Went (TakesEntry puts) (LeavesEntry puts gives) start end = left (TakesEntry puts) (LeavesEntry puts gives) most_file_bytes c.cut_input.result rest read.0 start end read.2 in
    let name : end.batch.ghost_name ≡ start.batch.ghost_name = left_same puts gives start end went in
    let same : end.batch.now ≡ c.batch-1.given.0 = search rules in (
      read.0,
      read.1,
      subst (λ (b : _). PutsFile (puts c.args.revision) gives (Ok end.tally) rest read.0 c.args.batch.now b) same
          (subst (λ (b : _). PutsFile (puts c.args.revision) gives (Ok end.tally) rest read.0 b end.batch.now) c.new-sink.ensures.now
          (subst (λ (n : ℕ). PutsFile (puts n) gives (Ok end.tally) rest read.0 start.batch.now end.batch.now) c.new-sink.ensures.number
          (put_ok puts gives rest read.0 start end c.numbered_entries_are_entries.ensures c.new-sink.ensures.none (rw c.in-Ok.is at read.2)))),
    )

pub returns-in-Err-clause-puts : goal.returns-in-Err-clause-puts
returns-in-Err-clause-puts g c =
    let puts = g.K.Putter.puts in
    let gives = g.K.Putter.gives_up in
    let rest = g.I.Input.to_come c.cut_input.new.input in
    let start = c.new-sink.result in
    let end = c.cut_input.new.sink in
    let read = c.cut_input.ensures.read in
    let went : Went (TakesEntry puts) (LeavesEntry puts gives) start end = left (TakesEntry puts) (LeavesEntry puts gives) most_file_bytes c.cut_input.result rest read.0 start end read.2 in
    let name : end.batch.ghost_name ≡ start.batch.ghost_name = left_same puts gives start end went in
    let same : end.batch.now ≡ c.in-Err.batch-in-Err-1-own.given.0 = search rules in (
      read.0,
      read.1,
      subst (λ (b : _). PutsFile (puts c.args.revision) gives (Err c.in-Err.end) rest read.0 c.args.batch.now b) same
          (subst (λ (b : _). PutsFile (puts c.args.revision) gives (Err c.in-Err.end) rest read.0 b end.batch.now) c.new-sink.ensures.now
          (subst (λ (n : ℕ). PutsFile (puts n) gives (Err c.in-Err.end) rest read.0 start.batch.now end.batch.now) c.new-sink.ensures.number
          (put_err puts gives c.in-Err.end rest read.0 start end (left_some puts gives start end c.new-sink.ensures.none went) (rw c.in-Err.is at read.2)))),
    )
