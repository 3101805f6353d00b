-- What a sink does to what it puts names into.
use Rattle.std.specs.Prelude.{◌≡◌, ◌⊎◌, ℕ}
use Rattle.std.specs.declared.alloc.Global.{Global}
use Rattle.pid_reader.specs.LookingBack.{Item}
use Rattle.pid_reader.specs.Numbered.{Numbered, item_in}
use Rattle.pid_tables.specs.declared.rows.fault.TableFault.{TableFault}
use Rattle.pid_tables.specs.declared.putting.Put.{Put}
use Rattle.pid_tables.specs.declared.put_sink.PutSink.{PutSink}
use Rattle.pid_tables.specs.Steps.Tallies.{tallied}

-- one entry is put into the same borrow with the sink's number, and counted
abbrev pub TakesEntry : {K : Type 0} → (ℕ → K → Item → Put → K → Type 0) → PutSink K Global
    → Numbered → PutSink K Global → Type 0
TakesEntry puts s entry t = (t.batch.ghost_name ≡ s.batch.ghost_name) × (t.revision ≡ s.revision)
    × ((put : Put) × puts s.revision s.batch.now (item_in entry) put t.batch.now
    × (t.tally ≡ tallied put s.tally))

-- one entry is not put, or not counted
abbrev pub LeavesEntry : {K : Type 0} → (ℕ → K → Item → Put → K → Type 0) → (K → K → Type 0)
    → PutSink K Global → Numbered → TableFault → PutSink K Global → Type 0
LeavesEntry puts gives_up s entry f t = (t.batch.ghost_name ≡ s.batch.ghost_name)
    × (gives_up s.batch.now t.batch.now ⊎
    ((put : Put) × puts s.revision s.batch.now (item_in entry) put t.batch.now))
