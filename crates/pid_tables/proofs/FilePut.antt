-- A whole file put, by what became of the sink.
use Rattle.std.proofs.Common.{◌≡◌, ◌⊎◌, ℕ, inl, inr, List, [], ◌∷◌, map, Option, Result, Ok, Err, refl, subst, ap, ◌∙◌}
use Rattle.std.specs.declared.alloc.Global.{Global}
use Rattle.pid_file.specs.declared.sink.CutEnd.TheVariants.{Refused, Fault}
use Rattle.pid_file.specs.declared.whole_input.InputEnd.{InputEnd}
use Rattle.pid_file.specs.declared.whole_input.InputEnd.TheVariants.{ReadFault, TooLong, Cut}
use Rattle.pid_reader.specs.Lines.{lines_of}
use Rattle.pid_reader.specs.LookingBack.{Item}
use Rattle.pid_reader.specs.Numbered.{Numbered, item_in, numbered_of}
use Rattle.pid_reader.specs.Reading.{entries_of}
use Rattle.pid_reader.specs.Sinks.{Took, TookSome, FaultedAt}
use Rattle.pid_reader.specs.WholeInputs.{CutsInput, TookOrFaulted}
use Rattle.pid_moderation.specs.CheckTables.{most_file_bytes}
use Rattle.pid_tables.specs.declared.rows.fault.TableFault.{TableFault}
use Rattle.pid_tables.specs.declared.putting.Put.{Put}
use Rattle.pid_tables.specs.declared.put_sink.PutSink.{PutSink}
use Rattle.pid_tables.specs.declared.tally.Tally.{Tally}
use Rattle.pid_tables.specs.Steps.PutFiles.{PutAll, PutSome, PutsFile}
use Rattle.pid_tables.specs.Steps.PutSinks.{TakesEntry, LeavesEntry}
use Rattle.pid_tables.specs.Steps.Tallies.{tallied}
use Rattle.pid_tables.specs.Steps.Tallies.{no_tally}

-- the sink took some entries, or faulted behind some
abbrev pub Went : {S F : Type 0} → (S → Numbered → S → Type 0) → (S → Numbered → F → S → Type 0) → S → S → Type 0
Went {S} {F} takes faults old new = (entries : List Numbered) × (Took takes old entries new ⊎ ((entry : Numbered) × (f : F) × (between : S) × Took takes old entries between × faults between entry f new))

went_some : {S F : Type 0} (takes : S → Numbered → S → Type 0) (faults : S → Numbered → F → S → Type 0) (old : S) (lines : List (List ℕ)) (new : S) → TookSome takes old lines new → Went takes faults old new
went_some takes faults old lines new some = (numbered_of some.front, inl some.took)

went_faulted : {S F : Type 0} (takes : S → Numbered → S → Type 0) (faults : S → Numbered → F → S → Type 0) (old : S) (lines : List (List ℕ)) (f : F) (new : S) → FaultedAt takes faults old lines f new → Went takes faults old new
went_faulted takes faults old lines f new at = (numbered_of at.front, inr (at.entry, f, at.between, at.took, at.faulted))

went_either : {S F : Type 0} (takes : S → Numbered → S → Type 0) (faults : S → Numbered → F → S → Type 0) (old : S) (lines : List (List ℕ)) (new : S) → TookOrFaulted takes faults old lines new → Went takes faults old new
went_either takes faults old lines new (inl some) = went_some takes faults old lines new some
went_either takes faults old lines new (inr (f, at)) = went_faulted takes faults old lines f new at

-- whatever the end
pub left : {S F X : Type 0} (takes : S → Numbered → S → Type 0) (faults : S → Numbered → F → S → Type 0) (limit : ℕ) (r : Result X (InputEnd F)) (rest : Option (List ℕ)) (text : List ℕ) (old new : S)
    → CutsInput takes faults limit r rest text old new → Went takes faults old new
left takes faults limit (Ok x) rest text old new cut = (numbered_of (lines_of text), inl cut.1.1)
left takes faults limit (Err (Cut (Refused r))) rest text old new (whole, inl told) = (numbered_of (lines_of text), inl told.1)
left takes faults limit (Err (Cut (Refused r))) rest text old new (whole, inr told) = went_some takes faults old (lines_of text) new told.1
left takes faults limit (Err (Cut (Fault f))) rest text old new cut = went_faulted takes faults old (lines_of text) f new cut.1
left takes faults limit (Err TooLong) rest text old new cut = went_either takes faults old (lines_of text) new cut.1
left takes faults limit (Err ReadFault) rest text old new cut = went_either takes faults old (lines_of text) new cut.1

took_same : {K : Type 0} (puts : ℕ → K → Item → Put → K → Type 0) (old new : PutSink K Global) (entries : List Numbered) → Took (TakesEntry puts) old entries new → new.batch.ghost_name ≡ old.batch.ghost_name
took_same puts old new [] took = ap (λ (s : PutSink _ Global). s.batch.ghost_name) took
took_same puts old new (entry ∷ entries) took = took.2.0 ∙ took_same puts old took.0 entries took.1

took_number : {K : Type 0} (puts : ℕ → K → Item → Put → K → Type 0) (old new : PutSink K Global) (entries : List Numbered) → Took (TakesEntry puts) old entries new → new.revision ≡ old.revision
took_number puts old new [] took = ap (λ (s : PutSink _ Global). s.revision) took
took_number puts old new (entry ∷ entries) took = took.2.1 ∙ took_number puts old took.0 entries took.1

pub left_same : {K : Type 0} (puts : ℕ → K → Item → Put → K → Type 0) (gives_up : K → K → Type 0) (old new : PutSink K Global) → Went (TakesEntry puts) (LeavesEntry puts gives_up) old new → new.batch.ghost_name ≡ old.batch.ghost_name
left_same puts gives_up old new (entries, inl took) = took_same puts old new entries took
left_same puts gives_up old new (entries, inr (entry, f, between, took, fault)) = fault.0 ∙ took_same puts old between entries took

took_all : {K : Type 0} (puts : ℕ → K → Item → Put → K → Type 0) (old new : PutSink K Global) (entries : List Numbered) → old.tally ≡ no_tally → Took (TakesEntry puts) old entries new
    → PutAll (puts old.revision) old.batch.now (map item_in entries) new.tally new.batch.now
took_all puts old new [] none took = (ap (λ (s : PutSink _ Global). s.batch.now) took, ap (λ (s : PutSink _ Global). s.tally) took ∙ none)
took_all puts old new (entry ∷ entries) none (between, took, (same, number, (put, puts_it, counted))) =
    (between.batch.now, between.tally, put, took_all puts old between entries none took, subst (λ (n : ℕ). puts n between.batch.now (item_in entry) put new.batch.now) (took_number puts old between entries took) puts_it, counted)

pub left_some : {K : Type 0} (puts : ℕ → K → Item → Put → K → Type 0) (gives_up : K → K → Type 0) (old new : PutSink K Global) → old.tally ≡ no_tally → Went (TakesEntry puts) (LeavesEntry puts gives_up) old new
    → PutSome (puts old.revision) gives_up old.batch.now new.batch.now
left_some puts gives_up old new none (entries, inl took) = (map item_in entries, new.tally, inl (took_all puts old new entries none took))
left_some puts gives_up old new none (entries, inr (entry, f, between, took, (same, inl gave))) = (map item_in entries, between.tally, inr (between.batch.now, took_all puts old between entries none took, gave))
left_some puts gives_up old new none (entries, inr (entry, f, between, took, (same, inr (put, puts_it)))) =
    (item_in entry ∷ map item_in entries, tallied put between.tally, inl (between.batch.now, between.tally, put, took_all puts old between entries none took, subst (λ (n : ℕ). puts n between.batch.now (item_in entry) put new.batch.now) (took_number puts old between entries took) puts_it, refl))

pub put_ok : {K : Type 0} (puts : ℕ → K → Item → Put → K → Type 0) (gives_up : K → K → Type 0) (rest : Option (List ℕ)) (text : List ℕ) (old new : PutSink K Global)
    → ((lines : List (List ℕ)) → map item_in (numbered_of lines) ≡ entries_of lines) → old.tally ≡ no_tally
    → CutsInput {X = Unit {0}} (TakesEntry puts) (LeavesEntry puts gives_up) most_file_bytes (Ok tt) rest text old new → PutsFile (puts old.revision) gives_up (Ok new.tally) rest text old.batch.now new.batch.now
put_ok puts gives_up rest text old new law none (whole, (good, took)) =
    record { ends = (whole, good); put = subst (λ (items : List Item). PutAll (puts old.revision) old.batch.now items new.tally new.batch.now) (law (lines_of text)) (took_all puts old new (numbered_of (lines_of text)) none took) }

pub put_err : {K : Type 0} (puts : ℕ → K → Item → Put → K → Type 0) (gives_up : K → K → Type 0) (e : InputEnd TableFault) (rest : Option (List ℕ)) (text : List ℕ) (old new : PutSink K Global) → PutSome (puts old.revision) gives_up old.batch.now new.batch.now
    → CutsInput {X = Unit {0}} (TakesEntry puts) (LeavesEntry puts gives_up) most_file_bytes (Err e) rest text old new → PutsFile (puts old.revision) gives_up (Err e) rest text old.batch.now new.batch.now
put_err puts gives_up (Cut (Refused r)) rest text old new some (whole, inl told) = record { ends = (whole, inl told.0); put = some }
put_err puts gives_up (Cut (Refused r)) rest text old new some (whole, inr told) = record { ends = (whole, inr told.0); put = some }
put_err puts gives_up (Cut (Fault f)) rest text old new some cut = record { ends = cut.0; put = some }
put_err puts gives_up TooLong rest text old new some cut = record { ends = cut.0; put = some }
put_err puts gives_up ReadFault rest text old new some cut = record { ends = cut.0; put = some }

-- whatever the end, some were put
pub some_put : {K : Type 0} (puts : K → Item → Put → K → Type 0) (gives_up : K → K → Type 0) (r : Result Tally (InputEnd TableFault)) (rest : Option (List ℕ)) (text : List ℕ) (old new : K) → PutsFile puts gives_up r rest text old new → PutSome puts gives_up old new
some_put puts gives_up (Ok tally) rest text old new file = (entries_of (lines_of text), tally, inl file.put)
some_put puts gives_up (Err end) rest text old new file = file.put
