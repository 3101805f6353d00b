-- How a file that is brought in ends.
use Rattle.std.proofs.Common.{◌≡◌, ◌≢◌, ◌⊎◌, inl, inr, ℕ, ◌<◌, ◌+◌, ◌-◌, ◌^◌, min, true, List, length, Option, Some, Result, Ok, Err, refl, sym, ap, subst, ◌∙◌, arith}
use Rattle.sqlite.specs.State.{State}
use Rattle.pid_reader.specs.LookingBack.{Item}
use Rattle.pid_file.specs.declared.refusal.ReadRefusal.{ReadRefusal}
use Rattle.pid_file.specs.declared.refusal.ReadRefusal.TheVariants as reads
use Rattle.pid_file.specs.declared.sink.CutEnd.TheVariants as cuts
use Rattle.pid_file.specs.declared.whole_input.InputEnd.{InputEnd}
use Rattle.pid_file.specs.declared.whole_input.InputEnd.TheVariants as ends
use Rattle.pid_reader.specs.Lines.{lines_of}
use Rattle.pid_reader.specs.Reading.{entries_of, refused}
use Rattle.pid_reader.specs.WholeInputs.{IsWhole}
use Rattle.pid_moderation.specs.declared.command.Command.{Command}
use Rattle.pid_moderation.specs.declared.command.Reply.{Reply}
use Rattle.pid_moderation.specs.declared.facts.Facts.{Facts}
use Rattle.pid_moderation.specs.declared.refusal.FileFault.TheVariants as faults
use Rattle.pid_moderation.specs.declared.refusal.Refusal.{Refusal}
use Rattle.pid_moderation.specs.declared.refusal.Refusal.TheVariants as refusals
use Rattle.pid_moderation.specs.CheckTables.{most_file_bytes}
use Rattle.pid_moderation.specs.History.{Asked, History, asked, is_import}
use Rattle.pid_moderation.specs.Views.{Views, views_of}
use Rattle.pid_tables.specs.declared.rows.fault.TableFault.{TableFault}
use Rattle.pid_tables.specs.Rows.Leaves.{AtRest, LeavesEither}
use Rattle.pid_tables.specs.declared.putting.Put.{Put}
use Rattle.pid_tables.specs.declared.put_file.Stop.{Stop}
use Rattle.pid_tables.specs.declared.put_file.Stop.TheVariants as stops
use Rattle.pid_tables.specs.declared.tally.Tally.{Tally}
use Rattle.pid_moderation.specs.Files.{file_reading, read_as}
use Rattle.pid_tables.specs.Faults.{IsMemoryOrStore}
use Rattle.pid_tables.specs.Importing.{StopIsNotFailed, ReadsFile, EndsImport}
use Rattle.pid_tables.specs.Steps.ImportParts.{IsNext, IsStopOf}
use Rattle.pid_tables.specs.Steps.Importing.{Applies}
use Rattle.pid_tables.specs.Judging.{IsOpen}
use Rattle.pid_tables.specs.Steps.PutFiles.{PutsFile}
use Rattle.pid_tables.proofs.Judged.{faulty, long_refused}
use Rattle.pid_tables.proofs.Readings.{short_reading}

-- the number that an import is given is that of one command more, if it can be counted
pub next_of : (revision n : ℕ) → n ≡ min (revision + 1) (2 ^ 64 - 1) → IsNext revision n
next_of revision n is below = omega (arith, is, below)

pub ok_apart : {X E : Type 0} (x : X) (e : E) → ◌≡◌ {A = Result X E} (Ok x) (Err e) → ⊥
ok_apart x e same = cc

pub refused_apart : (e : Refusal) → stops.Refused e ≢ stops.Body
refused_apart e same = cc

pub failed_apart : (e : Refusal) → stops.Failed e ≢ stops.Body
failed_apart e same = cc

leaves_first : (s : State) (v w : Views) → AtRest s v → LeavesEither s v w
leaves_first s v w rest = record { each = λ clean db may. inl (rest.leaves.each clean db may) }

refused_as : (r : ReadRefusal) (o : Option ReadRefusal) → r ≢ reads.Memory → ((o ≡ Some r) ⊎ (r ≡ reads.Memory)) → o ≡ Some r
refused_as r o other (inl told) = told
refused_as r o other (inr memory) = absurd (other memory)

one_over : (n : ℕ) → n ≡ most_file_bytes + 1 → most_file_bytes < n
one_over n is = omega (arith, is)

module _ {K : Type 0} (puts : K → Item → Put → K → Type 0) (gives_up : K → K → Type 0) (rest : Option (List ℕ)) (text : List ℕ) (old new : K) where
  pub left_read : (end : InputEnd TableFault) (stop : Stop) → IsStopOf end stop → PutsFile puts gives_up (Err end) rest text old new → ReadsFile (Err stop) rest text
  left_read ends.ReadFault stop is put = subst (λ (s : Stop). ReadsFile (Err s) rest text) (sym is) put.ends
  left_read ends.TooLong stop is put = subst (λ (s : Stop). ReadsFile (Err s) rest text) (sym is) (inr (refl, put.ends))
  left_read (ends.Cut (cuts.Refused (reads.Line line kind))) stop is put = subst (λ (s : Stop). ReadsFile (Err s) rest text) (sym is) (inl put.ends.0)
  left_read (ends.Cut (cuts.Refused reads.TooManyEntries)) stop is put = subst (λ (s : Stop). ReadsFile (Err s) rest text) (sym is) (inl put.ends.0)
  left_read (ends.Cut (cuts.Refused reads.Memory)) stop is put = subst (λ (s : Stop). ReadsFile (Err s) rest text) (sym is) put.ends.0
  left_read (ends.Cut (cuts.Fault f)) stop is put = subst (λ (s : Stop). ReadsFile (Err s) rest text) (sym is.1) put.ends

  pub left_stops : (end : InputEnd TableFault) (stop : Stop) (s : State) (h : History) (command : Command) (g : Facts) → IsStopOf end stop → PutsFile puts gives_up (Err end) rest text old new → is_import command.act ≡ true → IsOpen h command g
      → AtRest s (views_of h) → EndsImport (Err stop) s h (asked command (file_reading text))
  left_stops ends.ReadFault stop s h command g is put import open_ at = subst (λ (x : Stop). EndsImport (Err x) s h (asked command (file_reading text))) (sym is) at
  left_stops ends.TooLong stop s h command g is put import open_ at =
      subst (λ (x : Stop). EndsImport (Err x) s h (asked command (file_reading text))) (sym is) (at, inl (long_refused h command text import (one_over (length text) put.ends)))
  left_stops (ends.Cut (cuts.Refused (reads.Line line kind))) stop s h command g is put import open_ at =
      let no = refused_as (reads.Line line kind) (refused text) (λ (e : reads.Line line kind ≡ reads.Memory). let none : ⊥ = cc in none) put.ends.1 in
      subst (λ (x : Stop). EndsImport (Err x) s h (asked command (file_reading text))) (sym is)
      (at, faulty h command g (file_reading text) (faults.Line line kind) import open_ (short_reading text put.ends.0.short ∙ ap (λ (o : Option ReadRefusal). read_as o (entries_of (lines_of text))) no))
  left_stops (ends.Cut (cuts.Refused reads.TooManyEntries)) stop s h command g is put import open_ at =
      let no = refused_as reads.TooManyEntries (refused text) (λ (e : reads.TooManyEntries ≡ reads.Memory). let none : ⊥ = cc in none) put.ends.1 in
      subst (λ (x : Stop). EndsImport (Err x) s h (asked command (file_reading text))) (sym is)
      (at, faulty h command g (file_reading text) faults.TooMany import open_ (short_reading text put.ends.0.short ∙ ap (λ (o : Option ReadRefusal). read_as o (entries_of (lines_of text))) no))
  left_stops (ends.Cut (cuts.Refused reads.Memory)) stop s h command g is put import open_ at =
      subst (λ (x : Stop). EndsImport (Err x) s h (asked command (file_reading text))) (sym is) (leaves_first s _ _ at, inl refl)
  left_stops (ends.Cut (cuts.Fault f)) stop s h command g (e, is, fault, same) put import open_ at =
      subst (λ (x : Stop). EndsImport (Err x) s h (asked command (file_reading text))) (sym is) (leaves_first s _ _ at, fault)

pub body_end : (end : InputEnd TableFault) (stop : Stop) → IsStopOf end stop → stop ≡ stops.Body → end ≡ ends.ReadFault
body_end ends.ReadFault stop is body = refl
body_end ends.TooLong stop is body = absurd (let e = sym is ∙ body in let no : ⊥ = cc in no)
body_end (ends.Cut (cuts.Refused (reads.Line line kind))) stop is body = absurd (let e = sym is ∙ body in let no : ⊥ = cc in no)
body_end (ends.Cut (cuts.Refused reads.TooManyEntries)) stop is body = absurd (let e = sym is ∙ body in let no : ⊥ = cc in no)
body_end (ends.Cut (cuts.Refused reads.Memory)) stop is body = absurd (let e = sym is ∙ body in let no : ⊥ = cc in no)
body_end (ends.Cut (cuts.Fault f)) stop (x, is, fault, same) body = absurd (let e = sym is ∙ body in let no : ⊥ = cc in no)

pub end_body : (end : InputEnd TableFault) (stop : Stop) → IsStopOf end stop → end ≡ ends.ReadFault → stop ≡ stops.Body
end_body end stop is fault = subst (λ (e : InputEnd TableFault). IsStopOf e stop) fault is

pub applied_stops : (stop : Stop) (s t : State) (h : History) (c : Asked) → Applies (Err stop) t h c → AtRest s (views_of h) → EndsImport (Err stop) s h c
applied_stops stops.Body s t h c applied at = absurd applied
applied_stops (stops.Refused e) s t h c applied at = (at, applied)
applied_stops (stops.Failed e) s t h c applied at = (leaves_first s _ _ at, applied)

pub applied_read : (stop : Stop) (rest : Option (List ℕ)) (text : List ℕ) → IsWhole most_file_bytes rest text → ReadsFile (Err stop) rest text
applied_read stops.Body rest text whole = whole.short
applied_read (stops.Refused e) rest text whole = inl whole
applied_read (stops.Failed e) rest text whole = whole

pub err_is : (a b : Stop) → ◌≡◌ {A = Result Reply Stop} (Err a) (Err b) → a ≡ b
err_is a b e = cc

pub end_is : (a b : InputEnd TableFault) → ◌≡◌ {A = Result Tally (InputEnd TableFault)} (Err a) (Err b) → a ≡ b
end_is a b e = cc

fault_live : (e : Refusal) → IsMemoryOrStore e → e ≢ refusals.Failed
fault_live e (inl memory) bad = let both = sym memory ∙ bad in let no : ⊥ = cc in no
fault_live e (inr store) bad = let both = sym store ∙ bad in let no : ⊥ = cc in no

pub stop_live : (end : InputEnd TableFault) (stop : Stop) → IsStopOf end stop → StopIsNotFailed stop
stop_live ends.ReadFault stop is = subst StopIsNotFailed (sym is) tt
stop_live ends.TooLong stop is = subst StopIsNotFailed (sym is) (λ bad. let no : ⊥ = cc in no)
stop_live (ends.Cut (cuts.Refused (reads.Line line kind))) stop is = subst StopIsNotFailed (sym is) (λ bad. let no : ⊥ = cc in no)
stop_live (ends.Cut (cuts.Refused reads.TooManyEntries)) stop is = subst StopIsNotFailed (sym is) (λ bad. let no : ⊥ = cc in no)
stop_live (ends.Cut (cuts.Refused reads.Memory)) stop is = subst StopIsNotFailed (sym is) (λ bad. let no : ⊥ = cc in no)
stop_live (ends.Cut (cuts.Fault f)) stop (e, is, fault, same) = subst StopIsNotFailed (sym is) (fault_live e fault)
