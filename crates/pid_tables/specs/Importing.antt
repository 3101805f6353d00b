-- An import of a file, step by step.
use Rattle.std.specs.Prelude.{◌≡◌, ◌≢◌, ◌⊎◌, ◌+◌, ◌≤◌, ℕ, List, length, Option, IsSome}
use Rattle.std.specs.Prelude.{Result, Ok, Err}
use Rattle.sqlite.specs.State.{State}
use Rattle.pid_reader.specs.WholeInputs.{IsWhole}
use Rattle.pid_moderation.specs.declared.command.Reply.{Reply}
use Rattle.pid_moderation.specs.declared.refusal.Refusal.{Refusal}
use Rattle.pid_moderation.specs.declared.refusal.Refusal.TheVariants as refusals
use Rattle.pid_moderation.specs.declared.refusal.Refusal.TheVariants.{Memory}
use Rattle.pid_moderation.specs.CheckTables.{most_file_bytes}
use Rattle.pid_moderation.specs.History.{Asked, History}
use Rattle.pid_moderation.specs.Judgement.{judge, answer, after}
use Rattle.pid_moderation.specs.Views.{views_of}
use Rattle.pid_tables.specs.Rows.Leaves.{AtRest, LeavesEither}
use Rattle.pid_tables.specs.declared.put_file.Stop.{Stop}
use Rattle.pid_tables.specs.declared.put_file.Stop.TheVariants as stops
use Rattle.pid_tables.specs.Faults.{IsMemoryOrStore}

-- the judgement refuses, and nothing changes; or there was no memory
abbrev pub RefusesImport : History → Asked → Refusal → Type 0
RefusesImport h c e = ((answer (judge (views_of h) c) ≡ Err e) × (after h c ≡ h)) ⊎ (e ≡ Memory)

-- What an answer to an import says: how much of the input was read, by what is still to come and
-- the text that came, and what the transaction leaves of a history and the import.
pub record ImportEnding : Type 1 where
  pub read : Option (List ℕ) → List ℕ → Type 0
  pub leaves : State → History → Asked → Type 0

abbrev pub ending_of : Result Reply Stop → ImportEnding
-- the whole input was read, and the tables show the history with the import
ending_of (Ok reply) = record {
  read = λ rest text. IsWhole most_file_bytes rest text;
  leaves = λ s h c. (answer (judge (views_of h) c) ≡ Ok reply) × AtRest s (views_of (after h c));
}
-- what came before the fault of the input was read, and they show the history
ending_of (Err stops.Body) = record {
  read = λ rest text. length text ≤ most_file_bytes;
  leaves = λ s h c. AtRest s (views_of h);
}
-- they show the history; one byte more than a file may have is a broken form
ending_of (Err (stops.Refused e)) = record {
  read = λ rest text. IsWhole most_file_bytes rest text
      ⊎ ((e ≡ refusals.BadText) × (length text ≡ most_file_bytes + 1));
  leaves = λ s h c. AtRest s (views_of h) × RefusesImport h c e;
}
-- what a crash may leave shows the history with the import or without it
ending_of (Err (stops.Failed e)) = record {
  read = λ rest text. IsWhole most_file_bytes rest text;
  leaves = λ s h c. LeavesEither s (views_of h) (views_of (after h c)) × IsMemoryOrStore e;
}

abbrev pub EndsImport : Result Reply Stop → State → History → Asked → Type 0
EndsImport result s h c = (ending_of result).leaves s h c

abbrev pub ReadsFile : Result Reply Stop → Option (List ℕ) → List ℕ → Type 0
ReadsFile result rest text = (ending_of result).read rest text

-- it reports a fault of the input exactly when the input has one
pub record TellsReadFault {F : Type 0} (result : Result Reply Stop) (fault : Option F)
    : Type 0 where
  pub told : result ≡ Err stops.Body → IsSome fault
  pub first : IsSome fault → result ≡ Err stops.Body

-- it does not say that the registry had failed before
abbrev pub StopIsNotFailed : Stop → Type 0
StopIsNotFailed stops.Body = Unit {0}
StopIsNotFailed (stops.Refused e) = e ≢ refusals.Failed
StopIsNotFailed (stops.Failed e) = e ≢ refusals.Failed
