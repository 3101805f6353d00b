-- What the exit status of a process says about its text.
use Rattle.std.specs.Prelude.{◌≡◌, ℕ, ◌⊎◌, List, Option}
use Rattle.std.specs.Io.KnownBytes.{Appends, Keeps}
use Rattle.pid_file.specs.declared.text_end.TextEnd.{TextEnd}
use Rattle.pid_file.specs.Checked.{ok_line, count_of}
use Rattle.pid_file.specs.TextEnds.{fault_line, status_of}
use Rattle.pid_file.specs.Judgements.{IsFaultOf, IsGood}
use Rattle.pid_file.specs.Tidied.{Prints, Writers}

-- 0: the text is good; 1: it is not; 3: it was not judged, or the output could not be written
pub record IsStatusFor (text : List ℕ) (status : ℕ) : Type 0 where
  pub of_three : (status ≡ 0) ⊎ (status ≡ 1) ⊎ (status ≡ 3)
  pub good : status ≡ 0 → IsGood text
  pub refused : status ≡ 1 → ¬ (IsGood text)

-- one line was written: that of the fault for which the text is refused
pub record TellsRefusal (text : List ℕ) (old new : Option (List ℕ)) : Type 0 where
  pub end : TextEnd
  pub refused : status_of end ≡ 1
  pub is_fault : IsFaultOf end text
  pub told : Appends old new (fault_line end)

-- What `tidy` wrote by its exit status, and nothing else: to the output the canonical form of a good
-- text, or to the writer of faults the line of the first fault of a bad one.
pub record GotTidied (text : List ℕ) (status : ℕ) (w : Writers) : Type 0 where
  pub judged : IsStatusFor text status
  pub good : status ≡ 0 → Prints text w
  pub refused : status ≡ 1 → Keeps w.output w.output_after
      × TellsRefusal text w.faults w.faults_after

-- What `check` wrote by its exit status, and nothing else: to the output the count of a good text,
-- or the line of the first fault of a bad one.
pub record GotChecked (text : List ℕ) (status : ℕ) (w : Writers) : Type 0 where
  pub judged : IsStatusFor text status
  pub good : status ≡ 0 → Appends w.output w.output_after (ok_line (count_of text))
      × Keeps w.faults w.faults_after
  pub refused : status ≡ 1 → TellsRefusal text w.output w.output_after
      × Keeps w.faults w.faults_after
