-- What became of a writer, and of a line that it was to take.
use Rattle.std.specs.Prelude.{◌≡◌, ℕ, ◌⊎◌, List, Option, Some, Result, IsSome, IfErr}
use Rattle.std.specs.Io.KnownBytes.{Appends}
use Rattle.pid_file.specs.Sending.{Sends, SendsFront}
use Rattle.pid_file.specs.declared.io.Output.{Ghosts}
use Rattle.pid_file.specs.declared.io.WriteFault.{WriteFault}

-- what a writer had taken before it was used and after that, and the fault that it keeps then
pub record WriterUse : Type 0 where
  pub before : Option (List ℕ)
  pub after : Option (List ℕ)
  pub fault : Option WriteFault

abbrev pub use_of : {W : Type 0} → Ghosts W → W → W → WriterUse
use_of writer old new = record {
  before = writer.taken old;
  after = writer.taken new;
  fault = writer.write_fault new;
}

-- the writer failed, and took a prefix of the line that lacks some of it
abbrev pub FailsWithin : WriterUse → List ℕ → Type 0
FailsWithin w line = IsSome w.fault × SendsFront w.before w.after line

-- the writer took the line, or it failed within it
abbrev pub TriesLine : WriterUse → List ℕ → Type 0
TriesLine w line = Appends w.before w.after line ⊎ FailsWithin w line

-- the writer took all of the bytes, or at a fault, which it keeps, a prefix of them that lacks some
pub record Writes {W X : Type 0} (writer : Ghosts W) (result : Result X WriteFault) (old new : W)
    (bytes : List ℕ) : Type 0 where
  pub sent : Sends result (writer.taken old) (writer.taken new) bytes
  pub fault : IfErr result (λ f. writer.write_fault new ≡ Some f)
