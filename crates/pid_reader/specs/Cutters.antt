-- What a cutter holds of the text that it was fed. Callers need not open it: `new` makes it, and
-- `feed` and `finish` take it.
use Rattle.std.specs.Prelude.{◌≡◌, ℕ, List, Some, None}
use Rattle.pid_file.specs.declared.refusal.ReadRefusal.{ReadRefusal}
use Rattle.pid_file.specs.declared.refusal.ReadRefusal.TheVariants.{Memory}
use Rattle.pid_reader.specs.declared.cutter.Cutter.{Cutter}
use Rattle.pid_file.specs.declared.sink.CutEnd.{CutEnd}
use Rattle.pid_file.specs.declared.sink.CutEnd.TheVariants.{Refused, Fault}
use Rattle.pid_file.specs.OpenTexts.{IsLeftOpen}

-- the cutter was fed this text, whose whole lines weren't refused
pub record Holds (c : Cutter) (text : List ℕ) : Type 0 where
  pub running : c.stopped ≡ None
  pub is_open : IsLeftOpen c.text text

-- the cutter answers this refusal from then on
abbrev pub IsStopped : Cutter → ReadRefusal → Type 0
IsStopped c r = c.stopped ≡ Some r

-- the refusal that is answered from an end on; after a fault of the sink it is Memory
abbrev pub left_by : {F : Type 0} → CutEnd F → ReadRefusal
left_by (Refused r) = r
left_by (Fault f) = Memory
