-- Steps of Feeders.
use Rattle.std.specs.Prelude.{Option}
use Rattle.pid_file.specs.declared.refusal.ReadRefusal.{ReadRefusal}
use Rattle.pid_file.specs.declared.sink.CutEnd.{CutEnd}
use Rattle.pid_file.specs.declared.sink.CutEnd.TheVariants.{Refused, Fault}
use Rattle.pid_file.specs.declared.tree_sink.TreeFault.{TreeFault}
use Rattle.pid_file.specs.declared.tree_sink.TreeFault.TheVariants.{ParentMissing, Memory}
use Rattle.pid_reader.specs.declared.feeder.Feeder.{Feeder}
use Rattle.pid_file.specs.Refusals.{IsRefusal}

-- for a private function: why a whole text makes no tree: its refusal, or no memory. That a
-- parent is missing never comes.
abbrev pub IsTreeEnd : CutEnd TreeFault → Option ReadRefusal → Type 0
IsTreeEnd (Refused r) refusal = IsRefusal r refusal
IsTreeEnd (Fault ParentMissing) refusal = ⊥
IsTreeEnd (Fault Memory) refusal = Unit {0}
