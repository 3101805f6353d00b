-- What a feeder holds of the text that it was fed, and why it gives up. Callers need not open it.
use Rattle.std.specs.Prelude.{◌≡◌, ℕ, List}
use Rattle.std.specs.FinMap.{empty}
use Rattle.pid_file.specs.declared.refusal.ReadRefusal.{ReadRefusal}
use Rattle.pid_file.specs.declared.tree_sink.TreeSink.{TreeSink}
use Rattle.pid_reader.specs.declared.feeder.Feeder.{Feeder}
use Rattle.pid_file.specs.Numbered.{numbered_of}
use Rattle.pid_file.specs.WholeLines.{whole_lines}
use Rattle.pid_file.specs.Sinks.{Took}
use Rattle.pid_reader.specs.Cutters.{Holds, IsStopped}
use Rattle.pid_file.specs.TreeSinks.{SetsItem, tree_so_far}

-- the feeder was fed this text, whose whole lines weren't refused
pub record Feeds (f : Feeder) (text : List ℕ) : Type 0 where
  pub holds : Holds f.cutter text
  pub start : TreeSink
  pub empty_tree : tree_so_far start ≡ empty
  pub took : Took SetsItem start (numbered_of (whole_lines text)) f.sink

-- the feeder answers this refusal from then on
abbrev pub GaveUp : Feeder → ReadRefusal → Type 0
GaveUp f r = IsStopped f.cutter r
