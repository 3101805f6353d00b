-- Steps of Importing.
use Rattle.std.specs.Prelude.{◌≡◌, Result, Ok, Err}
use Rattle.sqlite.specs.State.{State}
use Rattle.pid_moderation.specs.declared.command.Reply.{Reply}
use Rattle.pid_moderation.specs.History.{Asked, History}
use Rattle.pid_moderation.specs.Judgement.{judge, answer, after}
use Rattle.pid_moderation.specs.Views.{views_of}
use Rattle.pid_tables.specs.Rows.Steps.Within.{Written}
use Rattle.pid_tables.specs.Rows.Shows.{counts_of}
use Rattle.pid_tables.specs.declared.put_file.Stop.{Stop}
use Rattle.pid_tables.specs.declared.put_file.Stop.TheVariants as stops
use Rattle.pid_tables.specs.Faults.{IsMemoryOrStore}
use Rattle.pid_tables.specs.Importing.{RefusesImport}

-- what a transaction shows in which the file was put and the rest of the import was written, or not
abbrev pub Applies : Result Reply Stop → State → History → Asked → Type 0
Applies (Ok reply) s h c = (answer (judge (views_of h) c) ≡ Ok reply)
    × Written (counts_of (views_of (after h c))) s (views_of h) (views_of (after h c))
Applies (Err stops.Body) s h c = ⊥
Applies (Err (stops.Refused e)) s h c = RefusesImport h c e
Applies (Err (stops.Failed e)) s h c = IsMemoryOrStore e
