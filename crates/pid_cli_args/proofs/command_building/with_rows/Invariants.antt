use Rattle.std.proofs.Common.{◌≡◌, take}
use Rattle.std.specs.List.{fold}
use Rattle.clap.specs.Words.{app_of}
use Rattle.pid_cli_args.specs.Steps.Tables.{with_row}
use Rattle.pid_cli_args.proofs.command_building.with_rows.Given as goal

abbrev pub invariant-loop-row : goal.invariant-loop-row
invariant-loop-row l = app_of l.command ≡ fold with_row (app_of l.initial.command) (take l.row-index l.rows)
