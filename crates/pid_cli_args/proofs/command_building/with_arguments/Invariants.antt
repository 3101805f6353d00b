use Rattle.std.proofs.Common.{take}
use Rattle.std.specs.List.{fold}
use Rattle.clap.specs.Words.{app_of}
use Rattle.pid_cli_args.specs.Steps.Tables.{IsCommand, with_argument}
use Rattle.pid_cli_args.proofs.command_building.with_arguments.Given as goal

abbrev pub invariant-loop-argument : goal.invariant-loop-argument
invariant-loop-argument l = IsCommand (fold with_argument (app_of l.initial.command) (take l.argument-index l.arguments)) l.command
