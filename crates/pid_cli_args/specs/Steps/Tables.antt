-- What the tables of commands in the source say, in the words of `Commands`.
use Rattle.std.specs.Prelude.{◌≡◌, false}
use Rattle.std.specs.List.{fold}
use Rattle.clap.specs.Words.{App, Rule, app_of, new_app, rule_of, with_subcommand}
use Rattle.clap.specs.declared.builder.arg.Arg.{Arg}
use Rattle.clap.specs.declared.builder.command.Command.{Command}
use Rattle.clap.specs.declared.builder.command.Command.TheViews.{out-Command}
use Rattle.pid_cli_args.specs.Commands.{Connections, Needed, Operand, Parameter, Port, Spare}
use Rattle.pid_cli_args.specs.Commands.{with_parameter}
use Rattle.pid_cli_args.specs.declared.command_building.Argument.{Argument}
use Rattle.pid_cli_args.specs.declared.command_building.Argument.TheVariants as arguments
use Rattle.pid_cli_args.specs.declared.command_building.Row.{Row}

-- an argument, and a subcommand
abbrev pub parameter_of : Argument → Parameter
parameter_of (arguments.Needed name value) = Needed name.now
parameter_of (arguments.Spare name value) = Spare name.now
parameter_of (arguments.Operand name value) = Operand name.now
parameter_of arguments.Port = Port
parameter_of arguments.Connections = Connections

abbrev pub with_argument : App → Argument → App
with_argument app argument = with_parameter app (parameter_of argument)

abbrev pub app_of_row : Row → App
app_of_row row = fold with_argument (new_app row.0.now) row.3.now

abbrev pub with_row : App → Row → App
with_row app row = with_subcommand app (app_of_row row).top

-- an argument with this rule, and a command that is this one; those below it take over no argument
abbrev pub IsArg : Rule → Arg → Type 0
IsArg rule arg = (rule_of arg ≡ rule) × (arg.global ≡ false)

abbrev pub IsCommand : App → Command → Type 0
IsCommand app command = (app_of command ≡ app) × ((out-Command command).has_globals ≡ false)
