use Rattle.std.proofs.Common.{ap, ◌∙◌}
use Rattle.clap.specs.Simple.{app_of_fields}
use Rattle.pid_cli_args.specs.Commands.{with_version}
use Rattle.pid_cli_args.proofs.command_table.program.Goals as goal

pub returns : goal.returns
returns c = ap app_of_fields c.override_help.ensures ∙ ap app_of_fields c.override_usage.ensures
    ∙ ap app_of_fields c.version.ensures ∙ ap with_version c.new.ensures.app
