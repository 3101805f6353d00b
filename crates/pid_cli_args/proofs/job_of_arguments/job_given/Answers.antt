use Rattle.std.proofs.Common.{ap, sym, ◌∙◌}
use Rattle.std.specs.Box.{box_value}
use Rattle.clap.specs.Words.{found_of, rows_of}
use Rattle.clap.specs.declared.parser.matches.ArgMatches.TheViews.{out-ArgMatches, out-SubCommand}
use Rattle.pid_cli_args.specs.Jobs.{task_given}
use Rattle.pid_cli_args.proofs.Values.{pairs}
use Rattle.pid_cli_args.proofs.job_of_arguments.job_given.Goals as goal

pub returns-in-Some : goal.returns-in-Some
returns-in-Some c =
    let said = c.in-Some.ensures in
    let found = pairs (λ b. (out-SubCommand (box_value b)).name.now) (λ b. rows_of (found_of (out-SubCommand (box_value b)).matches)) (out-ArgMatches c.args.matches.now).subcommand
    c.in-Some.name.now (rows_of (found_of c.in-Some.given.now)) said.name said.rows in
    c.job_named.ensures ∙ ap task_given (sym found)
