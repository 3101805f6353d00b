use Rattle.std.proofs.Common.{◌∙◌, arith, sym}
use Rattle.std.proofs.lemmas.List.Sums.{fold_more}
use Rattle.clap.specs.Words.{app_of, with_subcommand}
use Rattle.pid_cli_args.specs.Steps.Tables.{with_row}
use Rattle.pid_cli_args.proofs.command_building.with_rows.Goals as goal

pub loop-row-preserved : goal.loop-row-preserved
loop-row-preserved c = c.in_ok-command.ensures.shape c.in-Ok.ensures.1
    ∙ (λ k. with_subcommand (c.loop-row.invariant k) (c.in-Ok.ensures.0 k).top)
    ∙ sym (fold_more with_row (app_of c.args.command) c.args.rows.now c.loop-row.row-index _ (omega (arith, c.loop-row-test.true)))
