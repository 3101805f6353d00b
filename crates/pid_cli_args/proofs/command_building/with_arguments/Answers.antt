use Rattle.std.proofs.Common.{◌||◌, ◌∙◌, arith, sym}
use Rattle.std.proofs.lemmas.List.Sums.{fold_more}
use Rattle.clap.specs.Words.{app_of, with_rule}
use Rattle.pid_cli_args.specs.Steps.Tables.{with_argument}
use Rattle.pid_cli_args.proofs.command_building.with_arguments.Goals as goal

pub loop-argument-preserved : goal.loop-argument-preserved
loop-argument-preserved c =
    let adds = c.in_ok-command.ensures in (
      adds.shape c.arg_of.ensures.1 ∙ (λ k. with_rule (c.loop-argument.invariant.0 k) (c.arg_of.ensures.0 k))
          ∙ sym (fold_more with_argument (app_of c.args.command) c.args.arguments.now c.loop-argument.argument-index _ (omega (arith, c.loop-argument-test.true))),
      adds.globals ∙ (λ k. c.loop-argument.invariant.1 k || c.arg_of.ensures.1 k),
    )
