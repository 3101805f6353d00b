use Rattle.std.proofs.Common.{Some, ap, ◌∙◌}
use Rattle.clap.specs.Words.{rule_of}
use Rattle.clap.specs.declared.builder.arg.Arg.{Arg}
use Rattle.pid_cli_args.proofs.command_building.option_of.Goals as goal

pub returns : goal.returns
returns c =
    let named = ap rule_of c.value_name.ensures ∙ (λ k. record (c.new.ensures.rule k) { value_names = 1 }) in
    let is_global = λ (a : Arg). a.global in (
      ap rule_of c.long.ensures ∙ (λ k. record (named k) { long = Some c.args.name.now }),
      ap is_global c.long.ensures ∙ ap is_global c.value_name.ensures ∙ c.new.ensures.optional.1,
    )
