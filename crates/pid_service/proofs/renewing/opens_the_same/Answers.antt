use Rattle.std.proofs.Common.{ap, sym, ◌∙◌}
use Rattle.std.specs.Option.{option_copied}
use Rattle.pid_service.proofs.Renewed.{first_opens, none_opens, same_bools}
use Rattle.pid_service.proofs.renewing.opens_the_same.Goals as goal

pub returns-in-Some : goal.returns-in-Some
returns-in-Some c is =
    first_opens _ _ c.args.extents.now c.in-Some.extent.now (sym c.first.ensures.value ∙ ap option_copied c.in-Some.is)
    (sym c.opened_block.ensures.opens ∙ sym c.is_some-was.ensures ∙ sym (same_bools c.is_some.result c.is_some-was.result is) ∙ c.is_some.ensures ∙ c.opened_block-in-Some.ensures.opens)

pub returns-in-None : goal.returns-in-None
returns-in-None c is = none_opens _ _ c.args.extents.now (sym c.first.ensures.value ∙ ap option_copied c.in-None.is)
