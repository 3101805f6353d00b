use Rattle.std.proofs.Common.{sym, ◌∙◌, ap, Err}
use Rattle.std.specs.Option.{option_copied}
use Rattle.std.proofs.lemmas.Result.{err_from_is_err_and}
use Rattle.pid_moderation.specs.Fields.{texts_of}
use Rattle.pid_moderation.specs.Forms.{form_checks, command_said}
use Rattle.pid_moderation.proofs.FormLemmas.{said_so, act_fails, sender_left, says_command}
use Rattle.pid_moderation.proofs.form.command_of.Goals as goal

pub returns-in_err-act : goal.returns-in_err-act
returns-in_err-act c =
    let p = err_from_is_err_and c.from_residual.result c.from_residual.ensures.1 in
    said_so (form_checks c.args.verb c.args.account.now (option_copied c.args.key) (texts_of c.args.fields.now)) (command_said c.args.verb c.args.account.now (option_copied c.args.key) (texts_of c.args.fields.now)) _ _ (p.1 ∙ ap Err p.2) (λ m. act_fails c.args.verb c.args.account.now (option_copied c.args.key) (texts_of c.args.fields.now) _ (sym c.has_fields.ensures ∙ c.if-not-has_fields.false) (c.in_err-act.ensures m))

pub returns-in-Err : goal.returns-in-Err
returns-in-Err c =
    λ m. sender_left c.args.verb c.args.account.now (option_copied c.args.key) (texts_of c.args.fields.now) (sym c.has_fields.ensures ∙ c.if-not-has_fields.false) c.in_ok-act.ensures.0 ∙ c.in-Err.ensures m

pub returns-in-Ok : goal.returns-in-Ok
returns-in-Ok c = says_command c.args.verb c.args.account.now (option_copied c.args.key) (texts_of c.args.fields.now) c.in_ok-act.act (c.in-Ok.account, c.in-Ok.key)
    (sym c.has_fields.ensures ∙ c.if-not-has_fields.false) c.in_ok-act.ensures.0 c.in_ok-act.ensures.1 c.in-Ok.ensures.0 c.in-Ok.ensures.1
