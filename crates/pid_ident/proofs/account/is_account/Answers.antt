use Rattle.std.proofs.Common.{sym, ap, ◌∙◌, arith}
use Rattle.pid_file.specs.Words.{is_account}
use Rattle.pid_file.proofs.WordTests.{account_said}
use Rattle.pid_ident.proofs.account.is_account.Goals as goal

pub returns : goal.returns
returns c =
    c.are_account_bytes.ensures
    ∙ account_said _ (sym c.is_empty.ensures ∙ c.if-is_empty.false) (omega (arith, c.as_bytes-bytes.ensures.len))
    ∙ ap is_account c.as_bytes-bytes.ensures.value
