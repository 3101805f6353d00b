use Rattle.std.proofs.Common.{sym, ap, ◌∙◌, arith}
use Rattle.pid_file.specs.Words.{is_key}
use Rattle.pid_file.proofs.WordTests.{key_said}
use Rattle.pid_ident.proofs.key.is_key.Goals as goal

pub returns : goal.returns
returns c =
    c.are_key_bytes.ensures
    ∙ key_said _ (sym c.is_empty.ensures ∙ c.if-is_empty.false) (omega (arith, c.as_bytes-bytes.ensures.len))
    ∙ ap is_key c.as_bytes-bytes.ensures.value
