use Rattle.std.proofs.Common.{sym, ap, ◌∙◌, arith}
use Rattle.pid_file.specs.Words.{is_name as name_test}
use Rattle.pid_file.proofs.WordTests.{name_said}
use Rattle.pid_file.proofs.name.is_name.Goals as goal

pub returns : goal.returns
returns c =
    c.are_printed.ensures
    ∙ name_said _ c.as_bytes-bytes.ensures.utf8 (sym c.is_empty.ensures ∙ c.if-is_empty.false) (omega (arith, c.as_bytes-bytes.ensures.len)) (sym c.begins_blank.ensures ∙ c.if-begins_blank.false)
    ∙ ap name_test c.as_bytes-bytes.ensures.value
