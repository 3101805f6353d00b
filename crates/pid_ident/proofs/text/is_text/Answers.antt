use Rattle.std.proofs.Common.{ap, ◌∙◌, arith}
use Rattle.pid_file.specs.Words.{is_text}
use Rattle.pid_file.proofs.WordTests.{text_said}
use Rattle.pid_ident.proofs.text.is_text.Goals as goal

pub returns : goal.returns
returns c = c.are_printed.ensures ∙ text_said _ c.as_bytes-bytes.ensures.utf8 (omega (arith, c.as_bytes-bytes.ensures.len)) ∙ ap is_text c.as_bytes-bytes.ensures.value
