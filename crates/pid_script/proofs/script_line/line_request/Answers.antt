use Rattle.std.proofs.Common.{◌∙◌, ap, arith}
use Rattle.std.proofs.lemmas.Str.{is_utf8-from_IsUtf8}
use Rattle.pid_file.proofs.LineLemmas.{not_utf8}
use Rattle.pid_script.specs.ScriptLines.{text_ask}
use Rattle.pid_script.proofs.ScriptAsks.{too_long, no_text, a_text}
use Rattle.pid_script.proofs.script_line.line_request.Goals as goal

pub returns-then-line-gt-LONGEST_LINE : goal.returns-then-line-gt-LONGEST_LINE
returns-then-line-gt-LONGEST_LINE c = too_long c.args.line.now (omega arith)

pub returns-in-Ok : goal.returns-in-Ok
returns-in-Ok c = c.text_request.ensures ∙ ap text_ask c.in-Ok.ensures.cases.0 ∙ a_text c.args.line.now (omega arith) (is_utf8-from_IsUtf8 _ c.in-Ok.ensures.cases.1)

pub returns-in-Err : goal.returns-in-Err
returns-in-Err c = no_text c.args.line.now (omega arith) (not_utf8 _ c.in-Err.ensures.cases.0)
