use Rattle.std.proofs.Common.{ap, ◌∙◌, ℕ, List}
use Rattle.std.specs.Bool.{one_answer}
use Rattle.std.specs.Cmp.Lexicographic.{bytes_decides}
use Rattle.std.specs.Prelude.{codes}
use Rattle.std.specs.Str.{str_eq_ignore_ascii_case}
use Rattle.pid_http_stream.proofs.Closing.{trimmed}
use Rattle.pid_http_stream.proofs.connection.is_close.Goals as goal

pub returns : goal.returns
returns c =
    one_answer _ _ c.eq_ignore_ascii_case.ensures.test (bytes_decides _ _)
    ∙ ap (λ (w : List ℕ). str_eq_ignore_ascii_case w (codes "close")) {x = c.trim_end.result.now} (trimmed c.args.word.now _ _ c.trim_start.ensures c.trim_end.ensures)
