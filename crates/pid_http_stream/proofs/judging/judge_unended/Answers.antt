use Rattle.std.proofs.Common.{inl}
use Rattle.pid_http_stream.proofs.Heads.{no_head_yet}
use Rattle.pid_http_stream.proofs.judging.judge_unended.Goals as goal

pub returns-then-held-gt-LONGEST_HEAD : goal.returns-then-held-gt-LONGEST_HEAD
returns-then-held-gt-LONGEST_HEAD c = λ fields more. inl (no_head_yet _ more c.requires.none c.if-held-gt-LONGEST_HEAD.true)
