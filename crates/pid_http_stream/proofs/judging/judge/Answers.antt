use Rattle.std.proofs.Common.{rules, subst, inl, ℕ}
use Rattle.httparse.specs.Spans.{RequestOverflows}
use Rattle.pid_http_stream.proofs.HeadReads.{begins_whole}
use Rattle.pid_http_stream.proofs.Heads.{refused_head, long_head}
use Rattle.pid_http_stream.proofs.judging.judge.Goals as goal

pub returns-then-spans-gt-LONGEST_HEAD : goal.returns-then-spans-gt-LONGEST_HEAD
returns-then-spans-gt-LONGEST_HEAD c = λ more. inl (long_head _ more _ _ (rw c.in-Ok-Complete.field-0-is at c.in-Ok-Complete.ensures.within) (rw c.in-Ok-Complete.field-0-is at c.in-Ok-Complete.ensures.complete) c.if-spans-gt-LONGEST_HEAD.true)

pub judge_unended-requires-clause-begins : goal.judge_unended-requires-clause-begins
judge_unended-requires-clause-begins c = begins_whole c.args.held.now (rw c.in-Ok-Partial.field-0-is at c.in-Ok-Partial.ensures.unfinished)

pub returns-in-Ok-Partial : goal.returns-in-Ok-Partial
returns-in-Ok-Partial c = c.judge_unended.ensures _

pub returns-in-Err : goal.returns-in-Err
returns-in-Err c = λ more. inl (refused_head _ more (subst (λ (room : ℕ). RequestOverflows room c.args.held.now) (search rules) c.in-Err.ensures.no_room))
