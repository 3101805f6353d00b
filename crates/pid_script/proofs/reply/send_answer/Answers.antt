use Rattle.pid_moderation.specs.ReplyLines.{outcome_line}
use Rattle.pid_script.specs.Steps.Output.{out, refusal_given}
use Rattle.pid_script.proofs.AnswerLines.{broken_goes, whole_goes, some_fault, said_broken, said_stopped, said_whole}
use Rattle.pid_script.proofs.SayLemmas.{Appends-then, front-before, front-then}
use Rattle.std.proofs.Common.{refl}
use Rattle.pid_script.proofs.reply.send_answer.Goals as goal

pub returns-in-Err-clause-told : goal.returns-in-Err-clause-told
returns-in-Err-clause-told g c = λ reply is.
    let old = out g.O.Output c.args.output.now c.args.held.now.items in
    let new = out g.O.Output c.flush.new.output c.flush.new.held.items in
    said_broken c.in-Err.end c.args.answer reply old new c.in-Err.ensures.0
    (front-before (g.O.Output.taken c.args.output.now) (g.O.Output.taken c.flush.new.output) c.args.held.now.items (outcome_line c.args.answer) c.in-Err.ensures.1, c.in-Err.ensures.2) is

pub returns-in_default-write_reply_line-clause-told : goal.returns-in_default-write_reply_line-clause-told
returns-in_default-write_reply_line-clause-told g c = λ reply is.
    let old = out g.O.Output c.args.output.now c.args.held.now.items in
    let new = out g.O.Output c.write_reply_line.new.out c.flush.new.held.items in
    said_broken _ c.args.answer reply old new refl
    (front-then (g.O.Output.taken c.args.output.now) (g.O.Output.taken c.flush.new.output) (g.O.Output.taken c.write_reply_line.new.out) c.args.held.now.items (outcome_line c.args.answer) c.in_default.ensures.0 c.in_default-write_reply_line.ensures.sent, some_fault _ _ c.in_default-write_reply_line.ensures.fault) is

pub returns-then-ends_script-clause-told : goal.returns-then-ends_script-clause-told
returns-then-ends_script-clause-told g c = λ reply is.
    let stop = c.ends_script.ensures.true_at c.if-ends_script.true in
    said_stopped c.args.answer reply stop.0 (out g.O.Output c.args.output.now c.args.held.now.items) (out g.O.Output c.write_reply_line.new.out c.flush.new.held.items)
    (Appends-then (g.O.Output.taken c.args.output.now) (g.O.Output.taken c.flush.new.output) (g.O.Output.taken c.write_reply_line.new.out) c.args.held.now.items (outcome_line c.args.answer) c.in_default.ensures.0 c.in-Ok.ensures.sent) stop.1 stop.2

pub returns-clause-told : goal.returns-clause-told
returns-clause-told g c = λ reply is.
    said_whole c.args.answer reply (out g.O.Output c.args.output.now c.args.held.now.items) (out g.O.Output c.write_reply_line.new.out c.flush.new.held.items)
    (Appends-then (g.O.Output.taken c.args.output.now) (g.O.Output.taken c.flush.new.output) (g.O.Output.taken c.write_reply_line.new.out) c.args.held.now.items (outcome_line c.args.answer) c.in_default.ensures.0 c.in-Ok.ensures.sent)
    c.in_default.ensures.1 (c.ends_script.ensures.false_at c.if-ends_script.false) is

pub returns-clause-goes_on : goal.returns-clause-goes_on
returns-clause-goes_on g c = whole_goes c.args.answer (c.ends_script.ensures.false_at c.if-ends_script.false)

pub returns-clause-empty : goal.returns-clause-empty
returns-clause-empty g c = c.in_default.ensures.1

pub returns-in-Err-clause-goes_on : goal.returns-in-Err-clause-goes_on
returns-in-Err-clause-goes_on g c = broken_goes c.in-Err.end (refusal_given c.args.answer) c.in-Err.ensures.0
