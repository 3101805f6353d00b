use Rattle.std.proofs.Common.{[], ◌∷◌, ◌++◌, Err, List, ℕ, sym, subst, append_assoc}
use Rattle.pid_script.specs.Steps.Output.{out, SaysText}
use Rattle.pid_script.proofs.SayLemmas.{said_more, says_then, front_within, front_behind}
use Rattle.pid_script.proofs.reply.say_line.Goals as goal

pub returns-in-Err : goal.returns-in-Err
returns-in-Err g c =
    let old = out g.O.Output c.args.output.now c.args.held.now.items in
    let new = out g.O.Output c.say.new.output c.say.new.held.items in
    subst (λ (l : List ℕ). SaysText (Err c.in-Err.end) old new l) (sym (append_assoc c.args.word.now c.args.text.now (10 ∷ [])))
    (c.in-Err.ensures.0, front_within old new c.args.word.now (c.args.text.now ++ 10 ∷ []) c.in-Err.ensures.1)

pub returns-in-Err-say : goal.returns-in-Err-say
returns-in-Err-say g c =
    let old = out g.O.Output c.args.output.now c.args.held.now.items in
    let mid = out g.O.Output c.say.new.output c.say.new.held.items in
    let new = out g.O.Output c.say-2.new.output c.say-2.new.held.items in
    (c.in-Err-say.ensures.0, front_within old new (c.args.word.now ++ c.args.text.now) (10 ∷ []) (front_behind old mid new c.args.word.now c.args.text.now c.in_default.ensures c.in-Err-say.ensures.1))

pub returns : goal.returns
returns g c =
    let old = out g.O.Output c.args.output.now c.args.held.now.items in
    let mid = out g.O.Output c.say.new.output c.say.new.held.items in
    let more = out g.O.Output c.say-2.new.output c.say-2.new.held.items in
    said_more c.say-3.result old more (out g.O.Output c.say-3.new.output c.say-3.new.held.items) (c.args.word.now ++ c.args.text.now) (10 ∷ []) (says_then old mid more c.args.word.now c.args.text.now c.in_default.ensures c.in_default-say.ensures) c.say-3.ensures
