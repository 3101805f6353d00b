use Rattle.std.proofs.Common.{[], ◌∷◌, ◌++◌, Bool, ap, sym, ◌∙◌, arith}
use Rattle.std.specs.Prelude.{if◌then◌else◌}
use Rattle.pid_tables.proofs.OfCheck.AuthorFacts.{in_turn, out_of_turn}
use Rattle.pid_tables.proofs.check.authors.insert_place.Goals as goal

pub returns-then-submission-len-clause-added : goal.returns-then-submission-len-clause-added
returns-then-submission-len-clause-added c n k =
    let old = c.args.turn.now.items in
    in_turn old c.push.new.self.items c.args.others.now c.args.submission c.args.place (omega (arith, c.if-submission-gt0.true, c.if-submission-len.true, c.len.ensures)) (c.push.ensures.items ∙ ap (λ (pushed : Bool). if pushed then old ++ c.args.place ∷ [] else old) (sym c.if-not-pushed.ensures.value)) n k

pub returns-in-Ok-clause-added : goal.returns-in-Ok-clause-added
returns-in-Ok-clause-added c = out_of_turn c.args.turn.now.items c.args.others.now c.insert.new.self c.args.submission c.args.place c.in-Ok.ensures.updates.0
