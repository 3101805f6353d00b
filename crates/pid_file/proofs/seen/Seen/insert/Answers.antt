use Rattle.std.proofs.Common.{◌≡◌, ◌∙◌, sym, ap, subst, not, ◌++◌, ◌∷◌, [], if◌then◌else◌}
use Rattle.std.specs.Cmp.{nat_cmp_total}
use Rattle.std.specs.Ordering.{nat_cmp}
use Rattle.pid_file.specs.Steps.SeenPaths.{IsOneMore}
use Rattle.pid_file.proofs.Rising.{run_one_more, rest_one_more}
use Rattle.pid_file.proofs.seen.Seen.insert.Goals as goal

pub returns-then-is_above_run-clause-updates : goal.returns-then-is_above_run-clause-updates
returns-then-is_above_run-clause-updates c up added =
    let old = c.args.self.now in
    let pushed = c.is_err.ensures.negation ∙ ap not c.if-is_err.false in
    let items : c.push.new.self.items ≡ old.run.items ++ c.args.item ∷ [] = c.push.ensures.items ∙ ap (λ b. if b then old.run.items ++ c.args.item ∷ [] else old.run.items) pushed in
    subst (λ l. IsOneMore nat_cmp (old.run.items ++ old.rest.keys) c.args.item (l ++ old.rest.keys)) (sym items) (run_one_more nat_cmp nat_cmp_total old.run.items old.rest.keys c.args.item)

pub returns-in-Ok-clause-updates : goal.returns-in-Ok-clause-updates
returns-in-Ok-clause-updates c up added =
    let old = c.args.self.now in
    rest_one_more nat_cmp nat_cmp_total old.run.items old.rest.keys c.insert.new.self.keys c.args.item (λ q. c.in-Ok.ensures.updates.0 q)
