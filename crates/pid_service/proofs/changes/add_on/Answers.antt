use Rattle.std.proofs.Common.{[], ◌∷◌, ◌++◌, cond, map, ap, sym, ◌∙◌}
use Rattle.std.proofs.lemmas.List.{append-nil}
use Rattle.pid_moderation.specs.ChangePages.{changed_of}
use Rattle.pid_service.proofs.changes.add_on.Goals as goal

pub returns-then-is_on : goal.returns-then-is_on
returns-then-is_on c on = c.add_copy.ensures on ∙ sym (ap (λ b. map changed_of c.args.page.now.items ++ cond b (changed_of c.args.item.now ∷ []) []) (sym c.is_on.ensures ∙ c.if-is_on.true))

pub returns-else-is_on : goal.returns-else-is_on
returns-else-is_on c on = sym (ap (λ b. map changed_of c.args.page.now.items ++ cond b (changed_of c.args.item.now ∷ []) []) (sym c.is_on.ensures ∙ c.if-is_on.false) ∙ append-nil (map changed_of c.args.page.now.items))
