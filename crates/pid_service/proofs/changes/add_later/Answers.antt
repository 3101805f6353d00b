use Rattle.std.proofs.Common.{[], ◌∷◌, ◌++◌, cond, map, ap, sym, ◌∙◌}
use Rattle.std.proofs.lemmas.List.{append-nil}
use Rattle.pid_moderation.specs.ChangePages.{changed_of}
use Rattle.pid_service.proofs.changes.add_later.Goals as goal

pub returns-then-is_later : goal.returns-then-is_later
returns-then-is_later c on = c.add_copy.ensures on ∙ sym (ap (λ b. map changed_of c.args.page.now.items ++ cond b (changed_of c.args.item.now ∷ []) []) (sym c.is_later.ensures ∙ c.if-is_later.true))

pub returns-else-is_later : goal.returns-else-is_later
returns-else-is_later c on = sym (ap (λ b. map changed_of c.args.page.now.items ++ cond b (changed_of c.args.item.now ∷ []) []) (sym c.is_later.ensures ∙ c.if-is_later.false) ∙ append-nil (map changed_of c.args.page.now.items))
