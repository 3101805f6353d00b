use Rattle.std.proofs.Common.{◌≡◌, true, Option, rules, subst}
use Rattle.std.specs.Prelude.{is_none}
use Rattle.pid_service.proofs.Words.{HoldsText, KeptText}
use Rattle.pid_service.proofs.TopItems.{top_found}
use Rattle.pid_service.proofs.kept_views.KeptViews.children.Goals as goal

pub returns-in-Some : goal.returns-in-Some
returns-in-Some c v right =
    let none : is_none c.args.above ≡ true = search rules in
    top_found c.args.self.now.top c.in-Some.top c.copied.result c.args.above v c.in-Some.is none (rw c.as_slice.ensures.value at c.copied.ensures) right.top

pub returns-then-is_sooner_in_text : goal.returns-then-is_sooner_in_text
returns-then-is_sooner_in_text c v right = c.children_in.ensures v.items (subst (λ (t : Option KeptText). HoldsText t v.items) c.in-Some-text.is right.text)

pub returns-in_default-text : goal.returns-in_default-text
returns-in_default-text c v right = tt

pub returns-else-is_sooner_in_text : goal.returns-else-is_sooner_in_text
returns-else-is_sooner_in_text c v right = tt
