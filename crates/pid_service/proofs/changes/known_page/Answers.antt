use Rattle.std.proofs.Common.{◌≤◌, ℕ, List, arith, ap, map, subst, sym, ◌∙◌}
use Rattle.pid_service.proofs.Words.{changed_of, HoldsChanges, PAGE, start_text}
use Rattle.pid_service.proofs.ChangedLists.{page_kept}
use Rattle.pid_service.proofs.Questions.{none_changed}
use Rattle.pid_service.proofs.changes.known_page.Goals as goal

pub returns-then-revision-since : goal.returns-then-revision-since
returns-then-revision-since c v now most holds =
    let past = c.if-revision-since.true in
    let within : (path : List ℕ) → v.since path ≤ c.args.since = λ path. (let one = most path in omega (arith, one, now, past)) in
    ap (map changed_of) c.new.ensures.items ∙ sym (none_changed PAGE c.args.since (start_text c.args.after) v within)

pub returns : goal.returns
returns c v now most holds =
    let kept = c.in-Some.kept in
    page_kept kept v c.args.since (start_text c.args.after) c.later_items.result (subst (λ k. HoldsChanges k v) c.in-Some.is holds) (omega (arith, c.if-since-kept.false)) (rw c.as_slice.ensures.value at c.later_items.ensures)
