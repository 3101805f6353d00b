use Rattle.std.proofs.Common.{◌≡◌, map, ap, subst, ◌∙◌}
use Rattle.pid_service.proofs.Words.{entry_in, HoldsPending, numbers_pending}
use Rattle.pid_tables.proofs.OfCheck.Asking.{nothing_read}
use Rattle.pid_service.proofs.PendingNumbers.{page_numbered}
use Rattle.pid_service.proofs.Questions.{reads_as}
use Rattle.pid_service.proofs.pending.queue_by.Goals as goal

pub returns-in_default : goal.returns-in_default
returns-in_default g c = reads_as g.C.Database c.args.tables.now.conn c.queue_page.new.self.conn c.queue_page.result _ _ (λ v queue told holds. told) c.queue_page.ensures

pub returns-in-Some-numbers_above : goal.returns-in-Some-numbers_above
returns-in-Some-numbers_above g c =
    reads_as g.C.Database c.args.tables.now.conn c.queue_at.new.self.conn c.queue_at.result _ _
    (λ v queue told holds.
    let held : c.in-Some.numbers.items ≡ numbers_pending v = subst (λ o. HoldsPending o v) c.in-Some.is holds in
    told
    ∙ ap (map (entry_in v)) (page_numbered v 100 c.args.after c.as_slice.result.now c.as_slice-in-Some-numbers_above.result.now (c.as_slice.ensures.value ∙ held) (c.as_slice-in-Some-numbers_above.ensures.value ∙ c.in-Some-numbers_above.ensures)))
    c.queue_at.ensures

pub returns-in-None : goal.returns-in-None
returns-in-None g c = record { rests = nothing_read (g.C.Database.state c.args.tables.now.conn) c.args.tables.now.settled; told = λ clean v rest readable. tt }
