use Rattle.std.proofs.Common.{◌≡◌, subst, ◌∙◌}
use Rattle.pid_service.specs.KeptViews.{HoldsPending, numbers_pending}
use Rattle.pid_tables.proofs.OfCheck.Asking.{nothing_read}
use Rattle.pid_service.proofs.PendingNumbers.{page_numbered}
use Rattle.pid_service.proofs.Questions.{reads_as}
use Rattle.pid_service.proofs.pending.pending_by.Goals as goal

pub returns-in_default : goal.returns-in_default
returns-in_default g c = reads_as g.C.Database c.args.tables.now.conn c.pending_page.new.self.conn c.pending_page.result _ _ (λ v page told holds. told) c.pending_page.ensures

pub returns-in-Some-numbers_above : goal.returns-in-Some-numbers_above
returns-in-Some-numbers_above g c =
    reads_as g.C.Database c.args.tables.now.conn c.pending_at.new.self.conn c.pending_at.result _ _
    (λ v page told holds.
    let held : c.in-Some.numbers.items ≡ numbers_pending v = subst (λ o. HoldsPending o v) c.in-Some.is holds in
    told ∙ page_numbered v 100 c.args.after c.as_slice.result.now c.as_slice-in-Some-numbers_above.result.now (c.as_slice.ensures.value ∙ held) (c.as_slice-in-Some-numbers_above.ensures.value ∙ c.in-Some-numbers_above.ensures))
    c.pending_at.ensures

pub returns-in-None : goal.returns-in-None
returns-in-None g c = record { rests = nothing_read (g.C.Database.state c.args.tables.now.conn) c.args.tables.now.settled; told = λ clean v rest readable. tt }
