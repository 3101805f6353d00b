use Rattle.std.proofs.Common.{map, ap, ◌∙◌}
use Rattle.pid_moderation.specs.QueuePages.{entry_in}
use Rattle.pid_tables.proofs.ThenReads.{answer_after, fault_first}
use Rattle.pid_tables.proofs.tables.Tables.queue_page.Goals as goal

pub returns : goal.returns
returns g c =
    answer_after g.C.Database.state c.args.self.now.conn c.pending_page.new.self.conn c.queue_of.new.self.conn c.pending_page.ensures.rests c.queue_of.result c.queue_of.ensures
    (λ clean v rest x says. says ∙ ap (map (entry_in v)) (c.in_ok-page.ensures.told clean v rest))

pub returns-in_err-page : goal.returns-in_err-page
returns-in_err-page g c = fault_first g.C.Database.state c.args.self.now.conn c.pending_page.new.self.conn c.in_err-page.field-0.0 c.from_residual.result c.from_residual.ensures.1 c.in_err-page.ensures
