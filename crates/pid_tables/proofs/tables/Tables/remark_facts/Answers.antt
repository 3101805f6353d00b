use Rattle.std.proofs.Common.{Err, refl, ap, ◌∙◌}
use Rattle.pid_moderation.specs.declared.facts.Facts.{Facts}
use Rattle.pid_tables.specs.Steps.Gathering.{bare}
use Rattle.pid_tables.proofs.ThenReads.{fault_after, fault_first, value_after}
use Rattle.pid_tables.proofs.tables.Tables.remark_facts.Goals as goal

pub returns-in_err-remarks : goal.returns-in_err-remarks
returns-in_err-remarks g c = fault_first g.C.Database.state c.args.self.now.conn c.remark_count.new.tables.conn c.in_err-remarks.field-0.0 c.from_residual.result c.from_residual.ensures.1 c.in_err-remarks.ensures

pub returns-in-Err : goal.returns-in-Err
returns-in-Err g c = fault_after g.C.Database.state c.args.self.now.conn c.remark_count.new.tables.conn c.submission_facts.new.self.conn c.remark_count.ensures.rests c.in-Err.fault (Err c.in-Err.fault) refl c.in-Err.ensures

pub returns-in-Ok : goal.returns-in-Ok
returns-in-Ok g c =
    value_after g.C.Database.state c.args.self.now.conn c.remark_count.new.tables.conn c.submission_facts.new.self.conn c.remark_count.ensures.rests _ _ c.in-Ok.ensures
    (λ clean v rest says.
    let count = c.in_ok-remarks.ensures.told clean v rest in
    ap (λ (f : Facts). record f { remarks = c.in_ok-remarks.remarks }) c.plain_facts-facts.ensures
    ∙ (λ i. record (bare c.args.known) { named = says i; remarks = count i }))
