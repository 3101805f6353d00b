use Rattle.std.proofs.Common.{Err, Some, Option, refl, sym, ap, ◌∙◌}
use Rattle.pid_moderation.specs.FactsOfViews.{with_item_facts}
use Rattle.pid_moderation.specs.declared.facts.NamedSubmission.{NamedSubmission}
use Rattle.pid_tables.specs.Steps.Gathering.{bare}
use Rattle.pid_tables.proofs.ThenReads.{fault_after, fault_first, value_after}
use Rattle.pid_tables.proofs.tables.Tables.item_facts.Goals as goal

pub returns-in_err-submission_facts : goal.returns-in_err-submission_facts
returns-in_err-submission_facts g c = fault_first g.C.Database.state c.args.self.now.conn c.submission_facts.new.self.conn c.in_err-submission_facts.field-0.0 c.from_residual.result c.from_residual.ensures.1 c.in_err-submission_facts.ensures

pub returns-in-None : goal.returns-in-None
returns-in-None g c = record {
  rests = c.submission_facts.ensures.rests;
  told = λ clean v rest all parents. c.plain_facts.ensures ∙ ap (λ (o : Option NamedSubmission). with_item_facts v o (bare c.args.known)) (sym c.in-None.is ∙ c.in_ok-submission_facts.ensures.told clean v rest);
}

pub returns-in-Ok : goal.returns-in-Ok
returns-in-Ok g c =
    value_after g.C.Database.state c.args.self.now.conn c.submission_facts.new.self.conn c.place_at.new.self.conn c.submission_facts.ensures.rests _ _ c.in-Ok.ensures
    (λ clean v rest says all parents.
    let it = says all parents in
    (λ i. record (bare c.args.known) { items = (it i).items; named = Some c.in-Some.named; present = (it i).present; has_parent = (it i).has_parent; has_children = (it i).has_children })
    ∙ ap (λ (o : Option NamedSubmission). with_item_facts v o (bare c.args.known)) (sym c.in-Some.is ∙ c.in_ok-submission_facts.ensures.told clean v rest))

pub returns-in-Err : goal.returns-in-Err
returns-in-Err g c = fault_after g.C.Database.state c.args.self.now.conn c.submission_facts.new.self.conn c.place_at.new.self.conn c.submission_facts.ensures.rests c.in-Err.fault (Err c.in-Err.fault) refl c.in-Err.ensures
