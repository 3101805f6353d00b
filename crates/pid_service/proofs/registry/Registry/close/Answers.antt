use Rattle.std.proofs.Common.{ap, subst, sym, ◌∙◌}
use Rattle.pid_tables.specs.Rows.Clauses.{AtRest}
use Rattle.pid_service.proofs.Words.{views_of}
use Rattle.pid_service.proofs.registry.Registry.close.Goals as goal

pub returns : goal.returns
returns g c = record {
  same = c.into_conn.ensures;
  settled = ap (λ k. (g.C.Database.state k).in_transaction) c.into_conn.ensures ∙ c.args.self.tables.settled;
  shown = λ h shows. subst (λ k. AtRest g.C.Database.state k (views_of h)) (sym c.into_conn.ensures) shows.tables;
}
