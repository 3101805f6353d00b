use Rattle.std.proofs.Common.{◌∙◌, sym, subst, IfErr}
use Rattle.std.proofs.lemmas.Result.{err_from_is_err_and}
use Rattle.sqlite.specs.Values.{bound}
use Rattle.pid_tables.proofs.OfRows.ReadLemmas.{shown_passes, fails_keeping}
use Rattle.pid_tables.specs.Rows.Faults.{IsMemoryOrStore, IsNotNewerSchema}
use Rattle.sqlite.specs.Held.{state}
use Rattle.pid_tables.specs.Rows.Causes.{IsCaused}
use Rattle.pid_tables.proofs.MoveLemmas.{not_on_ok}
use Rattle.pid_tables.proofs.OfRows.CauseLemmas.{caused, no_value}
use Rattle.pid_tables.proofs.OfRows.FaultLemmas.{only_store, not_later}
use Rattle.pid_tables.proofs.connection.TransactionBatch.read_inside.Goals as goal

pub returns-in_err-query_all : goal.returns-in_err-query_all
returns-in_err-query_all g c = record {
  same_reference = c.query_all.ensures.same_reference;
  goes =
      let fails = c.in_err-query_all.ensures.err in
      record {
        survives = c.query_all.ensures.survives;
        was_open = λ clean opened. (fails_keeping c.args.sql.now (bound c.args.params.now) _ _ _ (fails clean) opened).0;
        committed = λ clean inside opened. (fails_keeping c.args.sql.now (bound c.args.params.now) _ _ _ (fails clean) opened).1;
        going = λ clean inside. not_on_ok c.from_residual.result _ _ c.from_residual.ensures.1;
      };
  shown = λ clean. no_value c.from_residual.result _ _ c.from_residual.ensures.1;
  faults =
      let p = err_from_is_err_and c.from_residual.result c.from_residual.ensures.1 in
      let old = state g.S.Store c.args.self.now.conn.now in
      let new = state g.S.Store c.query_all.new.self.conn.now in
      record {
        only_store = λ clean schema has plain. subst (λ r. IfErr r IsMemoryOrStore) (sym p.1) (subst IsMemoryOrStore (sym p.2) (only_store c.args.sql.now (bound c.args.params.now) _ _ has plain _ (c.in_err-query_all.ensures.err clean)));
        caused = λ clean schema has query. subst (λ r. IfErr r (IsCaused old new)) (sym p.1) (subst (IsCaused old new) (sym p.2) (caused c.args.sql.now (bound c.args.params.now) old new has query _ (c.in_err-query_all.ensures.err clean)));
        never = subst (λ r. IfErr r IsNotNewerSchema) (sym p.1) (subst IsNotNewerSchema (sym p.2) (not_later _));
      };
}

pub returns : goal.returns
returns g c = record {
  same_reference = c.query_all.ensures.same_reference;
  goes =
      let shown = c.in_ok-query_all.ensures.ok in
      let rows = c.in_ok-query_all.field-0.items in
      record {
        survives = c.query_all.ensures.survives;
        was_open = λ clean opened. (shown_passes c.args.sql.now (bound c.args.params.now) _ _ rows (shown clean)).was_open;
        committed = λ clean inside opened. (shown_passes c.args.sql.now (bound c.args.params.now) _ _ rows (shown clean)).committed inside;
        going = λ clean inside. let passes = shown_passes c.args.sql.now (bound c.args.params.now) _ _ rows (shown clean) in (passes.is_open, passes.mode ∙ inside);
      };
  shown = c.in_ok-query_all.ensures.ok;
  faults = record { only_store = λ clean schema has plain. tt; caused = λ clean schema has query. tt; never = tt };
}
