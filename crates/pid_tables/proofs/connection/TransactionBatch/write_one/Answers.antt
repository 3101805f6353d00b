use Rattle.std.proofs.Common.{ℕ, sym, ap, subst, Ok, Err, IfErr, OnOk, inl, inr}
use Rattle.std.proofs.lemmas.Bool.{cases_Bool}
use Rattle.std.proofs.lemmas.Result.{err_from_is_err_and}
use Rattle.sqlite.specs.Values.{bound}
use Rattle.sqlite.specs.Held.{state}
use Rattle.sqlite.specs.State.{Executes}
use Rattle.sqlite.specs.declared.error.ErrorCode.TheVariants as code
use Rattle.sqlite.specs.declared.error.Error.TheVariants.{SqliteFailure}
use Rattle.pid_tables.specs.Rows.Faults.{IsMemoryOrStore, IsNotNewerSchema}
use Rattle.pid_tables.specs.Rows.Steps.Faults.{fault_of_sql}
use Rattle.pid_tables.proofs.MoveLemmas.{not_on_ok}
use Rattle.pid_tables.proofs.OfRows.FaultLemmas.{failed, not_later, refused_so}
use Rattle.pid_tables.proofs.OfRows.GoingLemmas.{one_goes}
use Rattle.pid_tables.proofs.OfRows.WriteFaults.{write_only_store}
use Rattle.pid_tables.proofs.connection.TransactionBatch.write_one.Goals as goal

pub returns-in_err-execute : goal.returns-in_err-execute
returns-in_err-execute g c = record {
  same_reference = c.execute.ensures.same_reference;
  goes =
      let old = state g.S.Store c.args.self.now.conn.now in
      let new = state g.S.Store c.execute.new.self.conn.now in
      one_goes c.args.sql.now (bound c.args.params.now) old new (Err c.in_err-execute.field-0.0) (λ ended. ap (state g.S.Store) (c.in_err-execute.ensures.ended ended).1) c.in_err-execute.ensures.runs
      c.from_residual.result c.execute.ensures.survives (λ clean inside. not_on_ok c.from_residual.result _ _ c.from_residual.ensures.1);
  runs =
      let p = err_from_is_err_and c.from_residual.result c.from_residual.ensures.1 in
      let old = state g.S.Store c.args.self.now.conn.now in
      let new = state g.S.Store c.execute.new.self.conn.now in
      record {
        ran = λ clean inside. subst (λ r. OnOk r ((count : ℕ) × Executes c.args.sql.now (bound c.args.params.now) old new (Ok count))) (sym p.1) tt;
        only_store = λ clean schema has write.
            let told : IsMemoryOrStore (fault_of_sql c.in_err-execute.field-0.0) = elim (cases_Bool old.in_transaction) [
              | inl inside ↦ write_only_store schema c.args.sql.now (bound c.args.params.now) old _ has write _ (c.in_err-execute.ensures.runs clean inside)
              | inr ended ↦ refused_so _ (SqliteFailure code.TransactionState) (c.in_err-execute.ensures.ended ended).0 (failed code.TransactionState)
            ] in
            subst (λ r. IfErr r IsMemoryOrStore) (sym p.1) (subst IsMemoryOrStore (sym p.2) told);
      };
  never =
      let p = err_from_is_err_and c.from_residual.result c.from_residual.ensures.1 in
      subst (λ r. IfErr r IsNotNewerSchema) (sym p.1) (subst IsNotNewerSchema (sym p.2) (not_later _));
}

pub returns : goal.returns
returns g c = record {
  same_reference = c.execute.ensures.same_reference;
  goes =
      let old = state g.S.Store c.args.self.now.conn.now in
      let new = state g.S.Store c.execute.new.self.conn.now in
      one_goes c.args.sql.now (bound c.args.params.now) old new (Ok c.in_ok-execute.field-0) (λ ended. ap (state g.S.Store) (c.in_ok-execute.ensures.ended ended).1) c.in_ok-execute.ensures.runs
      (Ok tt) c.execute.ensures.survives (λ clean inside. let shown = (c.in_ok-execute.ensures.runs clean inside).1 in (shown.is_open, shown.mode));
  runs = record { ran = λ clean inside. (c.in_ok-execute.field-0, (c.in_ok-execute.ensures.runs clean inside).0); only_store = λ clean schema has write. tt };
  never = tt;
}
