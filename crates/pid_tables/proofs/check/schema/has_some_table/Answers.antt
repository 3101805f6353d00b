use Rattle.std.proofs.Common.{◌≡◌, ◌↔◌, arith, Bool, true, Ok, Err, Result, IfOk, IfErr, OnOk, MatchResult, IsTrue}
use Rattle.pid_tables.specs.declared.rows.schema_version.Version.TheVariants.{Two}
use Rattle.sqlite.specs.State.{State}
use Rattle.pid_moderation.specs.Views.{Views}
use Rattle.pid_tables.specs.declared.rows.fault.TableFault.{TableFault}
use Rattle.pid_tables.specs.Rows.Causes.{IsCaused, IsReadable}
use Rattle.pid_tables.specs.Rows.Leaves.{AtRest}
use Rattle.pid_tables.specs.Check.Shapes.{HasSomeTable}
use Rattle.pid_tables.proofs.OfCheck.Each.{if_ok}
use Rattle.pid_tables.proofs.OfCheck.Asking.{some_table}
use Rattle.pid_tables.proofs.OfCheck.Complete.{complete, each_some}
use Rattle.pid_tables.proofs.check.schema.has_some_table.Goals as goal

pub returns-clause-found : goal.returns-clause-found
returns-clause-found g c = record {
  asked = λ clean. if_ok c.some_can.result (λ asked judged. some_table (g.C.Database.state c.args.tables.now.conn).now.schema asked judged) (c.some_can.ensures.asks.asked clean);
  was_open = λ clean. c.some_can.ensures.was_open clean (omega arith);
  same = c.some_can.ensures.asks.same;
  only_store = c.some_can.ensures.asks.only_store;
}

-- where views are shown some table is there
told : (old new : State) (v : Views) (r : Result Bool TableFault) → AtRest old v → OnOk r (IsTrue old.is_open) → IfOk r (λ some. IsTrue some ↔ HasSomeTable old.now.schema) → IfErr r (IsCaused old new)
    → MatchResult r (λ some. some ≡ true) (λ fault. IsReadable v → IsCaused old new fault)
told old new v (Ok some) rest opened judged caused = judged.1 (each_some old.now.schema (complete Two old.now.schema (rest.shows opened).schema))
told old new v (Err e) rest opened judged caused = λ readable. caused

pub returns-clause-reads : goal.returns-clause-reads
returns-clause-reads g c = record {
  rests = c.some_can.ensures.asks.rests;
  told = λ clean v rest.
      told (g.C.Database.state c.args.tables.now.conn) (g.C.Database.state c.some_can.new.tables.conn) v c.some_can.result rest (c.some_can.ensures.was_open clean (omega arith)) (if_ok c.some_can.result (λ asked judged. some_table (g.C.Database.state c.args.tables.now.conn).now.schema asked judged) (c.some_can.ensures.asks.asked clean))
      (c.some_can.ensures.caused clean v rest);
}
