use Rattle.std.proofs.Common.{[], ◌∷◌, ◌++◌, ◌∙◌}
use Rattle.pid_tables.specs.Rows.Faults.{IsMemoryOrStore, IsNotNewerSchema}
use Rattle.pid_tables.proofs.OfRows.CauseLemmas.{passed_on}
use Rattle.pid_tables.proofs.OfRows.GoingLemmas.{earlier, goes_then}
use Rattle.pid_tables.proofs.Carrying.{carried_both, carried_then}
use Rattle.pid_tables.proofs.MetLemmas.{took_then, took_both}
use Rattle.pid_tables.proofs.MoveLemmas.{goes_fault, goes_fault_after, not_on_ok}
use Rattle.pid_tables.proofs.creation.make_three.Goals as goal

pub returns-in_err-make_table : goal.returns-in_err-make_table
returns-in_err-make_table g c = record {
  works =
      record {
        same_reference = c.make_table.ensures.works.same_reference;
        goes =
            goes_fault (g.B.Batch.batch.state c.args.tx.now) (g.B.Batch.batch.state c.make_table.new.tx) _ c.from_residual.result c.from_residual.ensures.1 c.in_err-make_table.ensures.works.goes;
        carried = λ clean inside. not_on_ok c.from_residual.result _ _ c.from_residual.ensures.1;
      };
  made = λ before a b d turn clean inside made. passed_on c.from_residual.result _ _ IsMemoryOrStore c.from_residual.ensures.1 (c.in_err-make_table.ensures.made before a turn.0 turn.1 clean inside made);
  takes = λ one_name two_name three_name one_made two_made three_made clean inside. passed_on c.from_residual.result _ _ IsNotNewerSchema c.from_residual.ensures.1 (c.in_err-make_table.ensures.takes one_name one_made clean inside);
}

pub returns-in_err-make_table-2 : goal.returns-in_err-make_table-2
returns-in_err-make_table-2 g c = record {
  works =
      record {
        same_reference = c.make_table-2.ensures.works.same_reference ∙ c.make_table.ensures.works.same_reference;
        goes =
            goes_fault_after (g.B.Batch.batch.state c.args.tx.now) (g.B.Batch.batch.state c.make_table.new.tx) (g.B.Batch.batch.state c.make_table-2.new.tx) _ _ c.from_residual-in_err-make_table-2.result c.from_residual-in_err-make_table-2.ensures.1 c.in_ok-make_table.ensures.works.goes c.in_err-make_table-2.ensures.works.goes;
        carried = λ clean inside. not_on_ok c.from_residual-in_err-make_table-2.result _ _ c.from_residual-in_err-make_table-2.ensures.1;
      };
  made = λ before a b d turn clean inside made.
      let first = earlier (g.B.Batch.batch.state c.make_table.new.tx) (g.B.Batch.batch.state c.make_table-2.new.tx) c.make_table-2.ensures.works.goes.survives clean in
      let one = c.in_ok-make_table.ensures in
      passed_on c.from_residual-in_err-make_table-2.result _ _ IsMemoryOrStore c.from_residual-in_err-make_table-2.ensures.1
      (c.in_err-make_table-2.ensures.made (before ++ a ∷ []) b turn.2.0 turn.2.1 clean (one.works.goes.going first inside).1 (λ opened. one.made before a turn.0 turn.1 first inside made));
  takes = λ one_name two_name three_name one_made two_made three_made clean inside.
      let first = earlier (g.B.Batch.batch.state c.make_table.new.tx) (g.B.Batch.batch.state c.make_table-2.new.tx) c.make_table-2.ensures.works.goes.survives clean in
      passed_on c.from_residual-in_err-make_table-2.result _ _ IsNotNewerSchema c.from_residual-in_err-make_table-2.ensures.1
      (c.in_err-make_table-2.ensures.takes two_name two_made clean (c.in_ok-make_table.ensures.works.goes.going first inside).1);
}

pub returns : goal.returns
returns g c = record {
  works =
      record {
        same_reference = c.make_table-3.ensures.works.same_reference ∙ (c.make_table-2.ensures.works.same_reference ∙ c.make_table.ensures.works.same_reference);
        goes =
            let a = g.B.Batch.batch.state c.make_table.new.tx in
            let end = g.B.Batch.batch.state c.make_table-3.new.tx in
            goes_then (g.B.Batch.batch.state c.args.tx.now) a end _ c.make_table-3.result c.in_ok-make_table.ensures.works.goes
            (goes_then a (g.B.Batch.batch.state c.make_table-2.new.tx) end _ c.make_table-3.result c.in_ok-make_table-2.ensures.works.goes c.make_table-3.ensures.works.goes);
        carried = λ clean inside.
            let a = c.args.tx.now in
            let b = c.make_table.new.tx in
            let d = c.make_table-2.new.tx in
            let e = c.make_table-3.new.tx in
            let second = earlier (g.B.Batch.batch.state d) (g.B.Batch.batch.state e) c.make_table-3.ensures.works.goes.survives clean in
            let first = earlier (g.B.Batch.batch.state b) (g.B.Batch.batch.state d) c.make_table-2.ensures.works.goes.survives second in
            let one = c.in_ok-make_table.ensures in
            let two = c.in_ok-make_table-2.ensures in
            let within = (one.works.goes.going first inside).1 in
            carried_then g.B.Batch.batch.state ((c.args.first.now, []) ∷ (c.args.second.now, []) ∷ []) ((c.args.third.now, []) ∷ []) a d e c.make_table-3.result
            (carried_both g.B.Batch.batch.state ((c.args.first.now, []) ∷ []) ((c.args.second.now, []) ∷ []) a b d (one.works.carried first inside) (two.works.carried second within))
            (c.make_table-3.ensures.works.carried clean (two.works.goes.going second within).1);
      };
  made = λ before a b d turn clean inside made.
      let second = earlier (g.B.Batch.batch.state c.make_table-2.new.tx) (g.B.Batch.batch.state c.make_table-3.new.tx) c.make_table-3.ensures.works.goes.survives clean in
      let first = earlier (g.B.Batch.batch.state c.make_table.new.tx) (g.B.Batch.batch.state c.make_table-2.new.tx) c.make_table-2.ensures.works.goes.survives second in
      let one = c.in_ok-make_table.ensures in
      let two = c.in_ok-make_table-2.ensures in
      let within = (one.works.goes.going first inside).1 in
      c.make_table-3.ensures.made ((before ++ a ∷ []) ++ b ∷ []) d turn.2.2.0 turn.2.2.1 clean (two.works.goes.going second within).1
      (λ opened. two.made (before ++ a ∷ []) b turn.2.0 turn.2.1 second within (λ opened. one.made before a turn.0 turn.1 first inside made));
  takes = λ one_name two_name three_name one_made two_made three_made clean inside.
      let a = g.B.Batch.batch.state c.args.tx.now in
      let b = g.B.Batch.batch.state c.make_table.new.tx in
      let d = g.B.Batch.batch.state c.make_table-2.new.tx in
      let e = g.B.Batch.batch.state c.make_table-3.new.tx in
      let second = earlier d e c.make_table-3.ensures.works.goes.survives clean in
      let first = earlier b d c.make_table-2.ensures.works.goes.survives second in
      let one = c.in_ok-make_table.ensures in
      let two = c.in_ok-make_table-2.ensures in
      let within = (one.works.goes.going first inside).1 in
      took_then (one_name ∷ two_name ∷ []) (three_name ∷ []) a.now.schema d.now.schema e.now.schema
      (took_both (one_name ∷ []) (two_name ∷ []) a.now.schema b.now.schema d.now.schema (one.takes one_name one_made first inside) (two.takes two_name two_made second within))
      c.make_table-3.result (c.make_table-3.ensures.takes three_name three_made clean (two.works.goes.going second within).1);
}
