use Rattle.std.proofs.Common.{[], ◌∷◌, ◌++◌, refl, codes, ◌∙◌}
use Rattle.pid_tables.specs.Rows.Faults.{IsMemoryOrStore, IsNotNewerSchema}
use Rattle.pid_tables.specs.Rows.Schema.{meta, account, item, submission, remark, receipt, item_since}
use Rattle.pid_tables.proofs.OfRows.CauseLemmas.{passed_on}
use Rattle.pid_tables.proofs.OfRows.GoingLemmas.{earlier, goes_then}
use Rattle.pid_tables.specs.Statements.{item_since_text}
use Rattle.pid_tables.specs.Steps.Making.{first_statements, rest_statements}
use Rattle.pid_tables.specs.Steps.MakingTables.{CreatesInTurn}
use Rattle.pid_tables.proofs.Carrying.{carried_both, carried_then}
use Rattle.pid_tables.proofs.CreateTexts.{meta_creates, account_creates, item_creates, submission_creates, remark_creates, receipt_creates, item_since_creates}
use Rattle.pid_tables.proofs.MakerTexts.{create_meta, create_account, create_item, create_submission, create_remark, create_receipt, meta_maker, account_maker, item_maker, submission_maker, remark_maker, receipt_maker, item_since_maker}
use Rattle.pid_tables.proofs.MetLemmas.{took_then, took_both}
use Rattle.pid_tables.proofs.MoveLemmas.{goes_fault, goes_fault_after, not_on_ok}
use Rattle.pid_tables.proofs.creation.make_tables.Goals as goal

first_made : CreatesInTurn [] ((create_meta, meta) ∷ (create_account, account) ∷ (create_item, item) ∷ [])
first_made = (meta_creates, refl, (account_creates, refl, (item_creates, refl, tt)))

next_made : CreatesInTurn (meta ∷ account ∷ item ∷ []) ((create_submission, submission) ∷ (create_remark, remark) ∷ (create_receipt, receipt) ∷ [])
next_made = (submission_creates, refl, (remark_creates, refl, (receipt_creates, refl, tt)))

pub returns-in_err-make_three : goal.returns-in_err-make_three
returns-in_err-make_three g c = record {
  works =
      record {
        same_reference = c.make_three.ensures.works.same_reference;
        goes =
            goes_fault (g.B.Batch.batch.state c.args.tx.now) (g.B.Batch.batch.state c.make_three.new.tx) _ c.from_residual.result c.from_residual.ensures.1 c.in_err-make_three.ensures.works.goes;
        carried = λ clean inside. not_on_ok c.from_residual.result _ _ c.from_residual.ensures.1;
      };
  made = λ clean inside made. passed_on c.from_residual.result _ _ IsMemoryOrStore c.from_residual.ensures.1 (c.in_err-make_three.ensures.made [] meta account item first_made clean inside made);
  takes = λ clean inside. passed_on c.from_residual.result _ _ IsNotNewerSchema c.from_residual.ensures.1 (c.in_err-make_three.ensures.takes (codes "meta") (codes "account") (codes "item") meta_maker account_maker item_maker clean inside);
}

pub returns-in_err-make_three-2 : goal.returns-in_err-make_three-2
returns-in_err-make_three-2 g c = record {
  works =
      record {
        same_reference = c.make_three-2.ensures.works.same_reference ∙ c.make_three.ensures.works.same_reference;
        goes =
            goes_fault_after (g.B.Batch.batch.state c.args.tx.now) (g.B.Batch.batch.state c.make_three.new.tx) (g.B.Batch.batch.state c.make_three-2.new.tx) _ _ c.from_residual-in_err-make_three-2.result c.from_residual-in_err-make_three-2.ensures.1 c.in_ok-make_three.ensures.works.goes c.in_err-make_three-2.ensures.works.goes;
        carried = λ clean inside. not_on_ok c.from_residual-in_err-make_three-2.result _ _ c.from_residual-in_err-make_three-2.ensures.1;
      };
  made = λ clean inside made.
      let first = earlier (g.B.Batch.batch.state c.make_three.new.tx) (g.B.Batch.batch.state c.make_three-2.new.tx) c.make_three-2.ensures.works.goes.survives clean in
      let one = c.in_ok-make_three.ensures in
      passed_on c.from_residual-in_err-make_three-2.result _ _ IsMemoryOrStore c.from_residual-in_err-make_three-2.ensures.1
      (c.in_err-make_three-2.ensures.made (meta ∷ account ∷ item ∷ []) submission remark receipt next_made clean (one.works.goes.going first inside).1 (λ opened. one.made [] meta account item first_made first inside made));
  takes = λ clean inside.
      let first = earlier (g.B.Batch.batch.state c.make_three.new.tx) (g.B.Batch.batch.state c.make_three-2.new.tx) c.make_three-2.ensures.works.goes.survives clean in
      passed_on c.from_residual-in_err-make_three-2.result _ _ IsNotNewerSchema c.from_residual-in_err-make_three-2.ensures.1 (c.in_err-make_three-2.ensures.takes (codes "submission") (codes "remark") (codes "receipt") submission_maker remark_maker receipt_maker clean (c.in_ok-make_three.ensures.works.goes.going first inside).1);
}

pub returns : goal.returns
returns g c = record {
  works =
      record {
        same_reference = c.make_table.ensures.works.same_reference ∙ (c.make_three-2.ensures.works.same_reference ∙ c.make_three.ensures.works.same_reference);
        goes =
            let a = g.B.Batch.batch.state c.make_three.new.tx in
            let end = g.B.Batch.batch.state c.make_table.new.tx in
            goes_then (g.B.Batch.batch.state c.args.tx.now) a end _ c.make_table.result c.in_ok-make_three.ensures.works.goes
            (goes_then a (g.B.Batch.batch.state c.make_three-2.new.tx) end _ c.make_table.result c.in_ok-make_three-2.ensures.works.goes c.make_table.ensures.works.goes);
        carried = λ clean inside.
            let a = c.args.tx.now in
            let b = c.make_three.new.tx in
            let d = c.make_three-2.new.tx in
            let e = c.make_table.new.tx in
            let second = earlier (g.B.Batch.batch.state d) (g.B.Batch.batch.state e) c.make_table.ensures.works.goes.survives clean in
            let first = earlier (g.B.Batch.batch.state b) (g.B.Batch.batch.state d) c.make_three-2.ensures.works.goes.survives second in
            let one = c.in_ok-make_three.ensures in
            let two = c.in_ok-make_three-2.ensures in
            let within = (one.works.goes.going first inside).1 in
            carried_then g.B.Batch.batch.state (first_statements ++ rest_statements) ((item_since_text, []) ∷ []) a d e c.make_table.result
            (carried_both g.B.Batch.batch.state first_statements rest_statements a b d (one.works.carried first inside) (two.works.carried second within))
            (c.make_table.ensures.works.carried clean (two.works.goes.going second within).1);
      };
  made = λ clean inside made.
      let second = earlier (g.B.Batch.batch.state c.make_three-2.new.tx) (g.B.Batch.batch.state c.make_table.new.tx) c.make_table.ensures.works.goes.survives clean in
      let first = earlier (g.B.Batch.batch.state c.make_three.new.tx) (g.B.Batch.batch.state c.make_three-2.new.tx) c.make_three-2.ensures.works.goes.survives second in
      let one = c.in_ok-make_three.ensures in
      let two = c.in_ok-make_three-2.ensures in
      let within = (one.works.goes.going first inside).1 in
      c.make_table.ensures.made (meta ∷ account ∷ item ∷ submission ∷ remark ∷ receipt ∷ []) item_since item_since_creates refl clean (two.works.goes.going second within).1
      (λ opened. two.made (meta ∷ account ∷ item ∷ []) submission remark receipt next_made second within (λ opened. one.made [] meta account item first_made first inside made));
  takes = λ clean inside.
      let a = g.B.Batch.batch.state c.args.tx.now in
      let b = g.B.Batch.batch.state c.make_three.new.tx in
      let d = g.B.Batch.batch.state c.make_three-2.new.tx in
      let e = g.B.Batch.batch.state c.make_table.new.tx in
      let second = earlier d e c.make_table.ensures.works.goes.survives clean in
      let first = earlier b d c.make_three-2.ensures.works.goes.survives second in
      let one = c.in_ok-make_three.ensures in
      let two = c.in_ok-make_three-2.ensures in
      let within = (one.works.goes.going first inside).1 in
      took_then (codes "meta" ∷ codes "account" ∷ codes "item" ∷ codes "submission" ∷ codes "remark" ∷ codes "receipt" ∷ []) (codes "item_since" ∷ []) a.now.schema d.now.schema e.now.schema
      (took_both (codes "meta" ∷ codes "account" ∷ codes "item" ∷ []) (codes "submission" ∷ codes "remark" ∷ codes "receipt" ∷ []) a.now.schema b.now.schema d.now.schema (one.takes (codes "meta") (codes "account") (codes "item") meta_maker account_maker item_maker first inside) (two.takes (codes "submission") (codes "remark") (codes "receipt") submission_maker remark_maker receipt_maker second within))
      c.make_table.result (c.make_table.ensures.takes (codes "item_since") item_since_maker clean (two.works.goes.going second within).1);
}
