use Rattle.std.proofs.Common.{ℕ, List, [], ◌∷◌, ◌++◌, None, Ok, refl, codes, ◌∙◌}
use Rattle.sqlite.specs.declared.types.Value.TheVariants.{Text}
use Rattle.pid_tables.specs.Rows.TableRows.{number}
use Rattle.pid_tables.specs.Statements.{Statement, new_label_text}
use Rattle.pid_tables.proofs.Carrying.{carried_both, carried_then}
use Rattle.pid_tables.specs.Steps.MakingTables.{with_label}
use Rattle.pid_tables.specs.Rows.Faults.{IsMemoryOrStore, IsNotNewerSchema}
use Rattle.pid_tables.proofs.OfRows.CauseLemmas.{passed_on, passed_from}
use Rattle.pid_tables.proofs.OfRows.GoingLemmas.{earlier, goes_then}
use Rattle.pid_tables.proofs.MoveLemmas.{goes_fault, goes_fault_after, not_on_ok}
use Rattle.pid_tables.proofs.creation.add_labels.Goals as goal

abbrev with_value : List ℕ → ℕ → List Statement
with_value label value = (new_label_text, Text label ∷ number value ∷ []) ∷ []

pub returns : goal.returns
returns g c = record {
  works =
      record {
        same_reference = c.add_label-4.ensures.works.same_reference ∙ (c.add_label-3.ensures.works.same_reference ∙ (c.add_label-2.ensures.works.same_reference ∙ c.add_label.ensures.works.same_reference));
        goes =
            let a = g.B.Batch.batch.state c.add_label.new.tx in
            let b = g.B.Batch.batch.state c.add_label-2.new.tx in
            let end = g.B.Batch.batch.state c.add_label-4.new.tx in
            goes_then (g.B.Batch.batch.state c.args.tx.now) a end _ c.add_label-4.result c.in_ok-add_label.ensures.works.goes
            (goes_then a b end _ c.add_label-4.result c.in_ok-add_label-2.ensures.works.goes
            (goes_then b (g.B.Batch.batch.state c.add_label-3.new.tx) end _ c.add_label-4.result c.in_ok-add_label-3.ensures.works.goes c.add_label-4.ensures.works.goes));
        carried = λ clean inside.
            let start = c.args.tx.now in
            let a = c.add_label.new.tx in
            let b = c.add_label-2.new.tx in
            let d = c.add_label-3.new.tx in
            let end = c.add_label-4.new.tx in
            let third = earlier (g.B.Batch.batch.state d) (g.B.Batch.batch.state end) c.add_label-4.ensures.works.goes.survives clean in
            let second = earlier (g.B.Batch.batch.state b) (g.B.Batch.batch.state d) c.add_label-3.ensures.works.goes.survives third in
            let first = earlier (g.B.Batch.batch.state a) (g.B.Batch.batch.state b) c.add_label-2.ensures.works.goes.survives second in
            let one = c.in_ok-add_label.ensures in
            let two = c.in_ok-add_label-2.ensures in
            let three = c.in_ok-add_label-3.ensures in
            let in_one = (one.works.goes.going first inside).1 in
            let in_two = (two.works.goes.going second in_one).1 in
            let revision = with_value (codes "revision") 0 in
            let submissions = with_value (codes "submissions") 0 in
            let items = with_value (codes "items") 0 in
            carried_then g.B.Batch.batch.state ((revision ++ submissions) ++ items) (with_value (codes "schema") 2) start d end c.add_label-4.result
            (carried_both g.B.Batch.batch.state (revision ++ submissions) items start b d
            (carried_both g.B.Batch.batch.state revision submissions start a b (one.works.carried first inside) (two.works.carried second in_one)) (three.works.carried third in_two))
            (c.add_label-4.ensures.works.carried clean (three.works.goes.going third in_two).1);
      };
  never = c.add_label-4.ensures.never;
  added = λ clean inside has.
      let third = earlier (g.B.Batch.batch.state c.add_label-3.new.tx) (g.B.Batch.batch.state c.add_label-4.new.tx) c.add_label-4.ensures.works.goes.survives clean in
      let second = earlier (g.B.Batch.batch.state c.add_label-2.new.tx) (g.B.Batch.batch.state c.add_label-3.new.tx) c.add_label-3.ensures.works.goes.survives third in
      let first = earlier (g.B.Batch.batch.state c.add_label.new.tx) (g.B.Batch.batch.state c.add_label-2.new.tx) c.add_label-2.ensures.works.goes.survives second in
      let one = c.in_ok-add_label.ensures in
      let two = c.in_ok-add_label-2.ensures in
      let three = c.in_ok-add_label-3.ensures in
      let in_one = (one.works.goes.going first inside).1 in
      let in_two = (two.works.goes.going second in_one).1 in
      let m = with_label (codes "revision") 0 (λ _. None) in
      let n = with_label (codes "submissions") 0 m in
      c.add_label-4.ensures.added clean (three.works.goes.going third in_two).1 (with_label (codes "items") 0 n)
      (three.added third in_two n (two.added second in_one m (one.added first inside (λ _. None) has refl) refl) refl) refl;
}

pub returns-in_err-add_label : goal.returns-in_err-add_label
returns-in_err-add_label g c = record {
  works =
      record {
        same_reference = c.add_label.ensures.works.same_reference;
        goes =
            goes_fault (g.B.Batch.batch.state c.args.tx.now) (g.B.Batch.batch.state c.add_label.new.tx) _ c.from_residual.result c.from_residual.ensures.1 c.in_err-add_label.ensures.works.goes;
        carried = λ clean inside. not_on_ok c.from_residual.result _ _ c.from_residual.ensures.1;
      };
  never = passed_from c.from_residual.result _ IsNotNewerSchema c.from_residual.ensures.1 c.in_err-add_label.ensures.never;
  added = λ clean inside has. passed_on c.from_residual.result _ _ IsMemoryOrStore c.from_residual.ensures.1 (c.in_err-add_label.ensures.added clean inside (λ _. None) has refl);
}

pub returns-in_err-add_label-2 : goal.returns-in_err-add_label-2
returns-in_err-add_label-2 g c = record {
  works =
      record {
        same_reference = c.add_label-2.ensures.works.same_reference ∙ c.add_label.ensures.works.same_reference;
        goes =
            goes_fault_after (g.B.Batch.batch.state c.args.tx.now) (g.B.Batch.batch.state c.add_label.new.tx) (g.B.Batch.batch.state c.add_label-2.new.tx) _ _
            c.from_residual-in_err-add_label-2.result c.from_residual-in_err-add_label-2.ensures.1 c.in_ok-add_label.ensures.works.goes c.in_err-add_label-2.ensures.works.goes;
        carried = λ clean inside. not_on_ok c.from_residual-in_err-add_label-2.result _ _ c.from_residual-in_err-add_label-2.ensures.1;
      };
  never = passed_from c.from_residual-in_err-add_label-2.result _ IsNotNewerSchema c.from_residual-in_err-add_label-2.ensures.1 c.in_err-add_label-2.ensures.never;
  added = λ clean inside has.
      let first = earlier (g.B.Batch.batch.state c.add_label.new.tx) (g.B.Batch.batch.state c.add_label-2.new.tx) c.add_label-2.ensures.works.goes.survives clean in
      let one = c.in_ok-add_label.ensures in
      let m = with_label (codes "revision") 0 (λ _. None) in
      passed_on c.from_residual-in_err-add_label-2.result _ _ IsMemoryOrStore c.from_residual-in_err-add_label-2.ensures.1
      (c.in_err-add_label-2.ensures.added clean (one.works.goes.going first inside).1 m (one.added first inside (λ _. None) has refl) refl);
}

pub returns-in_err-add_label-3 : goal.returns-in_err-add_label-3
returns-in_err-add_label-3 g c = record {
  works =
      record {
        same_reference = c.add_label-3.ensures.works.same_reference ∙ (c.add_label-2.ensures.works.same_reference ∙ c.add_label.ensures.works.same_reference);
        goes =
            let start = g.B.Batch.batch.state c.args.tx.now in
            let a = g.B.Batch.batch.state c.add_label.new.tx in
            let b = g.B.Batch.batch.state c.add_label-2.new.tx in
            goes_fault_after start b (g.B.Batch.batch.state c.add_label-3.new.tx) _ _ c.from_residual-in_err-add_label-3.result c.from_residual-in_err-add_label-3.ensures.1
            (goes_then start a b _ (Ok c.in_ok-add_label-2.field-0) c.in_ok-add_label.ensures.works.goes c.in_ok-add_label-2.ensures.works.goes) c.in_err-add_label-3.ensures.works.goes;
        carried = λ clean inside. not_on_ok c.from_residual-in_err-add_label-3.result _ _ c.from_residual-in_err-add_label-3.ensures.1;
      };
  never = passed_from c.from_residual-in_err-add_label-3.result _ IsNotNewerSchema c.from_residual-in_err-add_label-3.ensures.1 c.in_err-add_label-3.ensures.never;
  added = λ clean inside has.
      let second = earlier (g.B.Batch.batch.state c.add_label-2.new.tx) (g.B.Batch.batch.state c.add_label-3.new.tx) c.add_label-3.ensures.works.goes.survives clean in
      let first = earlier (g.B.Batch.batch.state c.add_label.new.tx) (g.B.Batch.batch.state c.add_label-2.new.tx) c.add_label-2.ensures.works.goes.survives second in
      let one = c.in_ok-add_label.ensures in
      let two = c.in_ok-add_label-2.ensures in
      let in_one = (one.works.goes.going first inside).1 in
      let m = with_label (codes "revision") 0 (λ _. None) in
      let n = with_label (codes "submissions") 0 m in
      passed_on c.from_residual-in_err-add_label-3.result _ _ IsMemoryOrStore c.from_residual-in_err-add_label-3.ensures.1
      (c.in_err-add_label-3.ensures.added clean (two.works.goes.going second in_one).1 n (two.added second in_one m (one.added first inside (λ _. None) has refl) refl) refl);
}
