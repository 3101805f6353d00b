use Rattle.std.proofs.Common.{◌≡◌, ℕ, List, Result, sym, subst, ◌∙◌}
use Rattle.sqlite.specs.State.{State, HasCleanDisk}
use Rattle.pid_moderation.specs.Items.{name_at}
use Rattle.pid_tables.specs.declared.rows.fault.TableFault.{TableFault}
use Rattle.pid_tables.specs.Rows.Faults.{IsMemoryOrStore}
use Rattle.pid_tables.specs.Rows.Steps.Turns.{GoesOn, LeadsTo, Turn}
use Rattle.pid_tables.specs.Rows.Steps.Writes.{with_name}
use Rattle.pid_tables.proofs.OfRows.CauseLemmas.{passed_on}
use Rattle.pid_tables.proofs.OfRows.GoingLemmas.{earlier, goes_then}
use Rattle.pid_tables.proofs.MoveLemmas.{goes_fault, goes_value, not_ok}
use Rattle.pid_tables.proofs.PutLemmas.{none_there, other_there, same_there, still_with}
use Rattle.pid_tables.proofs.putting.put_text.Goals.{in-Added, in-Renamed, in-Same}
use Rattle.pid_tables.proofs.putting.put_text.Goals as goal

-- the path has the name afterwards
abbrev naming : ℕ → List ℕ → List ℕ → Turn
naming n path name = record { IsFor = λ c v. Unit {0}; recount = λ c. c; next = with_name n path name }

-- what a way through the writes leaves
record Wrote (old mid new : State) (r : Result (Unit {0}) TableFault) (n : ℕ) (path name : List ℕ) : Type 0 where
  goes : GoesOn old new r
  back : HasCleanDisk new → HasCleanDisk mid
  shows : LeadsTo old new r (naming n path name)

pub returns-in_err-put : goal.returns-in_err-put
returns-in_err-put g c = record {
  same_reference = c.compare.ensures.same_reference;
  goes =
      goes_fault (g.B.Batch.batch.state c.args.batch.now) (g.B.Batch.batch.state c.compare.new.batch) _ c.from_residual.result c.from_residual.ensures.1 c.in_err-put.ensures.goes;
  shows = λ clean inside counts v shows _.
      passed_on c.from_residual.result _ _ IsMemoryOrStore c.from_residual.ensures.1 (c.in_err-put.ensures.shows clean inside counts v shows tt);
  told = λ clean counts v shows. not_ok c.from_residual.result _ _ c.from_residual.ensures.1;
}

pub returns : goal.returns
returns g c =
    let old = g.B.Batch.batch.state c.args.batch.now in
    let mid = g.B.Batch.batch.state c.compare.new.batch in
    let new = g.B.Batch.batch.state c.match-put.batch in
    let first = c.in_ok-put.ensures in
    let n = c.args.revision in
    let path = c.args.path.now in
    let name = c.args.name.now in
    let wrote : Wrote old mid new c.match-put.written n path name = elim c.match-put.branch [
      | in-Added w ↦
          let end = g.B.Batch.batch.state w.add_item-written.new.tx in
          let second = w.add_item-written.ensures in
          subst (λ b. Wrote old mid (g.B.Batch.batch.state b) c.match-put.written n path name) (sym w.batch-is) (subst (λ r. Wrote old mid end r n path name) (sym w.written-is) (record {
            goes = goes_then old mid end _ w.add_item-written.result first.goes second.goes;
            back = earlier mid end second.goes.survives;
            shows = λ clean inside counts v shows _.
                let early = earlier mid end second.goes.survives clean in
                second.shows clean (first.goes.going early inside).1 counts v (first.shows early inside counts v shows tt) (none_there name (name_at path v.items) (sym w.in-Added.is ∙ first.told early counts v shows));
          }))
      | in-Renamed w ↦
          let end = g.B.Batch.batch.state w.rename_item-written.new.tx in
          let second = w.rename_item-written.ensures in
          subst (λ b. Wrote old mid (g.B.Batch.batch.state b) c.match-put.written n path name) (sym w.batch-is) (subst (λ r. Wrote old mid end r n path name) (sym w.written-is) (record {
            goes = goes_then old mid end _ w.rename_item-written.result first.goes second.goes;
            back = earlier mid end second.goes.survives;
            shows = λ clean inside counts v shows _.
                let early = earlier mid end second.goes.survives clean in
                second.shows clean (first.goes.going early inside).1 counts v (first.shows early inside counts v shows tt) (other_there name (name_at path v.items) (sym w.in-Renamed.is ∙ first.told early counts v shows));
          }))
      | in-Same w ↦
          subst (λ b. Wrote old mid (g.B.Batch.batch.state b) c.match-put.written n path name) (sym w.batch-is) (subst (λ r. Wrote old mid mid r n path name) (sym w.written-is) (record {
            goes = goes_value old mid _ _ first.goes;
            back = λ clean. clean;
            shows = λ clean inside counts v shows _. still_with n path name counts v mid (same_there name (name_at path v.items) (sym w.in-Same.is ∙ first.told clean counts v shows)) (first.shows clean inside counts v shows tt);
          }))
    ] in
    let same : g.B.Batch.batch.reference c.match-put.batch ≡ g.B.Batch.batch.reference c.args.batch.now = elim c.match-put.branch [
      | in-Added w ↦ subst (λ b. g.B.Batch.batch.reference b ≡ g.B.Batch.batch.reference c.args.batch.now) (sym w.batch-is) (w.add_item-written.ensures.same_reference ∙ c.compare.ensures.same_reference)
      | in-Renamed w ↦ subst (λ b. g.B.Batch.batch.reference b ≡ g.B.Batch.batch.reference c.args.batch.now) (sym w.batch-is) (w.rename_item-written.ensures.same_reference ∙ c.compare.ensures.same_reference)
      | in-Same w ↦ subst (λ b. g.B.Batch.batch.reference b ≡ g.B.Batch.batch.reference c.args.batch.now) (sym w.batch-is) c.compare.ensures.same_reference
    ] in
    record {
      same_reference = same;
      goes = goes_value old new _ _ (subst (λ r. GoesOn old new r) c.in_ok-written.was wrote.goes);
      shows = subst (λ r. LeadsTo old new r (naming n path name)) c.in_ok-written.was wrote.shows;
      told = λ clean counts v shows. first.told (wrote.back clean) counts v shows;
    }

pub returns-in_err-written : goal.returns-in_err-written
returns-in_err-written g c =
    let old = g.B.Batch.batch.state c.args.batch.now in
    let mid = g.B.Batch.batch.state c.compare.new.batch in
    let new = g.B.Batch.batch.state c.match-put.batch in
    let first = c.in_ok-put.ensures in
    let n = c.args.revision in
    let path = c.args.path.now in
    let name = c.args.name.now in
    let wrote : Wrote old mid new c.match-put.written n path name = elim c.match-put.branch [
      | in-Added w ↦
          let end = g.B.Batch.batch.state w.add_item-written.new.tx in
          let second = w.add_item-written.ensures in
          subst (λ b. Wrote old mid (g.B.Batch.batch.state b) c.match-put.written n path name) (sym w.batch-is) (subst (λ r. Wrote old mid end r n path name) (sym w.written-is) (record {
            goes = goes_then old mid end _ w.add_item-written.result first.goes second.goes;
            back = earlier mid end second.goes.survives;
            shows = λ clean inside counts v shows _.
                let early = earlier mid end second.goes.survives clean in
                second.shows clean (first.goes.going early inside).1 counts v (first.shows early inside counts v shows tt) (none_there name (name_at path v.items) (sym w.in-Added.is ∙ first.told early counts v shows));
          }))
      | in-Renamed w ↦
          let end = g.B.Batch.batch.state w.rename_item-written.new.tx in
          let second = w.rename_item-written.ensures in
          subst (λ b. Wrote old mid (g.B.Batch.batch.state b) c.match-put.written n path name) (sym w.batch-is) (subst (λ r. Wrote old mid end r n path name) (sym w.written-is) (record {
            goes = goes_then old mid end _ w.rename_item-written.result first.goes second.goes;
            back = earlier mid end second.goes.survives;
            shows = λ clean inside counts v shows _.
                let early = earlier mid end second.goes.survives clean in
                second.shows clean (first.goes.going early inside).1 counts v (first.shows early inside counts v shows tt) (other_there name (name_at path v.items) (sym w.in-Renamed.is ∙ first.told early counts v shows));
          }))
      | in-Same w ↦
          subst (λ b. Wrote old mid (g.B.Batch.batch.state b) c.match-put.written n path name) (sym w.batch-is) (subst (λ r. Wrote old mid mid r n path name) (sym w.written-is) (record {
            goes = goes_value old mid _ _ first.goes;
            back = λ clean. clean;
            shows = λ clean inside counts v shows _. still_with n path name counts v mid (same_there name (name_at path v.items) (sym w.in-Same.is ∙ first.told clean counts v shows)) (first.shows clean inside counts v shows tt);
          }))
    ] in
    let same : g.B.Batch.batch.reference c.match-put.batch ≡ g.B.Batch.batch.reference c.args.batch.now = elim c.match-put.branch [
      | in-Added w ↦ subst (λ b. g.B.Batch.batch.reference b ≡ g.B.Batch.batch.reference c.args.batch.now) (sym w.batch-is) (w.add_item-written.ensures.same_reference ∙ c.compare.ensures.same_reference)
      | in-Renamed w ↦ subst (λ b. g.B.Batch.batch.reference b ≡ g.B.Batch.batch.reference c.args.batch.now) (sym w.batch-is) (w.rename_item-written.ensures.same_reference ∙ c.compare.ensures.same_reference)
      | in-Same w ↦ subst (λ b. g.B.Batch.batch.reference b ≡ g.B.Batch.batch.reference c.args.batch.now) (sym w.batch-is) c.compare.ensures.same_reference
    ] in
    record {
      same_reference = same;
      goes = goes_fault old new _ c.from_residual-in_err-written.result c.from_residual-in_err-written.ensures.1 (subst (λ r. GoesOn old new r) c.in_err-written.was wrote.goes);
      shows = λ clean inside counts v shows _.
          passed_on c.from_residual-in_err-written.result _ _ IsMemoryOrStore c.from_residual-in_err-written.ensures.1 (subst (λ r. LeadsTo old new r (naming n path name)) c.in_err-written.was wrote.shows clean inside counts v shows tt);
      told = λ clean counts v shows. not_ok c.from_residual-in_err-written.result _ _ c.from_residual-in_err-written.ensures.1;
    }
