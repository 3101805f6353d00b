use Rattle.std.proofs.Common.{inl, codes, refl, rules, sym, subst, ◌∙◌}
use Rattle.std.proofs.lemmas.Bool.{true≢false, false≢true}
use Rattle.sqlite.specs.Effect.{Database}
use Rattle.pid_tables.specs.Rows.Faults.{IsMemoryOrStore}
use Rattle.pid_tables.specs.Rows.LabelRows.{ExplainsNumber}
use Rattle.pid_tables.specs.Rows.Shows.{ShowsKeeping}
use Rattle.pid_tables.proofs.OfRows.CauseLemmas.{passed_from}
use Rattle.pid_tables.proofs.OfRows.OnlyReading.{reads_then}
use Rattle.pid_tables.specs.Check.Shapes.{HasSomeTable}
use Rattle.pid_tables.specs.Bringing.{NamesLatest}
use Rattle.pid_tables.proofs.MoveLemmas.{not_ok, not_on_ok}
use Rattle.pid_tables.proofs.SchemaNumbers.{schema_told, schema_there, second_is_latest, shown_second}
use Rattle.pid_tables.proofs.StandLemmas.{exactly_first, names_latest, tables_some}
use Rattle.pid_tables.proofs.migration.is_current.Goals as goal

pub returns-in_err-has_some_table : goal.returns-in_err-has_some_table
returns-in_err-has_some_table g c = record {
  rests = c.has_some_table.ensures.reads.rests;
  bare = λ clean none. not_ok c.from_residual.result _ _ c.from_residual.ensures.1;
  shown = λ clean version counts numbers v shows. not_ok c.from_residual.result _ _ c.from_residual.ensures.1;
  named = λ clean. not_ok c.from_residual.result _ _ c.from_residual.ensures.1;
  was_open = λ clean. not_on_ok c.from_residual.result _ _ c.from_residual.ensures.1;
  only_store = passed_from c.from_residual.result _ IsMemoryOrStore c.from_residual.ensures.1 c.in_err-has_some_table.ensures.found.only_store;
}

pub returns-then-not-branch : goal.returns-then-not-branch
returns-then-not-branch g c =
    let found = c.in_ok-has_some_table.ensures.found in
    record {
      rests = c.has_some_table.ensures.reads.rests;
      bare = λ clean none. refl;
      shown = λ clean version counts numbers v shows.
          let some = tables_some version _ (c.schemas_have_tables.ensures.tables version) in
          let on = (found.asked clean).1 (subst HasSomeTable (sym (shows (found.was_open clean)).schema) some) in
          absurd (true≢false (sym on ∙ c.if-not-branch.true));
      named = λ clean is. absurd (false≢true is);
      was_open = λ clean. found.was_open clean;
      only_store = tt;
    }

pub returns-in-Ok : goal.returns-in-Ok
returns-in-Ok g c =
    let found = c.in_ok-has_some_table.ensures.found in
    let second = c.schema_number.ensures.reads.rests in
    let db = (g.C.Database.state c.has_some_table.new.tables.conn).now in
    record {
      rests = reads_then _ _ _ c.has_some_table.ensures.reads.rests second;
      bare = λ clean none. absurd (none ((found.asked (second.clean clean)).0 c.if-not-branch.false));
      shown = λ clean version counts numbers v shows.
          let early = second.clean clean in
          let there = subst (λ (d : Database). ShowsKeeping version counts numbers d v) (sym (found.same early)) (shows (found.was_open early)) in
          second_is_latest version c.in-Ok.number (schema_told db v there c.in-Ok.number (c.in-Ok.ensures.stored clean (exactly_first version db.schema there.schema)));
      named = λ clean is. subst NamesLatest (found.same (second.clean clean)) (names_latest db (inl (shown_second db c.in-Ok.number is (c.in-Ok.ensures.shown clean))));
      was_open = λ clean. found.was_open (second.clean clean);
      only_store = tt;
    }

pub returns-in-Err-Damaged : goal.returns-in-Err-Damaged
returns-in-Err-Damaged g c =
    let found = c.in_ok-has_some_table.ensures.found in
    let second = c.schema_number.ensures.reads.rests in
    let db = (g.C.Database.state c.has_some_table.new.tables.conn).now in
    record {
      rests = reads_then _ _ _ c.has_some_table.ensures.reads.rests second;
      bare = λ clean none. refl;
      shown = λ clean version counts numbers v shows.
          let early = second.clean clean in
          let there = subst (λ (d : Database). ShowsKeeping version counts numbers d v) (sym (found.same early)) (shows (found.was_open early)) in
          absurd (schema_there db v there (subst (ExplainsNumber db.trees (codes "schema")) c.in-Err-Damaged.field-0-is (c.in-Err-Damaged.ensures.stored clean (exactly_first version db.schema there.schema))));
      named = λ clean is. absurd (false≢true is);
      was_open = λ clean. found.was_open (second.clean clean);
      only_store = tt;
    }

-- the label cannot be read, and that is no damage
pub returns-in-Err : goal.returns-in-Err
returns-in-Err g c = record {
  rests = reads_then _ _ _ c.has_some_table.ensures.reads.rests c.schema_number.ensures.reads.rests;
  bare = λ clean none. tt;
  shown = λ clean version counts numbers v shows. tt;
  named = λ clean. tt;
  was_open = λ clean. tt;
  only_store = search rules;
}
