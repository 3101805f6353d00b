use Rattle.std.proofs.Common.{◌≡◌, codes, IfOk, IfErr, MatchResult, refl, sym, subst, ◌∙◌}
use Rattle.std.proofs.lemmas.Bool.{true≢false}
use Rattle.sqlite.specs.Effect.{Database}
use Rattle.pid_tables.specs.declared.rows.schema_version.Version.TheVariants.{One}
use Rattle.pid_tables.specs.Rows.Causes.{IsCaused, IsReadable}
use Rattle.pid_tables.specs.Rows.Faults.{IsMemoryOrStore, IsNotNewerSchema}
use Rattle.pid_tables.specs.Rows.LabelRows.{ExplainsNumber, HasLabel, IsDamageOf, LacksNumber, ShowsNoNumber, ShowsNumber}
use Rattle.pid_tables.specs.Rows.Shows.{ShowsIn}
use Rattle.pid_tables.proofs.OfRows.CauseLemmas.{passed_from, passed_on}
use Rattle.pid_tables.proofs.OfRows.OnlyReading.{reads_then}
use Rattle.pid_tables.proofs.OfCheck.Later.{only_store_never}
use Rattle.pid_tables.proofs.OfCheck.Complete.{complete, complete_first, each_some}
use Rattle.pid_tables.specs.Check.Shapes.{IsMadeFirst}
use Rattle.pid_tables.proofs.MoveLemmas.{known, not_ok, not_on_ok}
use Rattle.pid_tables.proofs.SchemaNumbers.{bad_of, caused_all, good_of, number_told, only_store_damage}
use Rattle.pid_tables.proofs.StandLemmas.{exactly_first, meta_first}
use Rattle.pid_tables.proofs.tables.Tables.version.Goals as goal

pub returns-then-branch-clause-told : goal.returns-then-branch-clause-told
returns-then-branch-clause-told g c clean v rest =
    let found = c.in_ok-has_some_table.ensures.found in
    let reads = c.schema_number.ensures.reads in
    caused_all (g.C.Database.state c.args.self.now.conn) (g.C.Database.state c.has_some_table.new.tables.conn) (g.C.Database.state c.schema_number.new.tables.conn) (IsReadable v) (λ n. n ≡ 2) c.schema_number.result
    (c.in_ok-has_some_table.ensures.reads.rests, found.same) reads.rests clean (reads.told clean v (c.in_ok-has_some_table.ensures.reads.rests.kept v rest))

-- ---- what the label shows

pub returns-in_err-has_some_table-clause-shown : goal.returns-in_err-has_some_table-clause-shown
returns-in_err-has_some_table-clause-shown g c =
    let lacks = LacksNumber (g.C.Database.state c.args.self.now.conn).now.trees (codes "schema") in
    let hides = ShowsNoNumber (g.C.Database.state c.args.self.now.conn).now (codes "schema") in
    let only_store = c.in_err-has_some_table.ensures.found.only_store in
    record {
      earlier = λ clean v rest. passed_on c.from_residual.result _ _ IsMemoryOrStore c.from_residual.ensures.1 only_store;
      none = λ clean none. passed_on c.from_residual.result _ _ IsMemoryOrStore c.from_residual.ensures.1 only_store;
      shown = λ clean some. passed_on c.from_residual.result _ _ (IsDamageOf hides) c.from_residual.ensures.1 (only_store_damage hides _ only_store);
      labelled = λ clean version first. not_ok c.from_residual.result _ _ c.from_residual.ensures.1;
      refused = λ clean version first. passed_from c.from_residual.result _ (IsDamageOf lacks) c.from_residual.ensures.1 (only_store_damage lacks _ only_store);
      was_open = λ clean. not_on_ok c.from_residual.result _ _ c.from_residual.ensures.1;
      never = passed_from c.from_residual.result _ IsNotNewerSchema c.from_residual.ensures.1 (only_store_never _ only_store);
    }

-- some table is there
pub returns-then-branch-clause-shown : goal.returns-then-branch-clause-shown
returns-then-branch-clause-shown g c =
    let found = c.in_ok-has_some_table.ensures.found in
    let read = c.schema_number.ensures in
    let db = (g.C.Database.state c.has_some_table.new.tables.conn).now in
    record {
      earlier = λ clean v rest.
          let early = read.reads.rests.clean clean in
          let shows = subst (λ (d : Database). ShowsIn One d v) (sym (found.same early)) (rest.shows (found.was_open early)) in
          let stored = read.stored clean (exactly_first One db.schema shows.schema) in
          number_told db v shows c.schema_number.result (good_of _ _ c.schema_number.result stored) (bad_of _ _ c.schema_number.result stored);
      none = λ clean none. absurd (none ((found.asked (read.reads.rests.clean clean)).0 c.if-branch.true));
      shown = λ clean some.
          subst (λ (d : Database). MatchResult c.schema_number.result (ShowsNumber d (codes "schema")) (IsDamageOf (ShowsNoNumber d (codes "schema")))) (found.same (read.reads.rests.clean clean))
          (read.shown clean);
      labelled = λ clean version first.
          let same = found.same (read.reads.rests.clean clean) in
          subst (λ (d : Database). IfOk c.schema_number.result (HasLabel d.trees (codes "schema"))) same (good_of _ _ c.schema_number.result (read.stored clean (meta_first version db.schema (subst (λ (d : Database). IsMadeFirst version d.schema) (sym same) first))));
      refused = λ clean version first.
          let same = found.same (read.reads.rests.clean clean) in
          subst (λ (d : Database). IfErr c.schema_number.result (ExplainsNumber d.trees (codes "schema"))) same (bad_of _ _ c.schema_number.result (read.stored clean (meta_first version db.schema (subst (λ (d : Database). IsMadeFirst version d.schema) (sym same) first))));
      was_open = λ clean. known c.schema_number.result (found.was_open (read.reads.rests.clean clean));
      never = read.never;
    }

-- none is there
pub returns-else-branch-clause-shown : goal.returns-else-branch-clause-shown
returns-else-branch-clause-shown g c =
    let found = c.in_ok-has_some_table.ensures.found in
    record {
      earlier = λ clean v rest. let on = (found.asked clean).1 (each_some _ (complete One _ (rest.shows (found.was_open clean)).schema)) in absurd (true≢false (sym on ∙ c.if-branch.false));
      none = λ clean none. refl;
      shown = λ clean some. let on = (found.asked clean).1 some in absurd (true≢false (sym on ∙ c.if-branch.false));
      labelled = λ clean version first. let on = (found.asked clean).1 (each_some _ (complete_first version _ first)) in absurd (true≢false (sym on ∙ c.if-branch.false));
      refused = λ clean version first. tt;
      was_open = found.was_open;
      never = tt;
    }

-- ---- what goes through

pub returns-in_err-has_some_table-clause-rests : goal.returns-in_err-has_some_table-clause-rests
returns-in_err-has_some_table-clause-rests g c = c.has_some_table.ensures.reads.rests

pub returns-in_err-has_some_table-clause-told : goal.returns-in_err-has_some_table-clause-told
returns-in_err-has_some_table-clause-told g c clean v rest =
    passed_on c.from_residual.result _ _ (λ fault. IsReadable v → IsCaused (g.C.Database.state c.args.self.now.conn) (g.C.Database.state c.has_some_table.new.tables.conn) fault) c.from_residual.ensures.1 (c.in_err-has_some_table.ensures.reads.told clean v rest)

pub returns-then-branch-clause-rests : goal.returns-then-branch-clause-rests
returns-then-branch-clause-rests g c = reads_then _ _ _ c.has_some_table.ensures.reads.rests c.schema_number.ensures.reads.rests

pub returns-else-branch-clause-rests : goal.returns-else-branch-clause-rests
returns-else-branch-clause-rests g c = c.has_some_table.ensures.reads.rests

pub returns-else-branch-clause-told : goal.returns-else-branch-clause-told
returns-else-branch-clause-told g c clean v rest = absurd (true≢false (sym (c.in_ok-has_some_table.ensures.reads.told clean v rest) ∙ c.if-branch.false))
