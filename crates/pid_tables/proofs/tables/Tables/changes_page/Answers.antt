use Rattle.std.proofs.Common.{◌∷◌, ◌∙◌, [], List, ℕ, ap, true, refl}
use Rattle.std.specs.Option.{option_copied}
use Rattle.sqlite.specs.Order.{Row}
use Rattle.sqlite.specs.State.{State, Shown}
use Rattle.sqlite.specs.declared.types.Value.TheVariants.{Text}
use Rattle.pid_moderation.specs.ChangePages.{changes_in, start_text}
use Rattle.pid_moderation.specs.Views.{Views}
use Rattle.pid_tables.specs.Rows.Causes.{IsCaused, IsReadable}
use Rattle.pid_tables.specs.Rows.Leaves.{AtRest}
use Rattle.pid_tables.specs.Rows.Shows.{counts_of}
use Rattle.pid_tables.specs.Rows.TableRows.{number}
use Rattle.pid_tables.specs.Rows.Schema.{pid_schema}
use Rattle.pid_tables.proofs.OfRows.CauseLemmas.{caused_later, passed_on}
use Rattle.pid_tables.proofs.OfRows.FindLemmas.{rows_at_rest}
use Rattle.pid_tables.proofs.OfRows.OnlyReading.{reads_then}
use Rattle.pid_tables.specs.Lists.Steps.ChangeRows.{AreChangesIn, held}
use Rattle.pid_tables.proofs.OfLists.ChangeLists.{select_changes, changes_found, changes_held, changes_named, changes_query}
use Rattle.pid_tables.proofs.ThenReads.{fault_first, no_memory}
use Rattle.pid_tables.proofs.tables.Tables.changes_page.Goals as goal

-- what the rows that were asked for have
asked : {S : Type 0} (state : S → State) (old : S) (v : Views) (floor : ℕ) (start : List ℕ) (rows : List Row) → AtRest (state old) v
    → (mid : S) × Shown select_changes (Text start ∷ number floor ∷ []) (record (state old) { in_transaction = true }) (state mid) rows → AreChangesIn v (changes_in 100 floor start v).items rows
asked state old v floor start rows rest shown = rows_at_rest state old v select_changes _ rows (AreChangesIn v (changes_in 100 floor start v).items rows) rest
    (λ late shows h. (changes_named v 100 floor start shows.views.sorted, changes_found _ (counts_of v) v shows floor start _ late refl rows h)) shown

pub returns : goal.returns
returns g c =
    let one = c.in_ok-revision.ensures in
    let two = c.in_ok-rows.ensures in
    let three = c.in_ok-items.ensures in
    let floor = held c.args.since in
    let start = start_text (option_copied c.args.after) in
    record {
      rests = reads_then _ _ _ (reads_then _ _ _ one.rests two.rests) three.rests;
      told = λ clean v rest low.
          let later = three.rests.clean clean in
          let then = one.rests.kept v rest in
          let text = c.as_str.ensures.value ∙ c.in_ok-start.ensures in
          let found = asked g.C.Database.state c.revision.new.self.conn v floor c.as_str.result.now c.in_ok-rows.rows.items then (rw (c.to_sql-after.ensures, c.clamp_to_i64-since.ensures) at (two.shown later)) in
          let all = three.told clean v (changes_in 100 floor c.as_str.result.now v).items (two.rests.kept v then) (found.0, c.as_slice.ensures.value ∙ found.1) ∙ ap (λ t. (changes_in 100 floor t v).items) text in
          let revision = one.told (two.rests.clean later) v rest in
          (λ i. record { revision = revision i; items = all i }) ∙ changes_held v 100 c.args.since start low;
    }

pub returns-in_err-items : goal.returns-in_err-items
returns-in_err-items g c =
    let one = c.in_ok-revision.ensures in
    let two = c.in_ok-rows.ensures in
    let three = c.in_err-items.ensures in
    let both = reads_then _ _ _ one.rests two.rests in
    let old = g.C.Database.state c.args.self.now.conn in
    let mid = g.C.Database.state c.read_rows-rows.new.tables.conn in
    let new = g.C.Database.state c.changed_items-listed.new.self.conn in
    let floor = held c.args.since in
    record {
      rests = reads_then _ _ _ both three.rests;
      told = λ clean v rest.
          let later = three.rests.clean clean in
          let found = asked g.C.Database.state c.revision.new.self.conn v floor c.as_str.result.now c.in_ok-rows.rows.items (one.rests.kept v rest) (rw (c.to_sql-after.ensures, c.clamp_to_i64-since.ensures) at (two.shown later)) in
          passed_on c.from_residual-in_err-items.result _ _ (λ fault. IsReadable v → IsCaused old new fault) c.from_residual-in_err-items.ensures.1
          (λ readable. caused_later old mid new (λ _. ⊥) c.in_err-items.field-0.0 both.survives three.rests.survives.counts later
          (three.told clean v (changes_in 100 floor c.as_str.result.now v).items (both.kept v rest) (found.0, c.as_slice.ensures.value ∙ found.1) readable));
    }

pub returns-in_err-rows : goal.returns-in_err-rows
returns-in_err-rows g c =
    let one = c.in_ok-revision.ensures in
    let two = c.in_err-rows.ensures in
    let old = g.C.Database.state c.args.self.now.conn in
    let mid = g.C.Database.state c.revision.new.self.conn in
    let new = g.C.Database.state c.read_rows-rows.new.tables.conn in
    record {
      rests = reads_then _ _ _ one.rests two.rests;
      told = λ clean v rest.
          passed_on c.from_residual-in_err-rows.result _ _ (λ fault. IsReadable v → IsCaused old new fault) c.from_residual-in_err-rows.ensures.1
          (λ readable. caused_later old mid new (λ _. ⊥) c.in_err-rows.field-0.0 one.rests.survives two.rests.survives.counts (two.rests.clean clean)
          ((rw (c.to_sql-after.ensures, c.clamp_to_i64-since.ensures) at (two.faults.caused clean pid_schema (λ opened. ((one.rests.kept v rest).shows opened).schema))) (changes_query c.as_str.result.now (held c.args.since))));
    }

pub returns-in_err-revision : goal.returns-in_err-revision
returns-in_err-revision g c = fault_first g.C.Database.state c.args.self.now.conn c.revision.new.self.conn c.in_err-revision.field-0.0 c.from_residual.result c.from_residual.ensures.1 c.in_err-revision.ensures

pub returns-in_err-start : goal.returns-in_err-start
returns-in_err-start g c = no_memory g.C.Database.state c.args.self.now.conn c.revision.new.self.conn c.from_residual-in_err-start.result c.from_residual-in_err-start.ensures.1 c.in_ok-revision.ensures.rests
