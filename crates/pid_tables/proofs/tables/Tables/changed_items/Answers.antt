use Rattle.std.proofs.Common.{◌≡◌, ◌∷◌, ◌++◌, [], Some, ap, arith, length, map, sym, take_all, ◌∙◌}
use Rattle.std.proofs.lemmas.List.{length-map}
use Rattle.sqlite_rules.proofs.ListLemmas.{all_has}
use Rattle.pid_moderation.specs.Items.{name_at}
use Rattle.pid_tables.specs.Rows.Causes.{IsCaused, IsReadable}
use Rattle.pid_tables.proofs.OfRows.CauseLemmas.{caused_later, passed_on}
use Rattle.pid_tables.proofs.OfCheck.Asking.{nothing_read}
use Rattle.pid_tables.proofs.OfRows.OnlyReading.{reads_then}
use Rattle.pid_moderation.specs.ChangePages.{changed_of, Changed}
use Rattle.pid_tables.specs.Lists.Steps.ChangeRows.{since_shown}
use Rattle.pid_tables.proofs.OfLists.RowLists.{next_of}
use Rattle.pid_tables.proofs.tables.Tables.changed_items.Goals as goal

pub loop-row-preserved : goal.loop-row-preserved
loop-row-preserved g c =
    let one = c.in_ok-add_changed.ensures in
    let before = c.loop-row.invariant in (
      reads_then _ _ _ before.0 one.rests,
      λ clean v all rest change.
          let named = change.0 in
          let is = change.1 in
          let next = next_of since_shown all c.args.rows.now c.loop-row.row-index c.row-item.result is c.loop-row-test.true in
          let stands = all_has (λ (item : Changed). name_at item.path v.items ≡ Some item.name) all next.it named next.there in
          one.told clean v next.it (before.0.kept v rest) (stands, c.row-item.is ∙ next.is) ∙ ap (λ l. l ++ next.it ∷ []) (before.1 (one.rests.clean clean) v all rest change) ∙ sym next.more,
    )

pub returns-in_err-add_changed : goal.returns-in_err-add_changed
returns-in_err-add_changed g c = record {
  rests = reads_then _ _ _ c.loop-row.invariant.0 c.in_err-add_changed.ensures.rests;
  told = λ clean v all rest (named, is).
      let one = c.in_err-add_changed.ensures in
      let before = c.loop-row.invariant in
      let old = g.C.Database.state c.args.self.now.conn in
      let mid = g.C.Database.state c.loop-row.self.conn in
      let new = g.C.Database.state c.add_changed.new.self.conn in
      let next = next_of since_shown all c.args.rows.now c.loop-row.row-index c.row-item.result is c.loop-row-test.true in
      let stands = all_has (λ (item : Changed). name_at item.path v.items ≡ Some item.name) all next.it named next.there in
      passed_on c.from_residual.result _ _ (λ fault. IsReadable v → IsCaused old new fault) c.from_residual.ensures.1
      (λ readable. caused_later old mid new (λ _. ⊥) c.in_err-add_changed.field-0.0 before.0.survives one.rests.survives.counts (one.rests.clean clean)
      (one.told clean v next.it (before.0.kept v rest) (stands, c.row-item.is ∙ next.is) readable));
}

pub returns : goal.returns
returns g c = record {
  rests = c.loop-row.invariant.0;
  told = λ clean v all rest change.
      c.loop-row.invariant.1 clean v all rest change ∙ take_all c.loop-row.row-index all (let done = c.loop-row-test.false in let long = ap length change.1 ∙ length-map all since_shown in omega (arith, done, long));
}

pub loop-row-init : goal.loop-row-init
loop-row-init g c = (nothing_read (g.C.Database.state c.args.self.now.conn) c.args.self.now.settled, λ clean v all rest change. ap (map changed_of) c.new-items.ensures.items)
