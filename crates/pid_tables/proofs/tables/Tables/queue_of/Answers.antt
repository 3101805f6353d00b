use Rattle.std.proofs.Common.{◌≡◌, ◌++◌, ◌∷◌, [], map, length, ap, sym, ◌∙◌, arith, append_assoc, append-nil}
use Rattle.std.proofs.lemmas.List.{map-append}
use Rattle.std.specs.Vec.Iter.{into_iter_items}
use Rattle.pid_moderation.specs.PendingPages.{told_of}
use Rattle.pid_moderation.specs.QueuePages.{entry_in}
use Rattle.pid_tables.specs.Rows.Causes.{IsCaused, IsReadable}
use Rattle.pid_tables.proofs.OfRows.CauseLemmas.{caused_later, passed_on}
use Rattle.pid_tables.proofs.OfRows.OnlyReading.{reads_then}
use Rattle.pid_tables.proofs.OfLists.NumberLemmas.{nothing_left}
use Rattle.pid_tables.proofs.tables.Tables.queue_of.Goals as goal

pub loop-pending-preserved : goal.loop-pending-preserved
loop-pending-preserved g c =
    let at = c.loop-pending in
    let one = c.in_ok-add_queued.ensures in
    let x = c.in-Some.pending in
    let steps : into_iter_items at.pending-iterator ≡ x ∷ into_iter_items c.next.new.self = c.in-Some.ensures.steps.0 in (
      reads_then _ _ _ at.invariant.0 one.rests,
      append_assoc at.yielded (x ∷ []) _ ∙ rw (← steps) at.invariant.1,
      let was = at.invariant.2 in
          let gone = c.in-Some.ensures.steps.1 in
          let short = ap length steps in
          omega arith,
      λ clean v rest.
          one.told clean v (at.invariant.0.kept v rest) ∙ ap (λ l. l ++ entry_in v (told_of x) ∷ []) (at.invariant.3 (one.rests.clean clean) v rest)
          ∙ sym (map-append (entry_in v) (map told_of at.yielded) (told_of x ∷ [])) ∙ ap (map (entry_in v)) (sym (map-append told_of at.yielded (x ∷ []))),
    )

pub returns : goal.returns
returns g c =
    let at = c.loop-pending in
    let none = c.in-None.ensures.steps in
    let empty : into_iter_items at.pending-iterator ≡ [] = nothing_left _ (sym at.invariant.2 ∙ none.0) in
    let all = sym (append-nil at.yielded) ∙ rw empty at at.invariant.1 ∙ c.into_iter-pending-iterator.ensures.into_iter_gives.0 in
    record { rests = at.invariant.0; told = λ clean v rest. at.invariant.3 clean v rest ∙ ap (λ l. map (entry_in v) (map told_of l)) all }

pub returns-in_err-add_queued : goal.returns-in_err-add_queued
returns-in_err-add_queued g c =
    let one = c.in_err-add_queued.ensures in
    let before = c.loop-pending.invariant in
    let old = g.C.Database.state c.args.self.now.conn in
    let mid = g.C.Database.state c.loop-pending.self.conn in
    let new = g.C.Database.state c.add_queued.new.self.conn in
    record {
      rests = reads_then _ _ _ before.0 one.rests;
      told = λ clean v rest.
          passed_on c.from_residual.result _ _ (λ fault. IsReadable v → IsCaused old new fault) c.from_residual.ensures.1
          (λ readable. caused_later old mid new (λ _. ⊥) c.in_err-add_queued.field-0.0 before.0.survives one.rests.survives.counts (one.rests.clean clean) (one.told clean v (before.0.kept v rest) readable));
    }
