use Rattle.std.proofs.Common.{◌≡◌, ◌<◌, ◌+◌, map, length, ap, subst, ◌∙◌, rules}
use Rattle.pid_tables.proofs.OfCheck.Asking.{nothing_read}
use Rattle.pid_tables.proofs.OfRows.CauseLemmas.{caused_later, passed_on}
use Rattle.pid_tables.proofs.OfRows.OnlyReading.{reads_then}
use Rattle.std.proofs.lemmas.List.{length-map}
use Rattle.pid_service.proofs.Words.{HoldsPending, IsCaused, IsReadable, numbers_pending, pending_above, pending_number, told_of}
use Rattle.pid_service.proofs.PendingNumbers.{last_count, next_count, pending_next}
use Rattle.pid_service.proofs.pending_numbers.count_pending.Goals as goal

-- the numbers are kept
pub returns-in-Ok : goal.returns-in-Ok
returns-in-Ok g c = record {
  rests = nothing_read (g.C.Database.state c.args.tables.now.conn) c.args.tables.now.settled;
  told = λ clean v rest holds.
      let held : c.in-Some.numbers.items ≡ numbers_pending v = subst (λ o. HoldsPending o v) c.in-Some.is holds in
      let many : c.in-Ok.count ≡ length c.in-Some.numbers.items = search rules in
      many ∙ ap length held ∙ length-map (pending_above 0 v) pending_number;
}

pub returns-in-Err : goal.returns-in-Err
returns-in-Err g c = record { rests = nothing_read (g.C.Database.state c.args.tables.now.conn) c.args.tables.now.settled; told = λ clean v rest readable. tt }

-- a page after the other
pub returns-in_err-page : goal.returns-in_err-page
returns-in_err-page g c =
    let one = c.in_err-page.ensures in
    let before = c.loop.invariant in
    let old = g.C.Database.state c.args.tables.now.conn in
    let mid = g.C.Database.state c.loop.tables.conn in
    let new = g.C.Database.state c.pending_page.new.self.conn in
    record {
      rests = reads_then _ _ _ before.0 one.rests;
      told = λ clean v rest.
          passed_on c.from_residual.result _ _ (λ fault. IsReadable v → IsCaused old new fault) c.from_residual.ensures.1
          (λ readable. caused_later old mid new (λ _. ⊥) c.in_err-page.field-0.0 before.0.survives one.rests.survives.counts (one.rests.clean clean) (one.told clean v (before.0.kept v rest) readable));
    }

-- too many
pub returns-in_default-more : goal.returns-in_default-more
returns-in_default-more g c = record { rests = reads_then _ _ _ c.loop.invariant.0 c.in_ok-page.ensures.rests; told = λ clean v rest readable. tt }

pub returns : goal.returns
returns g c = record { rests = c.loop.invariant.0; told = λ clean v rest readable. tt }

pub returns-then-is_last : goal.returns-then-is_last
returns-then-is_last g c =
    let one = c.in_ok-page.ensures in
    let before = c.loop.invariant in
    let short : length c.as_slice-listed.result.now < 100 = search rules in
    record {
      rests = reads_then _ _ _ before.0 one.rests;
      told = λ clean v rest holds.
          c.in-Some-more.ensures
          ∙ last_count v 100 c.loop.after c.as_slice-listed.result.now c.loop.count (ap (map told_of) c.as_slice-listed.ensures.value ∙ one.told clean v (before.0.kept v rest)) short
          ∙ before.1 (one.rests.clean clean) v rest;
    }

pub loop-preserved : goal.loop-preserved
loop-preserved g c =
    let one = c.in_ok-page.ensures in
    let before = c.loop.invariant in
    let last = c.last_number-after.ensures in (
      reads_then _ _ _ before.0 one.rests,
      λ clean v rest.
          (λ i. c.in-Some-more.ensures i + length (pending_above (last i) v))
          ∙ next_count pending_next v 100 c.loop.after c.as_slice-listed.result.now c.loop.count (ap (map told_of) c.as_slice-listed.ensures.value ∙ one.told clean v (before.0.kept v rest))
          ∙ before.1 (one.rests.clean clean) v rest,
    )
