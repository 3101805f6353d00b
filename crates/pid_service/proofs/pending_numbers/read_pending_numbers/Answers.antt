use Rattle.std.proofs.Common.{◌<◌, ◌++◌, map, length, ap, ◌∙◌, rules}
use Rattle.pid_tables.proofs.OfRows.CauseLemmas.{caused_later, passed_on}
use Rattle.pid_tables.proofs.OfRows.OnlyReading.{reads_then}
use Rattle.pid_service.proofs.Words.{IsCaused, IsReadable, told_of}
use Rattle.pid_service.proofs.PendingNumbers.{last_page, next_page, pending_next, pending_past}
use Rattle.pid_service.proofs.pending_numbers.read_pending_numbers.Goals as goal

pub returns-in_err-page : goal.returns-in_err-page
returns-in_err-page g c =
    let one = c.in_err-page.ensures in
    let before = c.loop.invariant in
    let old = g.C.Database.state c.args.tables.now.conn in
    let mid = g.C.Database.state c.loop.tables.conn in
    let new = g.C.Database.state c.pending_page.new.self.conn in
    record {
      rests = reads_then _ _ _ before.0 one.rests;
      told = λ clean v rest.
          passed_on c.from_residual.result _ _ (λ fault. IsReadable v → IsCaused old new fault) c.from_residual.ensures.1
          (λ readable. caused_later old mid new (λ _. ⊥) c.in_err-page.field-0.0 before.0.survives one.rests.survives.counts (one.rests.clean clean) (one.told clean v (before.0.kept v rest) readable));
    }

-- too many, or no memory for them
pub returns-then-not-added : goal.returns-then-not-added
returns-then-not-added g c = record { rests = reads_then _ _ _ c.loop.invariant.0 c.in_ok-page.ensures.rests; told = λ clean v rest. tt }

pub returns : goal.returns
returns g c = record { rests = c.loop.invariant.0; told = λ clean v rest. tt }

-- a page that is not full is the last
pub returns-then-is_last : goal.returns-then-is_last
returns-then-is_last g c =
    let one = c.in_ok-page.ensures in
    let before = c.loop.invariant in
    let short : length c.as_slice-listed.result.now < 100 = search rules in
    record {
      rests = reads_then _ _ _ before.0 one.rests;
      told = λ clean v rest.
          c.add_numbers-added.ensures c.if-not-added.false
          ∙ last_page v 100 c.loop.after c.as_slice-listed.result.now c.loop.numbers.items (ap (map told_of) c.as_slice-listed.ensures.value ∙ one.told clean v (before.0.kept v rest)) short
          ∙ before.1 (one.rests.clean clean) v rest;
    }

pub loop-preserved : goal.loop-preserved
loop-preserved g c =
    let one = c.in_ok-page.ensures in
    let before = c.loop.invariant in
    let added = c.add_numbers-added.ensures c.if-not-added.false in
    let last = c.last_number-after.ensures in (
      reads_then _ _ _ before.0 one.rests,
      λ clean v rest.
          (λ i. added i ++ pending_past (last i) v)
          ∙ next_page pending_next v 100 c.loop.after c.as_slice-listed.result.now c.loop.numbers.items (ap (map told_of) c.as_slice-listed.ensures.value ∙ one.told clean v (before.0.kept v rest))
          ∙ before.1 (one.rests.clean clean) v rest,
    )
