use Rattle.std.proofs.Common.{ap, map, refl, ◌∙◌, arith, take_all}
use Rattle.pid_moderation.specs.PendingPages.{told_of}
use Rattle.pid_tables.specs.Rows.Causes.{IsCaused, IsReadable}
use Rattle.pid_tables.proofs.OfRows.CauseLemmas.{caused_later, passed_on}
use Rattle.pid_tables.proofs.OfCheck.Asking.{nothing_read}
use Rattle.pid_tables.proofs.OfRows.OnlyReading.{reads_then}
use Rattle.pid_tables.specs.Lists.ByNumber.{standings_at}
use Rattle.pid_tables.proofs.OfLists.NumberLemmas.{more_there}
use Rattle.pid_tables.proofs.tables.Tables.pending_at.Goals as goal

pub loop-number-preserved : goal.loop-number-preserved
loop-number-preserved g c =
    let one = c.in_ok-add_numbered.ensures in
    let before = c.loop-number.invariant in (
      reads_then _ _ _ before.0 one.rests,
      λ clean v rest.
          more_there v c.args.numbers.now c.loop-number.number-index _ _ _ _ refl c.loop-number-test.true (one.told clean v (before.0.kept v rest)) (before.1 (one.rests.clean clean) v rest),
    )

pub returns : goal.returns
returns g c = record {
  rests = c.loop-number.invariant.0;
  told = λ clean v rest. c.loop-number.invariant.1 clean v rest ∙ ap (λ l. standings_at l v) (take_all c.loop-number.number-index c.args.numbers.now (let done = c.loop-number-test.false in omega (arith, done)));
}

pub returns-in_err-add_numbered : goal.returns-in_err-add_numbered
returns-in_err-add_numbered g c =
    let one = c.in_err-add_numbered.ensures in
    let before = c.loop-number.invariant in
    let old = g.C.Database.state c.args.self.now.conn in
    let mid = g.C.Database.state c.loop-number.self.conn in
    let new = g.C.Database.state c.add_numbered.new.tables.conn in
    record {
      rests = reads_then _ _ _ before.0 one.rests;
      told = λ clean v rest.
          passed_on c.from_residual.result _ _ (λ fault. IsReadable v → IsCaused old new fault) c.from_residual.ensures.1
          (λ readable. caused_later old mid new (λ _. ⊥) c.in_err-add_numbered.field-0.0 before.0.survives one.rests.survives.counts (one.rests.clean clean) (one.told clean v (before.0.kept v rest) readable));
    }

pub loop-number-init : goal.loop-number-init
loop-number-init g c = (nothing_read (g.C.Database.state c.args.self.now.conn) c.args.self.now.settled, λ clean v rest. ap (map told_of) c.new-page.ensures.items)
