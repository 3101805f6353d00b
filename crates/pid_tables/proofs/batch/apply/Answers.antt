use Rattle.pid_tables.specs.Rows.Shows.{counts_of}
use Rattle.pid_moderation.specs.Changes.{changed}
use Rattle.pid_tables.proofs.OfRows.GoingLemmas.{earlier, holds_on, within_on}
use Rattle.pid_tables.proofs.ApplyLemmas.{succeeds, faults}
use Rattle.pid_tables.proofs.batch.apply.Goals as goal

pub returns-clause-holds : goal.returns-clause-holds
returns-clause-holds g c counts v w within =
    let new = c.write_change.new.batch in
    holds_on (g.B.Batch.batch.state c.args.batch.now) (g.B.Batch.batch.state new) c.write_change.result counts v w (g.met.B.Batch.clean new) c.write_change.ensures.goes within

pub returns-clause-applied : goal.returns-clause-applied
returns-clause-applied g c counts v w within counted fits =
    let new = c.write_change.new.batch in
    let after = changed c.args.change.now w in
    within_on (g.B.Batch.batch.state c.args.batch.now) (g.B.Batch.batch.state new) c.write_change.result counts (counts_of after) v w after (g.met.B.Batch.clean new) c.write_change.ensures.goes within
    (λ clean inside shows. succeeds _ _ c.write_change.result (c.write_change.ensures.shows clean inside counts w shows counted fits))

pub returns-clause-only_store : goal.returns-clause-only_store
returns-clause-only_store g c clean opened counts v w within counted fits =
    let early = earlier (g.B.Batch.batch.state c.args.batch.now) (g.B.Batch.batch.state c.write_change.new.batch) c.write_change.ensures.goes.survives clean in
    faults _ _ c.write_change.result (c.write_change.ensures.shows clean (within.inside early) counts w (within.shows opened) counted fits)
