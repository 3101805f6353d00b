use Rattle.std.proofs.Common.{inr}
use Rattle.pid_moderation.specs.Views.{views_of}
use Rattle.pid_tables.proofs.OfRows.CauseLemmas.{caused_later}
use Rattle.pid_tables.proofs.OfRows.OnlyReading.{reads_then}
use Rattle.pid_tables.proofs.EarlyCauses.{caused_as, settled_once, settled_caused}
use Rattle.pid_tables.proofs.judging.judge_import.Goals as goal

-- ---- no count of items

pub returns-in-Err-clause-rests : goal.returns-in-Err-clause-rests
returns-in-Err-clause-rests g c = c.items.ensures.rests

pub returns-in-Err-clause-judged : goal.returns-in-Err-clause-judged
returns-in-Err-clause-judged g c clean h sound rest = inr c.refusal_of.ensures.fault

pub returns-in-Err-clause-alive : goal.returns-in-Err-clause-alive
returns-in-Err-clause-alive g c = c.refusal_of.ensures.alive

pub returns-in-Err-clause-caused : goal.returns-in-Err-clause-caused
returns-in-Err-clause-caused g c clean h sound rest =
    inr (caused_as (g.C.Database.state c.args.tables.now.conn) (g.C.Database.state c.items.new.self.conn) c.in-Err.fault c.refusal_of.result c.refusal_of.ensures.same
    (c.in-Err.ensures.told clean (views_of h) rest (c.views_of_sound_histories.ensures.readable h sound)))

-- ---- no facts

pub returns-in-Err-gather-clause-judged : goal.returns-in-Err-gather-clause-judged
returns-in-Err-gather-clause-judged g c clean h sound rest = inr c.refusal_of-in-Err-gather.ensures.fault

pub returns-in-Err-gather-clause-alive : goal.returns-in-Err-gather-clause-alive
returns-in-Err-gather-clause-alive g c = c.refusal_of-in-Err-gather.ensures.alive

pub returns-in-Err-gather-clause-rests : goal.returns-in-Err-gather-clause-rests
returns-in-Err-gather-clause-rests g c = reads_then _ _ _ c.items.ensures.rests c.gather.ensures.rests

pub returns-in-Err-gather-clause-caused : goal.returns-in-Err-gather-clause-caused
returns-in-Err-gather-clause-caused g c clean h sound rest =
    let old = g.C.Database.state c.args.tables.now.conn in
    let new = g.C.Database.state c.gather.new.self.conn in
    let one = c.items.ensures.rests in
    let two = c.gather.ensures.rests in
    inr (caused_as old new c.in-Err-gather.fault c.refusal_of-in-Err-gather.result c.refusal_of-in-Err-gather.ensures.same
    (caused_later old (g.C.Database.state c.items.new.self.conn) new (λ _. ⊥) c.in-Err-gather.fault one.survives two.survives.counts (two.clean clean)
    (c.in-Err-gather.ensures.told clean (views_of h) (one.kept (views_of h) rest) (c.views_of_sound_histories.ensures.readable h sound))))

-- ---- with both

pub returns-in-Some-clause-rests : goal.returns-in-Some-clause-rests
returns-in-Some-clause-rests g c = reads_then _ _ _ c.items.ensures.rests c.gather.ensures.rests

pub returns-in-Some-clause-judged : goal.returns-in-Some-clause-judged
returns-in-Some-clause-judged g c clean h sound rest =
    let kept = c.items.ensures.rests.kept (views_of h) rest in
    let facts = c.in-Ok-gather.ensures.told clean (views_of h) kept (c.views_of_sound_histories.ensures.items h sound) (c.views_of_sound_histories.ensures.parents h sound) in
    settled_once h c.args.command.now c.in-Some.answer (c.in-Some.ensures.settled h _ _ facts)

pub returns-in-Some-clause-caused : goal.returns-in-Some-clause-caused
returns-in-Some-clause-caused g c clean h sound rest =
    let kept = c.items.ensures.rests.kept (views_of h) rest in
    let facts = c.in-Ok-gather.ensures.told clean (views_of h) kept (c.views_of_sound_histories.ensures.items h sound) (c.views_of_sound_histories.ensures.parents h sound) in
    settled_caused (g.C.Database.state c.args.tables.now.conn) (g.C.Database.state c.gather.new.self.conn) h c.args.command.now c.in-Some.answer (c.in-Some.ensures.settled h _ _ facts)

pub returns-in-Some-clause-alive : goal.returns-in-Some-clause-alive
returns-in-Some-clause-alive g c = c.in-Some.ensures.alive

pub returns-in-None-clause-rests : goal.returns-in-None-clause-rests
returns-in-None-clause-rests g c = reads_then _ _ _ c.items.ensures.rests c.gather.ensures.rests

pub returns-in-None-clause-judged : goal.returns-in-None-clause-judged
returns-in-None-clause-judged g c clean h sound rest =
    let kept = c.items.ensures.rests.kept (views_of h) rest in
    let facts = c.in-Ok-gather.ensures.told clean (views_of h) kept (c.views_of_sound_histories.ensures.items h sound) (c.views_of_sound_histories.ensures.parents h sound) in
    (record { facts = facts; waits = c.in-None.ensures.open }, c.in-Ok.ensures.told (c.gather.ensures.rests.clean clean) (views_of h) rest)
