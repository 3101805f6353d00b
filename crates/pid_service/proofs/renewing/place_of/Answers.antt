use Rattle.std.proofs.Common.{arith, length, refl}
use Rattle.pid_service.proofs.Places.{all_below, before_more, end_place, found_place, free_place, start_more}
use Rattle.pid_service.proofs.renewing.place_of.Goals as goal

pub returns-in-Equal : goal.returns-in-Equal
returns-in-Equal c =
    let i = c.loop-index.invariant in
    found_place c.args.extents.now c.loop-index.index _ c.loop-index-test.true c.args.path c.loop-index.start c.loop-index.before i.start i.before i.below c.from.result c.from.ensures c.in-Equal.ensures

pub returns-in-Less : goal.returns-in-Less
returns-in-Less c =
    let i = c.loop-index.invariant in
    free_place c.args.extents.now c.loop-index.index _ c.loop-index-test.true c.args.path c.loop-index.start c.loop-index.before i.start i.before i.below c.in-Less.ensures

pub loop-index-preserved : goal.loop-index-preserved
loop-index-preserved c =
    let i = c.loop-index.invariant in
    record {
      few = omega (arith, c.if-end-gt-MOST_BYTES.false);
      start = start_more c.args.extents.now c.loop-index.index _ c.loop-index-test.true c.loop-index.start c.from.result i.start c.from.ensures;
      before = before_more c.args.extents.now c.loop-index.index _ c.loop-index-test.true;
      below = all_below c.args.extents.now c.loop-index.index _ c.loop-index-test.true c.args.path i.below c.in-Greater.ensures;
    }

pub returns : goal.returns
returns c =
    let i = c.loop-index.invariant in
    end_place c.args.extents.now c.loop-index.index (omega (arith, c.loop-index-test.false)) c.args.path c.loop-index.start c.loop-index.before i.start i.before i.below (length c.args.extents.now) refl
