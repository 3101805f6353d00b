use Rattle.std.proofs.Common.{sym, ◌∙◌}
use Rattle.pid_http_stream.proofs.Counting.{given_none, given_more, never_live, was_live}
use Rattle.pid_http_stream.proofs.listener.serving.serve_on.Goals as goal

pub returns-then-not-is_live-clause-goes : goal.returns-then-not-is_live-clause-goes
returns-then-not-is_live-clause-goes g c = g.met.S.StreamServer.stays _

pub returns-then-not-is_live-clause-counted : goal.returns-then-not-is_live-clause-counted
returns-then-not-is_live-clause-counted g c = given_none _

pub returns-then-not-is_live-clause-live : goal.returns-then-not-is_live-clause-live
returns-then-not-is_live-clause-live g c = never_live _ (sym c.is_live.ensures ∙ c.if-not-is_live.true)

pub loop-begun-init : goal.loop-begun-init
loop-begun-init g c =
    let live = sym c.is_live.ensures ∙ c.if-not-is_live.false in record { goes = g.met.S.StreamServer.stays _; counted = given_none _; before = live; live = live }

pub returns-in_default-clause-goes : goal.returns-in_default-clause-goes
returns-in_default-clause-goes g c = c.loop-begun.invariant.goes

pub returns-in_default-clause-counted : goal.returns-in_default-clause-counted
returns-in_default-clause-counted g c = c.loop-begun.invariant.counted

pub returns-in_default-clause-live : goal.returns-in_default-clause-live
returns-in_default-clause-live g c = (c.loop-begun.invariant.before, c.loop-begun.invariant.live)

pub returns-then-not-is_live-2-clause-goes : goal.returns-then-not-is_live-2-clause-goes
returns-then-not-is_live-2-clause-goes g c = g.met.S.StreamServer.joins _ _ _ c.loop-begun.invariant.goes c.serve_connection.ensures.goes

pub returns-then-not-is_live-2-clause-counted : goal.returns-then-not-is_live-2-clause-counted
returns-then-not-is_live-2-clause-counted g c = given_more c.loop-begun.begun _ _ _ c.loop-begun.invariant.counted c.serve_connection.ensures.counted

pub returns-then-not-is_live-2-clause-live : goal.returns-then-not-is_live-2-clause-live
returns-then-not-is_live-2-clause-live g c = was_live c.loop-begun.begun _ _ c.loop-begun.invariant.before (sym c.is_live-in-loop-begun.ensures ∙ c.if-not-is_live-2.true)

pub loop-begun-preserved : goal.loop-begun-preserved
loop-begun-preserved g c = record {
  goes = g.met.S.StreamServer.joins _ _ _ c.loop-begun.invariant.goes c.serve_connection.ensures.goes;
  counted = given_more c.loop-begun.begun _ _ _ c.loop-begun.invariant.counted c.serve_connection.ensures.counted;
  before = c.loop-begun.invariant.before;
  live = sym c.is_live-in-loop-begun.ensures ∙ c.if-not-is_live-2.false;
}

pub returns-clause-goes : goal.returns-clause-goes
returns-clause-goes g c = c.loop-begun.invariant.goes

pub returns-clause-live : goal.returns-clause-live
returns-clause-live g c = (c.loop-begun.invariant.before, c.loop-begun.invariant.live)
