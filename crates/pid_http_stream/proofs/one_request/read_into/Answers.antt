use Rattle.std.proofs.Common.{rules, sym, ◌∙◌}
use Rattle.pid_http_stream.proofs.BodyReads.{kept_more, ended}
use Rattle.pid_http_stream.proofs.one_request.read_into.Goals as goal

pub loop-preserved : goal.loop-preserved
loop-preserved g c = record {
  consumed = kept_more _ _ _ c.extend_from_slice.result _ _ _ c.loop.invariant.consumed c.in-Ok.ensures.bytes.0 c.extend_from_slice.ensures.items (sym c.is_err.ensures.value ∙ c.if-is_err.false);
  goes = g.met.B.Input.joins _ _ _ c.loop.invariant.goes c.read.ensures.goes;
}

pub returns-then-count-eq0 : goal.returns-then-count-eq0
returns-then-count-eq0 g c = record {
  goes = g.met.B.Input.joins _ _ _ c.loop.invariant.goes c.read.ensures.goes;
  whole = (
    ended _ _ _ _ c.read.new.buffer c.in-Ok.count c.loop.invariant.consumed c.in-Ok.ensures.bytes.0 c.if-count-eq0.true,
    c.in-Ok.ensures.bytes.1 c.if-count-eq0.true (search rules),
  );
}

pub returns-in_default : goal.returns-in_default
returns-in_default g c = record {
  goes = g.met.B.Input.joins _ _ _ c.loop.invariant.goes c.read.ensures.goes;
  whole = tt;
}

pub returns-then-is_err : goal.returns-then-is_err
returns-then-is_err g c = record {
  goes = g.met.B.Input.joins _ _ _ c.loop.invariant.goes c.read.ensures.goes;
  whole = tt;
}

pub returns-else-is_err : goal.returns-else-is_err
returns-else-is_err g c = record {
  goes = g.met.B.Input.joins _ _ _ c.loop.invariant.goes c.read.ensures.goes;
  whole = tt;
}
