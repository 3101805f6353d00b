use Rattle.std.proofs.Common.{rules, length, refl, sym, ap, subst, ◌∙◌, arith, inl}
use Rattle.httparse.specs.Grammar.{HasNoRequest as HasNoHeadYet}
use Rattle.pid_http_stream.specs.Steps.BodyLaws.{no_turns, more_turns}
use Rattle.pid_ident.specs.Steps.MomentLaws.{since_none}
use Rattle.pid_http_stream.specs.Steps.Intakes.{IsHeadRead, WaitsForRequest, idle_stop}
use Rattle.pid_http_stream.specs.Unfinished.{IsHeadUnfinished, IsUnfinished}
use Rattle.pid_http_stream.proofs.BodyReads.{idle_turns}
use Rattle.pid_http_stream.proofs.HeadReads.{judged_none, judged_found, nothing_came, comes_then, any_faulty, stops_never, stops_since, still_fits, still_wants, waits_on}
use Rattle.pid_http_stream.proofs.intake.read_head.Goals as goal

pub reading-init : goal.reading-init
reading-init g c = record {
  comes = nothing_came _ _;
  judged = search rules;
  turns = no_turns 0 _;
  failed = refl;
  pace = omega arith;
  waits = since_none (WaitsForRequest _ _ _) _;
  goes = g.met.I.Incoming.stays _;
}

pub reading-preserved : goal.reading-preserved
reading-preserved g c = record {
  comes = comes_then _ _ _ _ _ _ c.reading.invariant.comes c.in-Piece.ensures.comes;
  judged = search rules;
  turns = more_turns 0 _ _ _ c.reading.invariant.turns c.in-Piece.ensures.turns;
  failed = c.in-Piece.ensures.stopped ∙ c.reading.invariant.failed;
  pace = let p = c.in-Piece.ensures.piece refl in omega (arith, c.reading.invariant.pace, p.0, p.1);
  waits = waits_on _ _ _ _ _ _ _ _ c.reading.invariant.comes (inl (judged_none c.reading.held.items c.reading.fields _ _ c.in-Ok.is c.in-None.is c.reading.invariant.judged)) c.reading.invariant.waits c.in-Piece.ensures.noted;
  goes = g.met.I.Incoming.joins _ _ _ c.reading.invariant.goes c.in-Piece.ensures.goes;
}

pub returns-in-Err : goal.returns-in-Err
returns-in-Err g c = record {
  comes = c.reading.invariant.comes;
  head = any_faulty _ _ (rw c.in-Err.is at c.reading.invariant.judged) _;
  turns = idle_turns 1 _ _ c.reading.invariant.turns;
  pace = c.reading.invariant.pace;
  waits = c.reading.invariant.waits;
  stopped = c.reading.invariant.failed;
  goes = c.reading.invariant.goes;
}

pub returns-in-Stopped : goal.returns-in-Stopped
returns-in-Stopped g c = record {
  comes = comes_then _ _ _ _ _ _ c.reading.invariant.comes c.in-Stopped.ensures.comes;
  head = subst IsUnfinished (sym c.in-Stopped.ensures.stays) (inl (judged_none c.reading.held.items c.reading.fields _ _ c.in-Ok.is c.in-None.is c.reading.invariant.judged));
  turns = more_turns (idle_stop c.in-Stopped.stop) _ _ _ c.reading.invariant.turns c.in-Stopped.ensures.turns;
  pace = omega (arith, c.reading.invariant.pace, c.in-Stopped.ensures.turns.spent, ap length c.in-Stopped.ensures.stays);
  waits = waits_on _ _ _ _ _ _ _ _ c.reading.invariant.comes (inl (judged_none c.reading.held.items c.reading.fields _ _ c.in-Ok.is c.in-None.is c.reading.invariant.judged)) c.reading.invariant.waits c.in-Stopped.ensures.noted;
  stopped = stops_since c.in-Stopped.stop _ _ _ _ c.reading.invariant.failed c.in-Stopped.ensures.stopped;
  goes = g.met.I.Incoming.joins _ _ _ c.reading.invariant.goes c.in-Stopped.ensures.goes;
}

pub returns-in-End : goal.returns-in-End
returns-in-End g c = record {
  comes = comes_then _ _ _ _ _ _ c.reading.invariant.comes c.in-End.ensures.comes;
  head = subst (λ l. IsHeadRead l c.reading.fields (g.I.Incoming.to_come c.read_more.new.input) c.judge_end.result) c.deref-in-End.ensures.value (c.judge_end.ensures.judged _ _ c.in-End.ensures.stays.1);
  turns = rw c.judge_end.ensures.idle (more_turns 1 _ _ _ c.reading.invariant.turns c.in-End.ensures.turns);
  pace = omega (arith, c.reading.invariant.pace, c.in-End.ensures.turns.spent, ap length c.in-End.ensures.stays.0);
  waits = waits_on _ _ _ _ _ _ _ _ c.reading.invariant.comes (inl (judged_none c.reading.held.items c.reading.fields _ _ c.in-Ok.is c.in-None.is c.reading.invariant.judged)) c.reading.invariant.waits c.in-End.ensures.noted;
  stopped = stops_never c.judge_end.result _ _ _ _ c.judge_end.ensures.stopped c.in-End.ensures.stopped c.reading.invariant.failed;
  goes = g.met.I.Incoming.joins _ _ _ c.reading.invariant.goes c.in-End.ensures.goes;
}

pub reading-smaller : goal.reading-smaller
reading-smaller g c = let p = c.in-Piece.ensures.piece refl in omega (arith, p.0)

pub judge_end-requires-clause-none : goal.judge_end-requires-clause-none
judge_end-requires-clause-none g c =
    let u : IsHeadUnfinished c.reading.held.items = judged_none c.reading.held.items c.reading.fields _ _ c.in-Ok.is c.in-None.is c.reading.invariant.judged in
    subst HasNoHeadYet (sym (c.deref-in-End.ensures.value ∙ c.in-End.ensures.stays.0)) u.none

pub judge_end-requires-clause-short : goal.judge_end-requires-clause-short
judge_end-requires-clause-short g c =
    let u : IsHeadUnfinished c.reading.held.items = judged_none c.reading.held.items c.reading.fields _ _ c.in-Ok.is c.in-None.is c.reading.invariant.judged in
    let e = ap length (c.deref-in-End.ensures.value ∙ c.in-End.ensures.stays.0) in omega (arith, e, u.short)

pub returns-in-Some : goal.returns-in-Some
returns-in-Some g c = record {
  comes = c.reading.invariant.comes;
  head = judged_found c.reading.held.items c.reading.fields _ _ _ c.in-Ok.is c.in-Some.is c.reading.invariant.judged;
  turns = c.reading.invariant.turns;
  pace = c.reading.invariant.pace;
  waits = c.reading.invariant.waits;
  stopped = c.reading.invariant.failed;
  goes = c.reading.invariant.goes;
}

pub read_more-requires : goal.read_more-requires
read_more-requires g c = inl (judged_none c.reading.held.items c.reading.fields _ _ c.in-Ok.is c.in-None.is c.reading.invariant.judged)

pub judge_more-judged-requires-clause-wants : goal.judge_more-judged-requires-clause-wants
judge_more-judged-requires-clause-wants g c =
    still_wants c.reading.held.items c.read_more.new.held.items c.deref-in-Piece.result.now c.len-before.result _ _ c.deref-in-Piece.ensures.value c.in-Piece.ensures.comes (c.len-before.ensures ∙ search rules) (judged_none c.reading.held.items c.reading.fields _ _ c.in-Ok.is c.in-None.is c.reading.invariant.judged)

pub judge_more-judged-requires-clause-before : goal.judge_more-judged-requires-clause-before
judge_more-judged-requires-clause-before g c =
    still_fits c.reading.held.items c.read_more.new.held.items c.deref-in-Piece.result.now c.len-before.result _ _ c.deref-in-Piece.ensures.value c.in-Piece.ensures.comes (c.len-before.ensures ∙ search rules)
