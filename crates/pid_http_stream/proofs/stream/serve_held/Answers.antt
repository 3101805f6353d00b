use Rattle.std.proofs.Common.{arith, refl, sym, subst, ◌∙◌, inl}
use Rattle.std.specs.Prelude.{IfSome}
use Rattle.pid_http_stream.specs.Steps.Bodies.{turns_at}
use Rattle.pid_http_stream.specs.Steps.BodyLaws.{no_turns, more_turns}
use Rattle.pid_http_stream.specs.Causes.{idle_reads}
use Rattle.pid_http_stream.specs.Steps.Intakes.{idle_stop}
use Rattle.pid_http_stream.specs.Steps.Loop.{stop_end}
use Rattle.pid_http_stream.proofs.HeadReads.{stops_since}
use Rattle.pid_http_stream.proofs.Leading.{stays, turned, joined, beside}
use Rattle.pid_http_stream.proofs.Looping.{loop_unread, loop_nothing, loop_faulty, loop_stopped, loop_open, loop_ended, loop_waits, loop_waits_within, less_left}
use Rattle.pid_http_stream.proofs.Serving.{IsServing, begins}
use Rattle.pid_http_stream.proofs.Stepping.{clean_is_not_spent, ends_for, fewer_turns, refused_ends, refused_idle, stopped_ends, stopped_idle, why_later}
use Rattle.pid_http_stream.proofs.stream.serve_held.Goals as goal

pub serving-init : goal.serving-init
serving-init g c = record {
  serving = stays _ _ (λ v.
      subst (λ l. IfSome (g.I.Incoming.to_come c.args.input.now) (λ s. IsServing g.H.Handler.conduct (record { handler = v; handler_after = v; taken = g.W.Output.taken c.args.output.now; taken_after = g.W.Output.taken c.args.output.now }) s (g.I.Incoming.to_come c.args.input.now) l 0)) (sym c.requires)
      (begins g.H.Handler.conduct v (g.W.Output.taken c.args.output.now) (g.I.Incoming.to_come c.args.input.now)));
  caught_up = stays _ _ (λ v. loop_unread g.H.Handler.conduct v (g.W.Output.taken c.args.output.now) (g.I.Incoming.to_come c.args.input.now) (g.I.Incoming.moments c.args.input.now));
  becomes = g.met.H.Handler.stays _;
  turns = no_turns 0 _;
  failed = refl;
  goes = g.met.I.Incoming.stays _;
}

pub returns-in-Err : goal.returns-in-Err
returns-in-Err g c = record {
  becomes = g.met.H.Handler.joins _ _ _ c.serving.invariant.becomes c.serve_request.ensures.becomes;
  goes = g.met.I.Incoming.joins _ _ _ (g.met.I.Incoming.joins _ _ _ c.serving.invariant.goes c.read_head.ensures.goes) c.serve_request.ensures.goes;
  served = joined _ _ _ _ _ _ (λ u v w serving stepped. rw c.with_last-answered-in-Err.ensures (loop_ended _ _ _ _ _ _ _ _ _ _ _ _ _ _ _ _ _ serving c.in-Head.ensures.comes c.deref.ensures.value stepped)) c.serving.invariant.serving c.in-Err.ensures.stepped;
  caught_up = joined _ _ _ _ _ _ (λ u v w past step. past) (beside _ _ _ _ _ (λ u v w serving past. loop_waits_within _ _ _ _ _ _ _ _ _ _ _ _ _ _ _ _ serving past c.in-Head.ensures.waits c.in-Head.ensures.comes c.deref.ensures.value c.in-Err.ensures.waits) c.serving.invariant.serving c.serving.invariant.caught_up) c.in-Err.ensures.stepped;
  ended = ends_for _ c.in-Err.end _ (more_turns (idle_reads c.in-Err.end) _ _ _ c.serving.invariant.turns (more_turns (idle_reads c.in-Err.end) _ _ _ c.in-Head.ensures.turns c.in-Err.ensures.turns))
      (why_later _ _ _ _ _ _ _ _ (c.in-Head.ensures.stopped ∙ c.serving.invariant.failed) c.in-Err.end c.in-Err.ensures.ended);
}

pub returns-in-Nothing : goal.returns-in-Nothing
returns-in-Nothing g c = record {
  becomes = c.serving.invariant.becomes;
  goes = g.met.I.Incoming.joins _ _ _ c.serving.invariant.goes c.read_head.ensures.goes;
  served = turned _ _ _ _ (λ v w serving. loop_nothing _ _ _ _ _ _ _ _ _ _ _ serving c.in-Nothing.ensures.comes c.in-Nothing.ensures.head) c.serving.invariant.serving;
  caught_up = beside _ _ _ _ _ (λ u v w serving past. loop_waits _ _ _ _ _ _ _ _ _ _ _ _ serving past c.in-Nothing.ensures.waits) c.serving.invariant.serving c.serving.invariant.caught_up;
  ended = ends_for _ _ _ (more_turns 1 _ _ _ c.serving.invariant.turns c.in-Nothing.ensures.turns) (record { cause = tt; failed = inl (c.in-Nothing.ensures.stopped ∙ c.serving.invariant.failed); spent = λ e. clean_is_not_spent e });
}

pub returns-in-Faulty : goal.returns-in-Faulty
returns-in-Faulty g c = record {
  becomes = c.serving.invariant.becomes;
  goes = g.met.I.Incoming.joins _ _ _ c.serving.invariant.goes c.read_head.ensures.goes;
  served = turned _ _ _ _ (λ v w serving. rw c.with_last-answered.ensures (loop_faulty _ _ _ _ _ _ _ _ _ _ _ _ _ _ serving c.in-Faulty.ensures.comes c.in-Faulty.ensures.head c.refuse-end.ensures.refused)) c.serving.invariant.serving;
  caught_up = beside _ _ _ _ _ (λ u v w serving past. loop_waits _ _ _ _ _ _ _ _ _ _ _ _ serving past c.in-Faulty.ensures.waits) c.serving.invariant.serving c.serving.invariant.caught_up;
  ended = ends_for _ c.refuse-end.result c.read_head.new.turns_left (rw (refused_idle _ _ _ _ c.refuse-end.ensures.refused) (more_turns 1 _ _ _ c.serving.invariant.turns c.in-Faulty.ensures.turns))
      (refused_ends _ _ _ _ _ _ (c.in-Faulty.ensures.stopped ∙ c.serving.invariant.failed) c.refuse-end.ensures.refused c.refuse-end.ensures.fault);
}

pub returns-in-Stopped : goal.returns-in-Stopped
returns-in-Stopped g c = record {
  becomes = c.serving.invariant.becomes;
  goes = g.met.I.Incoming.joins _ _ _ c.serving.invariant.goes c.read_head.ensures.goes;
  served = turned _ _ _ _ (λ v w serving. rw c.end_of-end.ensures (loop_stopped _ _ _ _ _ _ _ _ _ _ _ _ serving c.in-Stopped.ensures.comes c.in-Stopped.ensures.head)) c.serving.invariant.serving;
  caught_up = beside _ _ _ _ _ (λ u v w serving past. loop_waits _ _ _ _ _ _ _ _ _ _ _ _ serving past c.in-Stopped.ensures.waits) c.serving.invariant.serving c.serving.invariant.caught_up;
  ended = rw c.end_of-end.ensures (ends_for _ (stop_end c.in-Stopped.stop) c.read_head.new.turns_left (rw (stopped_idle c.in-Stopped.stop) (more_turns (idle_stop c.in-Stopped.stop) _ _ _ c.serving.invariant.turns c.in-Stopped.ensures.turns))
      (stopped_ends _ c.in-Stopped.stop _ (stops_since c.in-Stopped.stop _ _ _ _ c.serving.invariant.failed c.in-Stopped.ensures.stopped)));
}

pub serving-preserved : goal.serving-preserved
serving-preserved g c = record {
  serving = joined _ _ _ _ _ _ (λ u v w serving stepped. loop_open _ _ _ _ _ _ _ _ _ _ _ _ _ _ _ _ _ _ serving c.in-Head.ensures.comes c.deref.ensures.value stepped c.saturating_add-answered.ensures c.drop_front.ensures) c.serving.invariant.serving c.in-Ok.ensures.stepped;
  caught_up = joined _ _ _ _ _ _ (λ u v w past step. past) (beside _ _ _ _ _ (λ u v w serving past. loop_waits_within _ _ _ _ _ _ _ _ _ _ _ _ _ _ _ _ serving past c.in-Head.ensures.waits c.in-Head.ensures.comes c.deref.ensures.value c.in-Ok.ensures.waits) c.serving.invariant.serving c.serving.invariant.caught_up) c.in-Ok.ensures.stepped;
  becomes = g.met.H.Handler.joins _ _ _ c.serving.invariant.becomes c.serve_request.ensures.becomes;
  turns = more_turns 0 _ _ _ c.serving.invariant.turns (more_turns 0 _ _ _ c.in-Head.ensures.turns c.in-Ok.ensures.turns);
  failed = c.in-Ok.ensures.ended ∙ c.in-Head.ensures.stopped ∙ c.serving.invariant.failed;
  goes = g.met.I.Incoming.joins _ _ _ (g.met.I.Incoming.joins _ _ _ c.serving.invariant.goes c.read_head.ensures.goes) c.serve_request.ensures.goes;
}

pub overflow_add-spans : goal.overflow_add-spans
overflow_add-spans g c = let stands = c.in-Head.ensures.head in omega (arith, stands.short, stands.fits)

pub serving-smaller : goal.serving-smaller
serving-smaller g c =
    let stands = c.in-Head.ensures.head in
    less_left _ _ c.serve_request.new.turns_left _ _ _ _ _ c.read_head.ensures.pace (fewer_turns 0 (turns_at g.I.Incoming c.read_head.new.input c.read_head.new.turns_left) (turns_at g.I.Incoming c.serve_request.new.input c.serve_request.new.turns_left) c.in-Ok.ensures.turns) stands.some stands.within.section.len_fits c.drop_front.ensures
