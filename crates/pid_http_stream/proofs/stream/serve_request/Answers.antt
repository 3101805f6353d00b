use Rattle.std.proofs.Common.{inl}
use Rattle.pid_http_stream.proofs.Leading.{turned, joined}
use Rattle.pid_http_stream.proofs.Stepping.{replied_step, memory_step, broken_step, sent_ends, sent_turns, broken_ends, broken_idle, memory_is_not_spent}
use Rattle.pid_http_stream.proofs.stream.serve_request.Goals as goal

pub returns-in-Reply : goal.returns-in-Reply
returns-in-Reply g c = record {
  becomes = g.met.H.Handler.joins _ _ _ c.in-Reply.ensures.becomes c.send.ensures.becomes;
  stepped = joined _ _ _ _ _ _ (λ u v w asked sent. rw c.answered_by.ensures (replied_step g.H.Handler.conduct u v w _ _ _ _ c.args.head.now.bytes.now c.args.head.now.fields.now c.args.head.now.spans c.args.content_length c.in-Reply.reply c.send.result c.closes-closes.result asked sent c.closes-closes.ensures)) c.in-Reply.ensures.asked c.send.ensures.sent;
  turns = rw c.answered_by.ensures (sent_turns c.send.result c.closes-closes.result _ _ c.in-Reply.ensures.turns);
  waits = c.in-Reply.ensures.waits;
  ended = rw c.answered_by.ensures (sent_ends _ _ c.send.result c.closes-closes.result c.in-Reply.ensures.stopped c.send.ensures.stops);
  goes = c.in-Reply.ensures.goes;
}

pub returns-in-NoMemory : goal.returns-in-NoMemory
returns-in-NoMemory g c = record {
  becomes = c.in-NoMemory.ensures.becomes;
  stepped = turned _ _ _ _ (λ v w asked. memory_step _ _ _ _ _ _ c.args.head.now.bytes.now c.args.head.now.fields.now c.args.head.now.spans c.args.content_length asked) c.in-NoMemory.ensures.asked;
  turns = c.in-NoMemory.ensures.turns;
  waits = c.in-NoMemory.ensures.waits;
  ended = record { cause = tt; failed = inl c.in-NoMemory.ensures.stopped; spent = λ e. memory_is_not_spent e };
  goes = c.in-NoMemory.ensures.goes;
}

pub returns-in-Broken : goal.returns-in-Broken
returns-in-Broken g c = record {
  becomes = c.in-Broken.ensures.becomes;
  stepped = turned _ _ _ _ (λ v w asked. broken_step _ _ _ _ _ _ _ c.args.head.now.bytes.now c.args.head.now.fields.now c.args.head.now.spans c.args.content_length c.in-Broken.fault _ asked c.end_broken.ensures.ended) c.in-Broken.ensures.asked;
  turns = rw (broken_idle c.in-Broken.fault _ _ _ c.end_broken.ensures.ended) c.in-Broken.ensures.turns;
  waits = c.in-Broken.ensures.waits;
  ended = broken_ends _ c.in-Broken.fault _ _ _ _ c.end_broken.ensures.ended c.in-Broken.ensures.stopped c.end_broken.ensures.fault;
  goes = c.in-Broken.ensures.goes;
}
