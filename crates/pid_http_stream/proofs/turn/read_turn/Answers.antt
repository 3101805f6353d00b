use Rattle.std.proofs.Common.{rules, take, refl, inl, inr}
use Rattle.std.proofs.KnownBytes.{Consumes-nil}
use Rattle.pid_http_stream.specs.Steps.BodyLaws.{no_turns}
use Rattle.pid_ident.specs.Steps.MomentLaws.{since_none}
use Rattle.pid_http_stream.specs.Steps.Intakes.{IsMoment}
use Rattle.pid_http_stream.proofs.BodyReads.{keeps_nil, one_less, one_turn, last_turn, some_of, some_taken, some_by, still_good}
use Rattle.pid_http_stream.proofs.Noting.{since_noted}
use Rattle.pid_http_stream.proofs.turn.read_turn.Goals as goal

pub returns-then-turns_left-eq0-clause-read : goal.returns-then-turns_left-eq0-clause-read
returns-then-turns_left-eq0-clause-read g c = record {
  brings = (Consumes-nil _, c.if-turns_left-eq0.true, inl refl);
  turns = no_turns 0 _;
  noted = since_none (IsMoment _ _) _;
}

pub returns-then-turns_left-eq0-clause-goes : goal.returns-then-turns_left-eq0-clause-goes
returns-then-turns_left-eq0-clause-goes g c = g.met.I.Incoming.stays _

pub returns-in-Err-clause-read : goal.returns-in-Err-clause-read
returns-in-Err-clause-read g c = record {
  brings = (keeps_nil _ _ c.in-Err.ensures.bytes, some_by _ _ c.in-Err.ensures.fault, inr refl);
  turns = last_turn _ _ c.args.turns_left.now _ (some_of _ c.if-turns_left-eq0.false) c.read_after.ensures.count (keeps_nil _ _ c.in-Err.ensures.bytes) c.in-Err.ensures.noted;
  noted = since_noted _ _ _ _ c.in-Err.ensures.noted;
}

pub returns-in-Err-clause-goes : goal.returns-in-Err-clause-goes
returns-in-Err-clause-goes g c = c.read_after.ensures.goes

pub returns-in-Ok-eq0-clause-read : goal.returns-in-Ok-eq0-clause-read
returns-in-Ok-eq0-clause-read g c =
    let none = rw c.in-Ok-eq0.field-0-test at c.in-Ok-eq0.ensures.bytes.0 in record {
      brings = (none, c.in-Ok-eq0.ensures.bytes.1 c.in-Ok-eq0.field-0-test (search rules), inl (still_good _ _ _ c.in-Ok-eq0.ensures.kept c.in-Ok-eq0.ensures.fault));
      turns = last_turn _ _ c.args.turns_left.now _ (some_of _ c.if-turns_left-eq0.false) c.read_after.ensures.count none c.in-Ok-eq0.ensures.noted;
      noted = since_noted _ _ _ _ c.in-Ok-eq0.ensures.noted;
    }

pub returns-in-Ok-eq0-clause-goes : goal.returns-in-Ok-eq0-clause-goes
returns-in-Ok-eq0-clause-goes g c = c.read_after.ensures.goes

pub returns-in-Ok-clause-read : goal.returns-in-Ok-clause-read
returns-in-Ok-clause-read g c = record {
  brings = (c.in-Ok.ensures.bytes.0, some_of c.in-Ok.count c.in-Ok.count-test.1, c.in-Ok.ensures.room, still_good _ _ _ c.in-Ok.ensures.kept c.in-Ok.ensures.fault, one_less c.args.turns_left.now c.if-turns_left-eq0.false);
  turns = one_turn _ _ c.args.turns_left.now _ (take c.in-Ok.count c.read_after.new.buffer) (some_of _ c.if-turns_left-eq0.false) c.read_after.ensures.count c.in-Ok.ensures.bytes.0 (some_taken c.in-Ok.count c.read_after.new.buffer c.in-Ok.count-test.1 c.in-Ok.ensures.room)
      c.in-Ok.ensures.noted;
  noted = since_noted _ _ _ _ c.in-Ok.ensures.noted;
}

pub returns-in-Ok-clause-goes : goal.returns-in-Ok-clause-goes
returns-in-Ok-clause-goes g c = c.read_after.ensures.goes
