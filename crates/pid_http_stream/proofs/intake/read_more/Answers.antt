use Rattle.std.proofs.Common.{rules, refl, sym, ◌≡◌, ◌∙◌, length}
use Rattle.std.proofs.KnownBytes.{Consumes-nil}
use Rattle.pid_http_stream.specs.Steps.BodyLaws.{no_turns}
use Rattle.pid_ident.specs.Steps.MomentLaws.{since_none}
use Rattle.pid_http_stream.specs.Steps.Intakes.{IsMoment}
use Rattle.pid_http_stream.proofs.HeadReads.{none_came, piece_came, piece_fits, stopped_is_none, no_piece, filled_stays, filled_turns, filled_stops}
use Rattle.pid_http_stream.proofs.intake.read_more.Goals as goal

pub returns-then-is_err : goal.returns-then-is_err
returns-then-is_err g c = record {
  comes = none_came _ _ _ _ c.reserve.ensures.items (Consumes-nil _);
  stays = c.reserve.ensures.items;
  piece = λ e. stopped_is_none _ e;
  turns = no_turns 0 _;
  noted = since_none (IsMoment _ _) _;
  stopped = refl;
  goes = g.met.I.Incoming.stays _;
}

pub returns-in-Ok : goal.returns-in-Ok
returns-in-Ok g c = record {
  comes = piece_came _ _ _ _ _ _ c.reserve.ensures.items c.in-Ok.ensures.read.brings.0 c.keep.ensures.kept;
  stays = rw c.keep.ensures.piece tt;
  piece = let sized : length c.read_turn.new.buffer ≡ 4096 = search rules in
      λ e. (c.in-Ok.ensures.read.brings.4, piece_fits _ _ _ c.read_turn.new.buffer c.in-Ok.count _ c.reserve.ensures.items c.keep.ensures.kept c.in-Ok.ensures.read.brings.2 sized);
  turns = rw c.keep.ensures.piece c.in-Ok.ensures.read.turns;
  noted = c.in-Ok.ensures.read.noted;
  stopped = rw c.keep.ensures.piece c.in-Ok.ensures.read.brings.3;
  goes = c.read_turn.ensures.goes;
}

pub returns-in-Err : goal.returns-in-Err
returns-in-Err g c = record {
  comes = none_came _ _ _ _ c.reserve.ensures.items c.in-Err.ensures.read.brings.0;
  stays = rw c.filled_by.ensures (filled_stays c.in-Err.fault _ _ _ c.in-Err.ensures.read.brings.1 c.reserve.ensures.items);
  piece = λ e. no_piece c.in-Err.fault (sym c.filled_by.ensures ∙ e);
  turns = rw c.filled_by.ensures (filled_turns c.in-Err.fault _ _ c.in-Err.ensures.read.turns);
  noted = c.in-Err.ensures.read.noted;
  stopped = rw c.filled_by.ensures (filled_stops c.in-Err.fault _ _ c.in-Err.ensures.read.brings.1 c.in-Err.ensures.read.brings.2);
  goes = c.read_turn.ensures.goes;
}
