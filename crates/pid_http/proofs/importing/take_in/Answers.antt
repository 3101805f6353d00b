use Rattle.std.proofs.Common.{arith}
use Rattle.pid_moderation.specs.Files.{file_reading}
use Rattle.pid_moderation.specs.BeforeFile.{import_of}
use Rattle.pid_http_stream.proofs.BodyReads.{if_any}
use Rattle.pid_http.specs.Answering.{Obeys}
use Rattle.pid_http.proofs.Imports.{accepted, refused, gave_up}
use Rattle.pid_http.proofs.importing.take_in.Goals as goal

pub returns-in-Ok : goal.returns-in-Ok
returns-in-Ok g c = record {
  read = record { goes = c.in-Ok.ensures.reads.goes; whole = if_any c.made.result _ c.in-Ok.ensures.obeyed.read.at_end };
  replied = let e = c.in-Ok.ensures in
      accepted _ g.met.R.RegistryCalls.lives _ _ c.in-Ok.reply c.args.account c.args.key c.args.format _ _ c.made.result e.failed e.obeyed (c.made.ensures _ c.outcome_reply.ensures);
}

pub returns-in-Err-Refused : goal.returns-in-Err-Refused
returns-in-Err-Refused g c = record {
  read = record { goes = g.met.B.Input.joins _ _ _ c.in-Err-Refused.ensures.reads.goes c.refuse.ensures.read.goes; whole = c.refuse.ensures.read.whole };
  replied = let e = c.in-Err-Refused.ensures in
      refused _ g.met.R.RegistryCalls.lives _ _ c.in-Err-Refused.field-0 c.in-Err-Refused.refusal c.args.account c.args.key c.args.format _ _ _ c.refuse.result c.in-Err-Refused.field-0-is e.failed e.obeyed c.refuse.ensures.ended c.refuse.ensures.replied;
}

pub returns-in-Err-Body : goal.returns-in-Err-Body
returns-in-Err-Body g c = record {
  read = record { goes = c.in-Err-Body.ensures.reads.goes; whole = tt };
  replied = let e = c.in-Err-Body.ensures in
      gave_up _ g.met.R.RegistryCalls.lives _ _ c.in-Err-Body.field-0 c.args.account c.args.key _ _ (λ file. Obeys (import_of c.args.account c.args.key (file_reading file)) c.args.format) (λ file. omega arith) c.in-Err-Body.field-0-is e.failed e.obeyed;
}
