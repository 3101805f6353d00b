use Rattle.std.specs.Prelude.{Some}
use Rattle.pid_moderation.specs.declared.refusal.Refusal.TheVariants.{BadText}
use Rattle.pid_http.specs.Answering.{Denied, import_meaning}
use Rattle.pid_http.specs.Api.Senders.{sending_of}
use Rattle.pid_http.proofs.Imports.{denied_after, of_owner}
use Rattle.pid_http.proofs.Meeting.{denied, short_sender}
use Rattle.pid_http.proofs.importing.import.Goals as goal

pub returns-in-None : goal.returns-in-None
returns-in-None g c = record {
  read = c.refuse.ensures.read;
  replied = rw c.in-None.is (denied_after _ _ (λ file. Denied BadText c.args.format) _ c.refuse.result _ _ c.refuse.ensures.read.whole c.refuse.ensures.replied (λ file k. denied BadText c.args.format k));
}

pub returns-in-None-owner_of : goal.returns-in-None-owner_of
returns-in-None-owner_of g c = record {
  read = c.refuse-in-None-owner_of.ensures.read;
  replied = rw c.in-Some.is (denied_after _ _ (λ file. import_meaning c.args.format (Some (sending_of c.in-Some.sender)) file) _ c.refuse-in-None-owner_of.result _ _ c.refuse-in-None-owner_of.ensures.read.whole c.refuse-in-None-owner_of.ensures.replied (λ file k. short_sender c.args.format (Some (sending_of c.in-Some.sender)) file k));
}

pub returns-in-Some-owner_of : goal.returns-in-Some-owner_of
returns-in-Some-owner_of g c = record {
  read = c.take_in.ensures.read;
  replied = rw c.in-Some.is (of_owner _ _ _ _ _ _ _ c.args.format c.take_in.result _ _ c.in-Some-owner_of.ensures.0 c.in-Some-owner_of.ensures.1 c.take_in.ensures.replied);
}
