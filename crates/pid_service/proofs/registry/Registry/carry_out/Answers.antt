use Rattle.std.proofs.Common.{Ok, refl, rules, subst}
use Rattle.pid_service.proofs.Words.{Judged, JudgesCommand, views_of}
use Rattle.pid_service.proofs.Obeyed.{accepted, failed, kept}
use Rattle.pid_service.proofs.Reached.{reached_views}
use Rattle.pid_service.proofs.registry.Registry.carry_out.Goals as goal

-- ---- a reply that was kept

pub returns-in-Kept : goal.returns-in-Kept
returns-in-Kept g c = record {
  obeyed = λ h asks to. kept g.C.Database c.args.self.now h asks c.in-Kept.reply to.shows (subst (λ (j : Judged). JudgesCommand h asks (Ok j)) c.in-Kept.is to.comes);
  repeated = search rules;
  held = record { clean = λ clean. clean; live = refl; limit = refl };
}

-- ---- a change

pub returns-in-Ok : goal.returns-in-Ok
returns-in-Ok g c = record {
  obeyed = λ h asks to.
      accepted g.C.Database c.args.self.now _ h asks c.in-Accepted.change c.in-Accepted.reply to.shows (subst (λ (j : Judged). JudgesCommand h asks (Ok j)) c.in-Accepted.is to.comes) to.reached
      (λ v rest fit. c.in-Ok.ensures.stands v rest fit) refl c.write.ensures.ends.clean
      (λ fits kept. c.follow.ensures (views_of h) (reached_views h to.shows.history) fits kept);
  repeated = search rules;
  held = record { clean = c.write.ensures.ends.clean; live = refl; limit = c.write.ensures.ends.limit };
}

pub returns-in-Err : goal.returns-in-Err
returns-in-Err g c = record {
  obeyed = λ h asks to.
      failed g.C.Database c.args.self.now _ h asks c.in-Accepted.change c.in-Accepted.reply c.refusal_of.result to.shows (subst (λ (j : Judged). JudgesCommand h asks (Ok j)) c.in-Accepted.is to.comes) to.reached
      (λ v rest fit. c.in-Err.ensures.either v rest fit) refl c.clear.ensures c.refusal_of.ensures.fault;
  repeated = search rules;
  held = record { clean = c.write.ensures.ends.clean; live = (c.refusal_of.ensures.fault, refl); limit = c.write.ensures.ends.limit };
}
