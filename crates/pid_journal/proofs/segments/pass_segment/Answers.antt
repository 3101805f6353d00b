use Rattle.std.proofs.Common.{false, true, [], ◌∷◌, inl, refl}
use Rattle.pid_journal.proofs.Comparing.{not_late}
use Rattle.pid_journal.proofs.InTurn.{come_later, fault_passes, follow_passes, none_passes, skip_begun, skip_passes, stays_through}
use Rattle.pid_journal.proofs.ObeyedInTurn.{obeys_later, obeys_still, stops_later, stops_still}
use Rattle.pid_journal.proofs.segments.pass_segment.Goals as goal

pub returns-then-next-revision-clause-passed : goal.returns-then-next-revision-clause-passed
returns-then-next-revision-clause-passed g c =
    skip_passes g.R.RegistryCalls g.F.JournalFolder c.args.registry.now c.revision_of.new.registry c.args.folder.now c.args.begin c.args.next c.in-Ok.revision false c.in-Ok.ensures.kept c.in-Ok.ensures.told c.if-next-revision.true

pub returns-in-Ok-follow_segment-clause-passed : goal.returns-in-Ok-follow_segment-clause-passed
returns-in-Ok-follow_segment-clause-passed g c =
    follow_passes g.R.RegistryCalls g.F.JournalFolder c.args.registry.now c.revision_of.new.registry c.follow_segment.new.registry c.args.folder.now c.args.begin c.args.next c.in-Ok.revision c.in-Ok-follow_segment._text true
    c.follow_segment.ensures.brings.honest c.in-Ok.ensures.kept c.in-Ok.ensures.told c.if-next-revision.false c.in-Ok-follow_segment.ensures.followed

pub returns-in-Err-follow_segment-clause-passed : goal.returns-in-Err-follow_segment-clause-passed
returns-in-Err-follow_segment-clause-passed g c =
    fault_passes g.R.RegistryCalls g.F.JournalFolder c.args.registry.now c.revision_of.new.registry c.follow_segment.new.registry c.args.folder.now c.args.begin c.args.next c.in-Ok.revision c.in-Err-follow_segment.fault c.fault_between.result
    c.follow_segment.ensures.brings.honest c.in-Ok.ensures.kept c.in-Ok.ensures.told c.if-next-revision.false c.in-Err-follow_segment.ensures.followed c.fault_between.ensures.refused

pub returns-in-Err-clause-passed : goal.returns-in-Err-clause-passed
returns-in-Err-clause-passed g c = none_passes g.R.RegistryCalls g.F.JournalFolder c.args.registry.now c.revision_of.new.registry c.args.folder.now c.args.begin c.args.next c.in-Err.fault c.in-Err.ensures.fault.0 c.revision_of.ensures.kept

-- a registry that has come to the next one
pub returns-then-next-revision-clause-late : goal.returns-then-next-revision-clause-late
returns-then-next-revision-clause-late g c clean h shown late = (refl, c.in-Ok.ensures.kept clean h shown)

pub returns-in-Ok-follow_segment-clause-late : goal.returns-in-Ok-follow_segment-clause-late
returns-in-Ok-follow_segment-clause-late g c clean h shown late = absurd (not_late g.R.RegistryCalls.showing c.args.registry.now c.revision_of.new.registry c.in-Ok.revision c.args.next h c.in-Ok.ensures.told (c.follow_segment.ensures.brings.honest clean) shown late c.if-next-revision.false)

pub returns-in-Err-follow_segment-clause-late : goal.returns-in-Err-follow_segment-clause-late
returns-in-Err-follow_segment-clause-late g c clean h shown late = absurd (not_late g.R.RegistryCalls.showing c.args.registry.now c.revision_of.new.registry c.in-Ok.revision c.args.next h c.in-Ok.ensures.told (c.follow_segment.ensures.brings.honest clean) shown late c.if-next-revision.false)

-- the registry had come to this one
pub returns-then-next-revision-clause-begun : goal.returns-then-next-revision-clause-begun
returns-then-next-revision-clause-begun g c before = skip_begun g.R.RegistryCalls.showing c.args.registry.now c.revision_of.new.registry c.args.begin c.args.next c.in-Ok.revision c.in-Ok.ensures.told before c.if-next-revision.true

pub returns-in-Ok-follow_segment-clause-begun : goal.returns-in-Ok-follow_segment-clause-begun
returns-in-Ok-follow_segment-clause-begun g c before = come_later g.R.RegistryCalls.showing c.args.registry.now c.revision_of.new.registry c.follow_segment.new.registry c.args.begin c.follow_segment.ensures.brings.honest c.in-Ok.ensures.kept c.in-Ok-follow_segment.ensures.come

-- WHICH LINES

pub returns-in-Err-clause-brings : goal.returns-in-Err-clause-brings
returns-in-Err-clause-brings g c = record {
  honest = c.revision_of.ensures.honest;
  same = (refl, refl);
  quiet = refl;
  stays = inl c.in-Err.ensures.fault.1;
  obeys = stops_still g.R.RegistryCalls.showing g.F.JournalFolder c.args.registry.now c.revision_of.new.registry c.args.folder.now (c.args.begin ∷ []) c.revision_of.ensures.kept;
}

pub returns-then-next-revision-clause-brings : goal.returns-then-next-revision-clause-brings
returns-then-next-revision-clause-brings g c = record {
  honest = c.revision_of.ensures.honest;
  same = (refl, refl);
  quiet = refl;
  stays = tt;
  obeys = obeys_still g.R.RegistryCalls.showing g.F.JournalFolder c.args.registry.now c.revision_of.new.registry c.args.folder.now (c.args.begin ∷ []) c.revision_of.ensures.kept;
}

pub returns-in-Ok-follow_segment-clause-brings : goal.returns-in-Ok-follow_segment-clause-brings
returns-in-Ok-follow_segment-clause-brings g c = record {
  honest = λ clean. c.revision_of.ensures.honest (c.follow_segment.ensures.brings.honest clean);
  same = c.follow_segment.ensures.brings.same;
  quiet = c.follow_segment.ensures.brings.quiet;
  stays = tt;
  obeys = obeys_later g.R.RegistryCalls.showing g.F.JournalFolder c.args.registry.now c.revision_of.new.registry c.follow_segment.new.registry c.args.folder.now (c.args.begin ∷ []) c.follow_segment.ensures.brings.honest c.revision_of.ensures.kept c.in-Ok-follow_segment.ensures.brings.obeys;
}

pub returns-in-Err-follow_segment-clause-brings : goal.returns-in-Err-follow_segment-clause-brings
returns-in-Err-follow_segment-clause-brings g c = record {
  honest = λ clean. c.revision_of.ensures.honest (c.follow_segment.ensures.brings.honest clean);
  same = c.follow_segment.ensures.brings.same;
  quiet = c.follow_segment.ensures.brings.quiet;
  stays = stays_through g.R.RegistryCalls.showing c.args.registry.now c.revision_of.new.registry c.follow_segment.new.registry false c.in-Err-follow_segment.fault c.fault_between.result (λ off. c.revision_of.ensures.kept) c.follow_segment.ensures.brings.honest
      c.in-Err-follow_segment.ensures.brings.stays (λ on. absurd (let no : ⊥ = cc in no)) c.fault_between.ensures.stays;
  obeys = stops_later g.R.RegistryCalls.showing g.F.JournalFolder c.args.registry.now c.revision_of.new.registry c.follow_segment.new.registry c.args.folder.now (c.args.begin ∷ []) c.follow_segment.ensures.brings.honest c.revision_of.ensures.kept c.in-Err-follow_segment.ensures.brings.obeys;
}

pub returns-then-next-revision-clause-still : goal.returns-then-next-revision-clause-still
returns-then-next-revision-clause-still g c off = c.revision_of.ensures.kept
