use Rattle.std.proofs.Common.{◌≡◌, refl, true, ◌∙◌}
use Rattle.pid_journal.specs.Steps.Comparing.{IsWithin}
use Rattle.pid_journal.proofs.Comparing.{fault_all, last_all, none_all, refused_all}
use Rattle.pid_journal.proofs.InTurn.{came, ends_all, err_between, err_last, first_at_end, first_newer, first_turn, none_first, none_follows, not_newer, ok_last, stays_through, turns}
use Rattle.pid_journal.proofs.ObeyedInTurn.{obeys_last, obeys_still, stops_last}
use Rattle.pid_journal.proofs.segments.follow_all.Goals as goal

pub loop-next-init : goal.loop-next-init
loop-next-init g c = first_turn g.R.RegistryCalls.showing g.F.JournalFolder c.args.registry.now c.args.folder.now c.args.begins.now c.in-Some.begin c.in-Some.rest.now c.in-Some.ensures

pub returns-in_default-clause-followed : goal.returns-in_default-clause-followed
returns-in_default-clause-followed g c = none_follows g.R.RegistryCalls g.F.JournalFolder c.args.registry.now c.args.folder.now c.args.begins.now c.in_default.ensures

pub returns-in-Err-clause-followed : goal.returns-in-Err-clause-followed
returns-in-Err-clause-followed g c =
    err_between g.R.RegistryCalls g.F.JournalFolder c.args.registry.now c.loop-next.registry c.pass_segment.new.registry c.args.folder.now c.loop-next.folder c.args.begins.now c.loop-next.begin c.in-Some-first_of.next c.loop-next.rest.now c.in-Some-first_of.others.now c.loop-next.moved c.in-Err.fault c.fault_after.result
    c.loop-next.invariant c.in-Some-first_of.ensures c.pass_segment.ensures.brings.honest c.in-Err.ensures.passed c.fault_after.ensures.refused

pub loop-next-preserved-then-moved : goal.loop-next-preserved-then-moved
loop-next-preserved-then-moved g c =
    turns g.R.RegistryCalls.showing g.F.JournalFolder c.args.registry.now c.loop-next.registry c.pass_segment.new.registry c.args.folder.now c.loop-next.folder c.pass_segment.new.folder c.args.begins.now c.loop-next.begin c.in-Some-first_of.next c.loop-next.rest.now c.in-Some-first_of.others.now c.loop-next.moved c.in-Ok.obeyed c.loop-next.moved
    c.loop-next.invariant c.in-Some-first_of.ensures c.pass_segment.ensures.brings.same c.pass_segment.ensures.brings.quiet c.pass_segment.ensures.brings.honest c.in-Ok.ensures.still (λ off. let on : c.loop-next.moved ≡ true = c.if-moved.true in absurd (let no : ⊥ = cc in no)) (λ off none. off) c.in-Ok.ensures.late c.in-Ok.ensures.begun c.in-Ok.ensures.brings.obeys
    (λ clean all known h marked shows. c.in-Ok.ensures.passed clean all c.in-Some-first_of.others.now known h marked shows)

pub loop-next-preserved : goal.loop-next-preserved
loop-next-preserved g c =
    turns g.R.RegistryCalls.showing g.F.JournalFolder c.args.registry.now c.loop-next.registry c.pass_segment.new.registry c.args.folder.now c.loop-next.folder c.pass_segment.new.folder c.args.begins.now c.loop-next.begin c.in-Some-first_of.next c.loop-next.rest.now c.in-Some-first_of.others.now c.loop-next.moved c.in-Ok.obeyed c.in-Ok.obeyed
    c.loop-next.invariant c.in-Some-first_of.ensures c.pass_segment.ensures.brings.same c.pass_segment.ensures.brings.quiet c.pass_segment.ensures.brings.honest c.in-Ok.ensures.still (λ off. (c.if-moved.false, off)) (λ off none. none) c.in-Ok.ensures.late c.in-Ok.ensures.begun c.in-Ok.ensures.brings.obeys
    (λ clean all known h marked shows. c.in-Ok.ensures.passed clean all c.in-Some-first_of.others.now known h marked shows)

pub returns-in-Ok-follow_segment-clause-followed : goal.returns-in-Ok-follow_segment-clause-followed
returns-in-Ok-follow_segment-clause-followed g c =
    ok_last g.R.RegistryCalls g.F.JournalFolder c.args.registry.now c.loop-next.registry c.follow_segment.new.registry c.args.folder.now c.loop-next.folder c.args.begins.now c.loop-next.begin c.loop-next.rest.now c.loop-next.moved c.in-Ok-follow_segment.text
    c.loop-next.invariant c.in_default-first_of.ensures c.follow_segment.ensures.brings.honest c.in-Ok-follow_segment.ensures.ended.0 c.in-Ok-follow_segment.ensures.followed

pub returns-in-Ok-follow_segment-clause-ended : goal.returns-in-Ok-follow_segment-clause-ended
returns-in-Ok-follow_segment-clause-ended g c =
    ends_all g.R.RegistryCalls g.F.JournalFolder c.args.registry.now c.loop-next.registry c.args.folder.now c.loop-next.folder c.args.begins.now c.loop-next.begin c.loop-next.rest.now c.loop-next.moved c.in-Ok-follow_segment.text
    c.loop-next.invariant c.in_default-first_of.ensures c.in-Ok-follow_segment.ensures.ended.0 c.in-Ok-follow_segment.ensures.ended.1

pub returns-in-Err-follow_segment-clause-followed : goal.returns-in-Err-follow_segment-clause-followed
returns-in-Err-follow_segment-clause-followed g c =
    err_last g.R.RegistryCalls g.F.JournalFolder c.args.registry.now c.loop-next.registry c.follow_segment.new.registry c.args.folder.now c.loop-next.folder c.args.begins.now c.loop-next.begin c.loop-next.rest.now c.loop-next.moved c.in-Err-follow_segment.fault c.fault_after-in-Err-follow_segment.result
    c.loop-next.invariant c.in_default-first_of.ensures c.follow_segment.ensures.brings.honest c.in-Err-follow_segment.ensures.followed c.fault_after-in-Err-follow_segment.ensures.refused

-- WHICH LINES

pub returns-in_default-clause-brings : goal.returns-in_default-clause-brings
returns-in_default-clause-brings g c = record {
  honest = λ clean. clean;
  same = (refl, refl);
  quiet = refl;
  stays = tt;
  obeys = obeys_still g.R.RegistryCalls.showing g.F.JournalFolder c.args.registry.now c.args.registry.now c.args.folder.now c.args.begins.now (λ clean h shown. shown);
}

pub returns-in-Err-clause-brings : goal.returns-in-Err-clause-brings
returns-in-Err-clause-brings g c = record {
  honest = λ clean. c.loop-next.invariant.clean (c.pass_segment.ensures.brings.honest clean);
  same = (c.pass_segment.ensures.brings.same.0 ∙ c.loop-next.invariant.same.0, c.pass_segment.ensures.brings.same.1 ∙ c.loop-next.invariant.same.1);
  quiet = c.pass_segment.ensures.brings.quiet ∙ c.loop-next.invariant.quiet;
  stays = stays_through g.R.RegistryCalls.showing c.args.registry.now c.loop-next.registry c.pass_segment.new.registry c.loop-next.moved c.in-Err.fault c.fault_after.result c.loop-next.invariant.kept c.pass_segment.ensures.brings.honest
      c.in-Err.ensures.brings.stays c.fault_after.ensures.moved c.fault_after.ensures.stays;
  obeys = stops_last g.R.RegistryCalls.showing g.F.JournalFolder c.args.registry.now c.loop-next.registry c.pass_segment.new.registry c.args.folder.now c.loop-next.folder c.args.begins.now c.loop-next.begin c.loop-next.rest.now c.loop-next.moved c.loop-next.invariant c.pass_segment.ensures.brings.honest c.in-Err.ensures.brings.obeys;
}

pub returns-in-Ok-follow_segment-clause-brings : goal.returns-in-Ok-follow_segment-clause-brings
returns-in-Ok-follow_segment-clause-brings g c = record {
  honest = λ clean. c.loop-next.invariant.clean (c.follow_segment.ensures.brings.honest clean);
  same = (c.follow_segment.ensures.brings.same.0 ∙ c.loop-next.invariant.same.0, c.follow_segment.ensures.brings.same.1 ∙ c.loop-next.invariant.same.1);
  quiet = c.follow_segment.ensures.brings.quiet ∙ c.loop-next.invariant.quiet;
  stays = tt;
  obeys = obeys_last g.R.RegistryCalls.showing g.F.JournalFolder c.args.registry.now c.loop-next.registry c.follow_segment.new.registry c.args.folder.now c.loop-next.folder c.args.begins.now c.loop-next.begin c.loop-next.rest.now c.loop-next.moved c.loop-next.invariant c.follow_segment.ensures.brings.honest c.in-Ok-follow_segment.ensures.brings.obeys;
}

pub returns-in-Err-follow_segment-clause-brings : goal.returns-in-Err-follow_segment-clause-brings
returns-in-Err-follow_segment-clause-brings g c = record {
  honest = λ clean. c.loop-next.invariant.clean (c.follow_segment.ensures.brings.honest clean);
  same = (c.follow_segment.ensures.brings.same.0 ∙ c.loop-next.invariant.same.0, c.follow_segment.ensures.brings.same.1 ∙ c.loop-next.invariant.same.1);
  quiet = c.follow_segment.ensures.brings.quiet ∙ c.loop-next.invariant.quiet;
  stays = stays_through g.R.RegistryCalls.showing c.args.registry.now c.loop-next.registry c.follow_segment.new.registry c.loop-next.moved c.in-Err-follow_segment.fault c.fault_after-in-Err-follow_segment.result c.loop-next.invariant.kept c.follow_segment.ensures.brings.honest
      c.in-Err-follow_segment.ensures.brings.stays c.fault_after-in-Err-follow_segment.ensures.moved c.fault_after-in-Err-follow_segment.ensures.stays;
  obeys = stops_last g.R.RegistryCalls.showing g.F.JournalFolder c.args.registry.now c.loop-next.registry c.follow_segment.new.registry c.args.folder.now c.loop-next.folder c.args.begins.now c.loop-next.begin c.loop-next.rest.now c.loop-next.moved c.loop-next.invariant c.follow_segment.ensures.brings.honest c.in-Err-follow_segment.ensures.brings.obeys;
}

-- WHAT IS COMPARED

pub returns-in_default-clause-compared : goal.returns-in_default-clause-compared
returns-in_default-clause-compared g c = none_all g.R.RegistryCalls.showing g.F.JournalFolder c.args.registry.now c.args.folder.now c.args.begins.now IsWithin c.in_default.ensures

pub returns-in-Err-clause-compared : goal.returns-in-Err-clause-compared
returns-in-Err-clause-compared g c =
    let turn = c.loop-next.invariant in
    refused_all g.R.RegistryCalls.showing g.F.JournalFolder c.args.registry.now c.loop-next.registry c.pass_segment.new.registry c.args.folder.now c.args.begins.now turn.at.0 c.loop-next.begin c.in-Some-first_of.next c.loop-next.rest.now c.in-Some-first_of.others.now c.loop-next.moved c.in-Err.fault c.fault_after.result turn.at.1
    c.in-Some-first_of.ensures c.pass_segment.ensures.brings.honest turn.past c.in-Err.ensures.late c.fault_after.ensures.refused

pub returns-in-Ok-follow_segment-clause-compared : goal.returns-in-Ok-follow_segment-clause-compared
returns-in-Ok-follow_segment-clause-compared g c =
    let turn = c.loop-next.invariant in
    last_all g.R.RegistryCalls.showing g.F.JournalFolder c.args.registry.now c.loop-next.registry c.follow_segment.new.registry c.args.folder.now c.loop-next.folder c.args.begins.now turn.at.0 c.loop-next.begin c.loop-next.rest.now IsWithin turn.at.1 c.in_default-first_of.ensures turn.same c.follow_segment.ensures.brings.honest
    (λ clean h shown begun. (turn.past clean h shown begun).1) c.in-Ok-follow_segment.ensures.compared

pub returns-in-Err-follow_segment-clause-compared : goal.returns-in-Err-follow_segment-clause-compared
returns-in-Err-follow_segment-clause-compared g c =
    let turn = c.loop-next.invariant in
    fault_all g.R.RegistryCalls.showing g.F.JournalFolder c.args.registry.now c.loop-next.registry c.follow_segment.new.registry c.args.folder.now c.loop-next.folder c.args.begins.now turn.at.0 c.loop-next.begin c.loop-next.rest.now c.loop-next.moved c.in-Err-follow_segment.fault c.fault_after-in-Err-follow_segment.result turn.at.1
    c.in_default-first_of.ensures turn.same c.follow_segment.ensures.brings.honest turn.past c.fault_after-in-Err-follow_segment.ensures.same c.in-Err-follow_segment.ensures.compared

-- THE LAST ONE HAS BEGUN

pub returns-in-Err-clause-come : goal.returns-in-Err-clause-come
returns-in-Err-clause-come g c newer = absurd (not_newer c.loop-next.moved c.in-Err.fault c.fault_after.result newer c.fault_after.ensures.moved c.fault_after.ensures.same c.in-Err.ensures.never)

pub returns-in-Err-follow_segment-clause-come : goal.returns-in-Err-follow_segment-clause-come
returns-in-Err-follow_segment-clause-come g c newer =
    let turn = c.loop-next.invariant in
    let gives = c.fault_after-in-Err-follow_segment.ensures in
    came g.R.RegistryCalls g.F.JournalFolder c.args.registry.now c.loop-next.registry c.follow_segment.new.registry c.args.folder.now c.loop-next.folder c.args.begins.now c.loop-next.begin c.loop-next.rest.now c.loop-next.moved c.in-Err-follow_segment.fault c.fault_after-in-Err-follow_segment.result
    turn c.in_default-first_of.ensures c.follow_segment.ensures.brings.honest newer gives.moved gives.same c.in-Err-follow_segment.ensures.come

-- THE FIRST ONE HAS BEGUN

pub returns-in_default-clause-begun : goal.returns-in_default-clause-begun
returns-in_default-clause-begun g c sorted = none_first g.R.RegistryCalls.showing c.args.registry.now c.args.begins.now c.in_default.ensures

pub returns-in-Err-clause-begun : goal.returns-in-Err-clause-begun
returns-in-Err-clause-begun g c sorted newer = absurd (not_newer c.loop-next.moved c.in-Err.fault c.fault_after.result newer c.fault_after.ensures.moved c.fault_after.ensures.same c.in-Err.ensures.never)

pub returns-in-Ok-follow_segment-clause-begun : goal.returns-in-Ok-follow_segment-clause-begun
returns-in-Ok-follow_segment-clause-begun g c sorted =
    first_at_end g.R.RegistryCalls.showing g.F.JournalFolder c.args.registry.now c.loop-next.registry c.follow_segment.new.registry c.args.folder.now c.loop-next.folder c.args.begins.now c.loop-next.begin c.loop-next.rest.now c.loop-next.moved c.loop-next.invariant c.follow_segment.ensures.brings.honest
    (λ off. c.in-Ok-follow_segment.ensures.come) sorted

pub returns-in-Err-follow_segment-clause-begun : goal.returns-in-Err-follow_segment-clause-begun
returns-in-Err-follow_segment-clause-begun g c sorted newer =
    let gives = c.fault_after-in-Err-follow_segment.ensures in
    first_at_end g.R.RegistryCalls.showing g.F.JournalFolder c.args.registry.now c.loop-next.registry c.follow_segment.new.registry c.args.folder.now c.loop-next.folder c.args.begins.now c.loop-next.begin c.loop-next.rest.now c.loop-next.moved c.loop-next.invariant c.follow_segment.ensures.brings.honest
    (λ off. first_newer c.in-Err-follow_segment.fault c.fault_after-in-Err-follow_segment.result newer (gives.same off) c.in-Err-follow_segment.ensures.come) sorted
