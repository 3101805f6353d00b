use Rattle.std.proofs.Common.{ℕ, List, Ok, false, true, inl, refl, rules, subst, sym, ◌∙◌}
use Rattle.std.specs.Prelude.{IsSorted}
use Rattle.std.specs.Ordering.{nat_cmp}
use Rattle.pid_journal.specs.Steps.Comparing.{FitsGap, RefusesOther}
use Rattle.pid_journal.specs.Steps.Segments.{IsSameFolder}
use Rattle.pid_journal.proofs.Comparing.{finds_fault, finds_newer, finds_refused, finds_same, last_begun}
use Rattle.pid_journal.proofs.Along.{segments_along, stops_at}
use Rattle.pid_journal.proofs.Ending.{fault_found, found, gap_found, hands_new, hands_on, hands_then, and_same, ends_from, keeps_after, keeps_same}
use Rattle.pid_journal.proofs.InTurn.{at_folder, ends_at, first_found, quiet_newer, read_names}
use Rattle.pid_journal.proofs.ObeyedInTurn.{obeys_at, obeys_before, obeys_still, stops_before, stops_found, stops_still}
use Rattle.pid_journal.proofs.opening.find_segment.Goals as goal
use Rattle.pid_journal.proofs.opening.find_segment.Goals.{in-Ok-begin_segment, in-Err-begin_segment}

pub returns-in-Ok-segment_after-clause-found : goal.returns-in-Ok-segment_after-clause-found
returns-in-Ok-segment_after-clause-found g c clean names known start marked shows =
    let is = c.as_slice.ensures.value ∙ read_names (g.F.JournalFolder.names c.args.folder.now) names c.in-Ok.begins.items known c.in-Ok.ensures.read in
    let follows = at_folder g.R.RegistryCalls g.F.JournalFolder c.args.registry.now c.follow_all.new.registry c.args.folder.now c.begins.new.self names c.as_slice.result.now (Ok c.in-Ok-follow_all.last) c.begins.ensures.same is c.in-Ok-follow_all.ensures.followed in
    let ends = ends_at g.R.RegistryCalls g.F.JournalFolder c.args.folder.now c.begins.new.self names c.as_slice.result.now c.in-Ok-follow_all.last c.begins.ensures.same is c.in-Ok-follow_all.ensures.ended in (
      refl,
      found g.R.RegistryCalls g.F.JournalFolder g.F.Segment.JournalFile c.args.registry.now c.follow_all.new.registry c.segment_after.new.registry c.args.folder.now c.follow_all.new.folder c.segment_after.new.folder names c.in-Ok-follow_all.last c.in-Ok-segment_after.segment
          follows ends (c.follow_all.ensures.brings.same.0 ∙ c.begins.ensures.same.0, c.follow_all.ensures.brings.same.1 ∙ c.begins.ensures.same.1) c.segment_after.ensures.honest c.segment_after.ensures.kept c.in-Ok-segment_after.ensures.goes clean known start marked shows,
    )

-- A GAP

pub returns-in-Err-Newer-clause-gap : goal.returns-in-Err-Newer-clause-gap
returns-in-Err-Newer-clause-gap g c =
    elim c.match-begin_segment.branch [
      | in-Ok-begin_segment w ↦
          rw w.result-is (λ gap. gap_found g.R.RegistryCalls g.F.JournalFolder g.F.Segment.JournalFile c.args.registry.now c.follow_all.new.registry c.begin_segment.new.registry c.args.folder.now c.follow_all.new.folder c.begin_segment.new.folder c.as_slice.result.now w.in-Ok-begin_segment.segment
          (let stays = rw c.in-Err-Newer.field-0-is at c.in-Err-Newer.ensures.brings.stays in quiet_newer stays)
          c.begin_segment.ensures.honest c.begin_segment.ensures.kept (c.follow_all.ensures.brings.same.0 ∙ c.begins.ensures.same.0) w.in-Ok-begin_segment.ensures.begun
          (λ names known. c.as_slice.ensures.value ∙ read_names (g.F.JournalFolder.names c.args.folder.now) names c.in-Ok.begins.items known c.in-Ok.ensures.read)
          ((rw c.in-Err-Newer.field-0-is at c.in-Err-Newer.ensures.come) refl))
      | in-Err-begin_segment w ↦ rw w.result-is tt
    ]

-- WHAT A FAULT LEAVES

pub returns-in-Err-clause-found : goal.returns-in-Err-clause-found
returns-in-Err-clause-found g c clean names known start marked shows = (tt, stops_at g.R.RegistryCalls.showing _ _ shows.shown shows.shows (segments_along (g.F.JournalFolder.text_in c.args.folder.now) start shows.shown names shows.way))

pub returns-clause-found : goal.returns-clause-found
returns-clause-found g c clean names known start marked shows =
    let is = c.as_slice.ensures.value ∙ read_names (g.F.JournalFolder.names c.args.folder.now) names c.in-Ok.begins.items known c.in-Ok.ensures.read in
    let follows = at_folder g.R.RegistryCalls g.F.JournalFolder c.args.registry.now c.follow_all.new.registry c.args.folder.now c.begins.new.self names c.as_slice.result.now (Ok c.in-Ok-follow_all.last) c.begins.ensures.same is c.in-Ok-follow_all.ensures.followed in
    fault_found g.R.RegistryCalls g.F.JournalFolder g.F.Segment.JournalFile c.args.registry.now c.follow_all.new.registry c.segment_after.new.registry c.args.folder.now names c.in-Ok-follow_all.last c.in-Err-segment_after.fault
    c.in-Err-segment_after.ensures.fault.0 c.segment_after.ensures.honest c.segment_after.ensures.kept follows clean known start marked shows

-- WHICH LINES

pub returns-in-Err-clause-obeys : goal.returns-in-Err-clause-obeys
returns-in-Err-clause-obeys g c names known = stops_still g.R.RegistryCalls.showing g.F.JournalFolder c.args.registry.now c.args.registry.now c.args.folder.now names (λ clean h shown. shown)

pub returns-in-Err-follow_all-clause-obeys : goal.returns-in-Err-follow_all-clause-obeys
returns-in-Err-follow_all-clause-obeys g c names known =
    let is = c.as_slice.ensures.value ∙ read_names (g.F.JournalFolder.names c.args.folder.now) names c.in-Ok.begins.items known c.in-Ok.ensures.read in
    stops_found g.R.RegistryCalls.showing g.F.JournalFolder c.args.registry.now c.follow_all.new.registry c.args.folder.now c.begins.new.self names c.as_slice.result.now c.begins.ensures.same is c.in-Err-follow_all.ensures.brings.obeys

pub returns-in-Ok-segment_after-clause-obeys : goal.returns-in-Ok-segment_after-clause-obeys
returns-in-Ok-segment_after-clause-obeys g c names known =
    let is = c.as_slice.ensures.value ∙ read_names (g.F.JournalFolder.names c.args.folder.now) names c.in-Ok.begins.items known c.in-Ok.ensures.read in
    obeys_before g.R.RegistryCalls.showing g.F.JournalFolder c.args.registry.now c.follow_all.new.registry c.segment_after.new.registry c.args.folder.now names c.segment_after.ensures.honest c.segment_after.ensures.kept
    (obeys_at g.R.RegistryCalls.showing g.F.JournalFolder c.args.registry.now c.follow_all.new.registry c.args.folder.now c.begins.new.self names c.as_slice.result.now c.begins.ensures.same is c.in-Ok-follow_all.ensures.brings.obeys)

pub returns-clause-obeys : goal.returns-clause-obeys
returns-clause-obeys g c names known =
    let is = c.as_slice.ensures.value ∙ read_names (g.F.JournalFolder.names c.args.folder.now) names c.in-Ok.begins.items known c.in-Ok.ensures.read in
    stops_before g.R.RegistryCalls.showing g.F.JournalFolder c.args.registry.now c.follow_all.new.registry c.segment_after.new.registry c.args.folder.now names c.segment_after.ensures.honest c.segment_after.ensures.kept
    (obeys_at g.R.RegistryCalls.showing g.F.JournalFolder c.args.registry.now c.follow_all.new.registry c.args.folder.now c.begins.new.self names c.as_slice.result.now c.begins.ensures.same is c.in-Ok-follow_all.ensures.brings.obeys)

pub returns-in-Err-Newer-clause-obeys : goal.returns-in-Err-Newer-clause-obeys
returns-in-Err-Newer-clause-obeys g c =
    let stays = rw c.in-Err-Newer.field-0-is at c.in-Err-Newer.ensures.brings.stays in
    let quiet = quiet_newer stays in
    elim c.match-begin_segment.branch [
      | in-Ok-begin_segment w ↦ rw w.result-is (λ names known. obeys_still g.R.RegistryCalls.showing g.F.JournalFolder c.args.registry.now c.begin_segment.new.registry c.args.folder.now names (λ clean h shown. c.begin_segment.ensures.kept clean h (quiet (c.begin_segment.ensures.honest clean) h shown)))
      | in-Err-begin_segment w ↦ rw w.result-is (λ names known. stops_still g.R.RegistryCalls.showing g.F.JournalFolder c.args.registry.now c.begin_segment.new.registry c.args.folder.now names (λ clean h shown. c.begin_segment.ensures.kept clean h (quiet (c.begin_segment.ensures.honest clean) h shown)))
    ]

-- WHAT IS COMPARED

pub returns-in-Err-clause-compared : goal.returns-in-Err-clause-compared
returns-in-Err-clause-compared g c names known = finds_refused g.R.RegistryCalls.showing g.F.JournalFolder _ _ c.args.folder.now names _ tt

pub returns-in-Err-follow_all-clause-compared : goal.returns-in-Err-follow_all-clause-compared
returns-in-Err-follow_all-clause-compared g c names known =
    let is = c.as_slice.ensures.value ∙ read_names (g.F.JournalFolder.names c.args.folder.now) names c.in-Ok.begins.items known c.in-Ok.ensures.read in
    last_begun g.R.RegistryCalls.showing g.F.JournalFolder c.args.registry.now c.follow_all.new.registry c.args.folder.now names (RefusesOther c.in-Err-follow_all.fault) (subst (λ (ns : List ℕ). IsSorted nat_cmp ns) is (rw c.as_slice.ensures.value c.in-Ok.ensures.ascending))
    (finds_fault g.R.RegistryCalls.showing g.F.JournalFolder c.args.registry.now c.follow_all.new.registry c.follow_all.new.registry c.args.folder.now c.begins.new.self names c.as_slice.result.now c.in-Err-follow_all.fault c.begins.ensures.same is (λ clean. clean) (search rules) c.in-Err-follow_all.ensures.compared)

pub returns-in-Ok-segment_after-clause-compared : goal.returns-in-Ok-segment_after-clause-compared
returns-in-Ok-segment_after-clause-compared g c names known =
    let is = c.as_slice.ensures.value ∙ read_names (g.F.JournalFolder.names c.args.folder.now) names c.in-Ok.begins.items known c.in-Ok.ensures.read in
    last_begun g.R.RegistryCalls.showing g.F.JournalFolder c.args.registry.now c.segment_after.new.registry c.args.folder.now names (FitsGap false) (subst (λ (ns : List ℕ). IsSorted nat_cmp ns) is (rw c.as_slice.ensures.value c.in-Ok.ensures.ascending))
    (finds_same g.R.RegistryCalls.showing g.F.JournalFolder c.args.registry.now c.follow_all.new.registry c.segment_after.new.registry c.args.folder.now c.begins.new.self names c.as_slice.result.now c.begins.ensures.same is c.segment_after.ensures.honest c.in-Ok-follow_all.ensures.compared)

pub returns-in-Err-Newer-clause-compared : goal.returns-in-Err-Newer-clause-compared
returns-in-Err-Newer-clause-compared g c names known =
    let is = c.as_slice.ensures.value ∙ read_names (g.F.JournalFolder.names c.args.folder.now) names c.in-Ok.begins.items known c.in-Ok.ensures.read in
    elim c.match-begin_segment.branch [
      | in-Ok-begin_segment w ↦
          rw w.result-is (last_begun g.R.RegistryCalls.showing g.F.JournalFolder c.args.registry.now c.begin_segment.new.registry c.args.folder.now names (FitsGap true) (subst (λ (ns : List ℕ). IsSorted nat_cmp ns) is (rw c.as_slice.ensures.value c.in-Ok.ensures.ascending))
          (finds_newer g.R.RegistryCalls.showing g.F.JournalFolder c.args.registry.now c.follow_all.new.registry c.begin_segment.new.registry c.args.folder.now c.begins.new.self names c.as_slice.result.now c.begins.ensures.same is c.begin_segment.ensures.honest (rw c.in-Err-Newer.field-0-is at c.in-Err-Newer.ensures.compared)))
      | in-Err-begin_segment w ↦ rw w.result-is (finds_refused g.R.RegistryCalls.showing g.F.JournalFolder c.args.registry.now c.begin_segment.new.registry c.args.folder.now names w.in-Err-begin_segment.fault w.in-Err-begin_segment.ensures.fault.0)
    ]

-- THE FIRST SEGMENT HAS BEGUN

pub returns-in-Ok-segment_after-clause-begun : goal.returns-in-Ok-segment_after-clause-begun
returns-in-Ok-segment_after-clause-begun g c names known =
    let is = c.as_slice.ensures.value ∙ read_names (g.F.JournalFolder.names c.args.folder.now) names c.in-Ok.begins.items known c.in-Ok.ensures.read in
    first_found g.R.RegistryCalls.showing c.args.registry.now c.follow_all.new.registry c.segment_after.new.registry names c.as_slice.result.now is c.segment_after.ensures.honest
    (c.in-Ok-follow_all.ensures.begun (rw c.as_slice.ensures.value c.in-Ok.ensures.ascending))

pub returns-in-Err-Newer-clause-begun : goal.returns-in-Err-Newer-clause-begun
returns-in-Err-Newer-clause-begun g c =
    elim c.match-begin_segment.branch [
      | in-Ok-begin_segment w ↦
          rw w.result-is (λ names known.
          let is = c.as_slice.ensures.value ∙ read_names (g.F.JournalFolder.names c.args.folder.now) names c.in-Ok.begins.items known c.in-Ok.ensures.read in
          first_found g.R.RegistryCalls.showing c.args.registry.now c.follow_all.new.registry c.begin_segment.new.registry names c.as_slice.result.now is c.begin_segment.ensures.honest
          ((rw c.in-Err-Newer.field-0-is at c.in-Err-Newer.ensures.begun) (rw c.as_slice.ensures.value c.in-Ok.ensures.ascending) refl))
      | in-Err-begin_segment w ↦ rw w.result-is tt
    ]

-- THE FOLDER

pub returns-in-Err-clause-leaves : goal.returns-in-Err-clause-leaves
returns-in-Err-clause-leaves g c = record {
  keeps = keeps_same g.F.JournalFolder c.args.folder.now c.begins.new.self c.begins.ensures.same.1;
  hands = c.begins.ensures.unopened;
  handed = tt;
  stays = inl tt;
}

pub returns-in-Err-follow_all-clause-leaves : goal.returns-in-Err-follow_all-clause-leaves
returns-in-Err-follow_all-clause-leaves g c =
    let brings = c.follow_all.ensures.brings in
    record {
      keeps = keeps_same g.F.JournalFolder c.args.folder.now c.follow_all.new.folder (brings.same.1 ∙ c.begins.ensures.same.1);
      hands = brings.quiet ∙ c.begins.ensures.unopened;
      handed = tt;
      stays = and_same (brings.same.1 ∙ c.begins.ensures.same.1) c.in-Err-follow_all.ensures.brings.stays;
    }

pub returns-in-Ok-segment_after-clause-leaves : goal.returns-in-Ok-segment_after-clause-leaves
returns-in-Ok-segment_after-clause-leaves g c =
    let brings = c.follow_all.ensures.brings in
    let same : IsSameFolder g.F.JournalFolder c.args.folder.now c.follow_all.new.folder = (brings.same.0 ∙ c.begins.ensures.same.0, brings.same.1 ∙ c.begins.ensures.same.1) in
    record {
      keeps = keeps_after g.F.JournalFolder c.args.folder.now c.follow_all.new.folder c.segment_after.new.folder c.as_slice.result.now c.in-Ok-follow_all.last same
          (ends_from g.F.JournalFolder c.begins.new.self c.follow_all.new.folder c.as_slice.result.now c.in-Ok-follow_all.last brings.same c.in-Ok-follow_all.ensures.ended) c.segment_after.ensures.keeps;
      hands = hands_then g.F.JournalFolder c.args.folder.now c.follow_all.new.folder c.segment_after.new.folder (Ok c.in-Ok-segment_after.segment) (brings.quiet ∙ c.begins.ensures.unopened) c.in-Ok-segment_after.ensures.hands;
      handed = λ names known.
          let is = c.as_slice.ensures.value ∙ read_names (g.F.JournalFolder.names c.args.folder.now) names c.in-Ok.begins.items known c.in-Ok.ensures.read in
          let ends = ends_at g.R.RegistryCalls g.F.JournalFolder c.args.folder.now c.begins.new.self names c.as_slice.result.now c.in-Ok-follow_all.last c.begins.ensures.same is c.in-Ok-follow_all.ensures.ended in
          hands_on g.R.RegistryCalls g.F.JournalFolder g.F.Segment.JournalFile c.follow_all.new.registry c.segment_after.new.registry c.args.folder.now c.follow_all.new.folder c.segment_after.new.folder names c.in-Ok-follow_all.last c.in-Ok-segment_after.segment ends same.0 c.in-Ok-segment_after.ensures.goes known;
      stays = tt;
    }

pub returns-clause-leaves : goal.returns-clause-leaves
returns-clause-leaves g c =
    let brings = c.follow_all.ensures.brings in
    let same : IsSameFolder g.F.JournalFolder c.args.folder.now c.follow_all.new.folder = (brings.same.0 ∙ c.begins.ensures.same.0, brings.same.1 ∙ c.begins.ensures.same.1) in
    record {
      keeps = keeps_after g.F.JournalFolder c.args.folder.now c.follow_all.new.folder c.segment_after.new.folder c.as_slice.result.now c.in-Ok-follow_all.last same
          (ends_from g.F.JournalFolder c.begins.new.self c.follow_all.new.folder c.as_slice.result.now c.in-Ok-follow_all.last brings.same c.in-Ok-follow_all.ensures.ended) c.segment_after.ensures.keeps;
      hands = c.in-Err-segment_after.ensures.hands ∙ brings.quiet ∙ c.begins.ensures.unopened;
      handed = tt;
      stays = inl c.in-Err-segment_after.ensures.fault.1;
    }

pub returns-in-Err-Newer-clause-leaves : goal.returns-in-Err-Newer-clause-leaves
returns-in-Err-Newer-clause-leaves g c =
    let brings = c.follow_all.ensures.brings in
    let quiet = brings.quiet ∙ c.begins.ensures.unopened in
    let same = c.begin_segment.ensures.same ∙ brings.same.1 ∙ c.begins.ensures.same.1 in
    elim c.match-begin_segment.branch [
      | in-Ok-begin_segment w ↦ rw w.result-is (record {
        keeps = keeps_same g.F.JournalFolder c.args.folder.now c.begin_segment.new.folder same;
        hands = hands_then g.F.JournalFolder c.args.folder.now c.follow_all.new.folder c.begin_segment.new.folder (Ok w.in-Ok-begin_segment.segment) quiet w.in-Ok-begin_segment.ensures.hands;
        handed = hands_new g.R.RegistryCalls g.F.JournalFolder g.F.Segment.JournalFile c.follow_all.new.registry c.begin_segment.new.registry c.args.folder.now c.follow_all.new.folder c.begin_segment.new.folder w.in-Ok-begin_segment.segment (brings.same.0 ∙ c.begins.ensures.same.0) w.in-Ok-begin_segment.ensures.begun;
        stays = tt;
      })
      | in-Err-begin_segment w ↦ rw w.result-is (record {
        keeps = keeps_same g.F.JournalFolder c.args.folder.now c.begin_segment.new.folder same;
        hands = w.in-Err-begin_segment.ensures.hands ∙ quiet;
        handed = tt;
        stays = inl w.in-Err-begin_segment.ensures.fault.1;
      })
    ]

-- THE NAMES

pub segment_after-requires : goal.segment_after-requires
segment_after-requires g c names known =
    c.as_slice-2.ensures.value ∙ read_names (g.F.JournalFolder.names c.args.folder.now) names c.in-Ok.begins.items (sym (c.follow_all.ensures.brings.same.0 ∙ c.begins.ensures.same.0) ∙ known) c.in-Ok.ensures.read

pub begin_segment-requires : goal.begin_segment-requires
begin_segment-requires g c names known =
    c.as_slice-in-Err-Newer.ensures.value ∙ read_names (g.F.JournalFolder.names c.args.folder.now) names c.in-Ok.begins.items (sym (c.follow_all.ensures.brings.same.0 ∙ c.begins.ensures.same.0) ∙ known) c.in-Ok.ensures.read
