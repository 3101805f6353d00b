use Rattle.std.proofs.Common.{◌≡◌, inl, inr, refl, false, [], ◌∷◌, drop, Ok, Err, sym, subst, ◌∙◌}
use Rattle.pid_file.specs.WholeLines.{whole_lines}
use Rattle.pid_moderation.specs.History.{History}
use Rattle.pid_journal.specs.Steps.Following.{FollowsLines}
use Rattle.pid_journal.specs.Steps.Places.{FindsPlace, IsAt, IsEndOf, IsOpenEnd}
use Rattle.pid_journal.specs.Steps.Reads.{left_in}
use Rattle.pid_journal.specs.declared.open_fault.OpenFault.TheVariants.{Refused}
use Rattle.pid_journal.specs.Journals.{counts_held}
use Rattle.pid_journal.specs.Steps.Comparing.{FaultsAt, IsWithin}
use Rattle.pid_journal.proofs.Comparing.{compares_refused, faults_held, not_missing, stands_held}
use Rattle.pid_script.specs.Replies.{history_after}
use Rattle.pid_journal.proofs.ObeyedInTurn.{stops_still}
use Rattle.pid_journal.proofs.ObeyedLines.{all_along, obeys_in}
use Rattle.pid_journal.proofs.Along.{along_rest, stops_as, stops_at, way_along}
use Rattle.pid_journal.proofs.Places.{leads_on}
use Rattle.pid_journal.proofs.Resuming.{before_begin, come_to, counted_status}
use Rattle.pid_journal.proofs.SegmentLines.{ends_read, text_at, text_whole}
use Rattle.pid_journal.proofs.catching_up.follow_segment.Goals as goal

-- what is held is the end
pub returns-in-Ok-follow-clause-ended : goal.returns-in-Ok-follow-clause-ended
returns-in-Ok-follow-clause-ended g c =
    let reads = c.find_place.ensures.reads in
    let begin = reads.begin ∙ c.new-text.ensures.begin in
    let parts = text_whole g.F.JournalFolder c.args.folder.now c.new-text.result c.args.begin (λ bytes all. IsEndOf bytes (left_in c.find_place.new.text all)) c.new-text.ensures.begin c.new-text.ensures.left c.in-Ok-find_place.ensures.parts in
    let ended = text_at g.F.JournalFolder c.args.folder.now c.find_place.new.folder c.find_place.new.text c.args.begin (λ all. IsOpenEnd (left_in c.find_place.new.text all) (left_in c.follow.new.text all) × (drop c.follow.new.text.read all ≡ [])) reads.same begin c.in-Ok-follow.ensures.ended in
    (c.follow.ensures.reads.begin ∙ begin, ends_read g.F.JournalFolder c.args.folder.now c.find_place.new.text c.follow.new.text c.args.begin (c.follow.ensures.reads.begin ∙ begin) parts ended)

-- the registry is before the beginning
pub returns-then-now-begin-clause-followed : goal.returns-then-now-begin-clause-followed
returns-then-now-begin-clause-followed g c clean names known h shown marked begins shows way =
    let told = c.in-Ok.ensures.told clean shown shows in
    absurd (before_begin h shown c.counts_of-now.result c.args.begin (whole_lines (g.F.JournalFolder.text_in c.args.folder.now c.args.begin)) begins (counted_status _ shown told.0 ∙ sym c.counts_of-now.ensures) way c.if-now-begin.true)

-- a fault before any line was obeyed
pub returns-in-Err-clause-followed : goal.returns-in-Err-clause-followed
returns-in-Err-clause-followed g c clean names known h shown marked begins shows way = (tt, stops_at g.R.RegistryCalls.showing _ _ shown (c.in-Err.ensures.told clean shown shows).1 (way_along h shown false _ way))

-- the registry has no place in the segment
pub returns-in-Err-find_place-clause-followed : goal.returns-in-Err-find_place-clause-followed
returns-in-Err-find_place-clause-followed g c clean names known h shown marked begins shows way =
    let told = c.in-Ok.ensures.told clean shown shows in
    let found = text_whole g.F.JournalFolder c.args.folder.now c.new-text.result c.args.begin (λ bytes all. FindsPlace {X = Unit {0}} bytes c.counts_of-now.result c.args.begin (Err c.in-Err-find_place.fault) (λ x. left_in c.find_place.new.text all)) c.new-text.ensures.begin c.new-text.ensures.left c.in-Err-find_place.ensures.found names known in
    (found h shown marked begins (counted_status _ shown told.0 ∙ sym c.counts_of-now.ensures) way, stops_at g.R.RegistryCalls.showing _ _ shown told.1 (way_along h shown false _ way))

-- the end of the segment
pub returns-in-Ok-follow-clause-followed : goal.returns-in-Ok-follow-clause-followed
returns-in-Ok-follow-clause-followed g c clean names known h shown marked begins shows way =
    let text = g.F.JournalFolder.text_in c.args.folder.now c.args.begin in
    let rest = left_in c.find_place.new.text text in
    let reads = c.find_place.ensures.reads in
    let told = c.in-Ok.ensures.told (c.follow.ensures.honest clean) shown shows in
    let found = text_whole g.F.JournalFolder c.args.folder.now c.new-text.result c.args.begin (λ bytes all. FindsPlace {X = Unit {0}} bytes c.counts_of-now.result c.args.begin (Ok tt) (λ x. left_in c.find_place.new.text all)) c.new-text.ensures.begin c.new-text.ensures.left c.in-Ok-find_place.ensures.found names known in
    let at : IsAt h shown text rest = found h shown marked begins (counted_status _ shown told.0 ∙ sym c.counts_of-now.ensures) way in
    let obeyed = text_at g.F.JournalFolder c.args.folder.now c.find_place.new.folder c.find_place.new.text c.args.begin (λ all. FollowsLines g.R.RegistryCalls.showing {X = Unit {0}} c.status.new.self c.follow.new.registry (left_in c.find_place.new.text all) (Ok tt))
    reads.same (reads.begin ∙ c.new-text.ensures.begin) c.in-Ok-follow.ensures.obeyed names known clean shown told.1 in
    subst (λ (x : History). g.R.RegistryCalls.showing.shows c.follow.new.registry x) (leads_on h shown text rest at) obeyed

-- a fault at one of the lines
pub returns-in-Err-follow-clause-followed : goal.returns-in-Err-follow-clause-followed
returns-in-Err-follow-clause-followed g c clean names known h shown marked begins shows way =
    let text = g.F.JournalFolder.text_in c.args.folder.now c.args.begin in
    let rest = left_in c.find_place.new.text text in
    let reads = c.find_place.ensures.reads in
    let told = c.in-Ok.ensures.told (c.follow.ensures.honest clean) shown shows in
    let found = text_whole g.F.JournalFolder c.args.folder.now c.new-text.result c.args.begin (λ bytes all. FindsPlace {X = Unit {0}} bytes c.counts_of-now.result c.args.begin (Ok tt) (λ x. left_in c.find_place.new.text all)) c.new-text.ensures.begin c.new-text.ensures.left c.in-Ok-find_place.ensures.found names known in
    let at : IsAt h shown text rest = found h shown marked begins (counted_status _ shown told.0 ∙ sym c.counts_of-now.ensures) way in
    let stops = text_at g.F.JournalFolder c.args.folder.now c.find_place.new.folder c.find_place.new.text c.args.begin (λ all. FollowsLines g.R.RegistryCalls.showing {X = Unit {0}} c.status.new.self c.follow.new.registry (left_in c.find_place.new.text all) (Err c.in-Err-follow.refusal))
    reads.same (reads.begin ∙ c.new-text.ensures.begin) c.in-Err-follow.ensures.obeyed names known clean shown told.1 in
    (tt, stops_as g.R.RegistryCalls.showing c.follow.new.registry _ _ (λ x along. along_rest h shown x text rest at along) stops)

-- WHICH LINES

pub returns-in-Err-clause-brings : goal.returns-in-Err-clause-brings
returns-in-Err-clause-brings g c = record {
  honest = c.status.ensures.calls.clean;
  same = (refl, refl);
  quiet = refl;
  stays = inl tt;
  obeys = stops_still g.R.RegistryCalls.showing g.F.JournalFolder c.args.registry.now c.status.new.self c.args.folder.now (c.args.begin ∷ []) (λ clean h shown. (c.in-Err.ensures.told clean h shown).1);
}

pub returns-then-now-begin-clause-brings : goal.returns-then-now-begin-clause-brings
returns-then-now-begin-clause-brings g c = record {
  honest = c.status.ensures.calls.clean;
  same = (refl, refl);
  quiet = refl;
  stays = inl tt;
  obeys = stops_still g.R.RegistryCalls.showing g.F.JournalFolder c.args.registry.now c.status.new.self c.args.folder.now (c.args.begin ∷ []) (λ clean h shown. (c.in-Ok.ensures.told clean h shown).1);
}

pub returns-in-Err-find_place-clause-brings : goal.returns-in-Err-find_place-clause-brings
returns-in-Err-find_place-clause-brings g c = record {
  honest = c.status.ensures.calls.clean;
  same = c.find_place.ensures.reads.same;
  quiet = c.find_place.ensures.reads.quiet;
  stays = inr (λ clean h shown. (c.in-Ok.ensures.told clean h shown).1);
  obeys = stops_still g.R.RegistryCalls.showing g.F.JournalFolder c.args.registry.now c.status.new.self c.args.folder.now (c.args.begin ∷ []) (λ clean h shown. (c.in-Ok.ensures.told clean h shown).1);
}

pub returns-in-Ok-follow-clause-brings : goal.returns-in-Ok-follow-clause-brings
returns-in-Ok-follow-clause-brings g c = record {
  honest = λ clean. c.status.ensures.calls.clean (c.follow.ensures.honest clean);
  same = (c.follow.ensures.reads.same.0 ∙ c.find_place.ensures.reads.same.0, c.follow.ensures.reads.same.1 ∙ c.find_place.ensures.reads.same.1);
  quiet = c.follow.ensures.reads.quiet ∙ c.find_place.ensures.reads.quiet;
  stays = tt;
  obeys = λ clean names known h shown.
      let text = g.F.JournalFolder.text_in c.args.folder.now in
      let rest = left_in c.find_place.new.text (text c.args.begin) in
      let reads = c.find_place.ensures.reads in
      let told = c.in-Ok.ensures.told (c.follow.ensures.honest clean) h shown in
      let held = counted_status _ h told.0 ∙ sym c.counts_of-now.ensures in
      let stands = text_whole g.F.JournalFolder c.args.folder.now c.new-text.result c.args.begin (λ bytes all. IsWithin c.counts_of-now.result c.args.begin (whole_lines bytes)) c.new-text.ensures.begin c.new-text.ensures.left c.in-Ok-find_place.ensures.compared names known in
      let end = text_whole g.F.JournalFolder c.args.folder.now c.new-text.result c.args.begin (λ bytes all. IsEndOf bytes (left_in c.find_place.new.text all)) c.new-text.ensures.begin c.new-text.ensures.left c.in-Ok-find_place.ensures.parts names known in
      let obeyed = text_at g.F.JournalFolder c.args.folder.now c.find_place.new.folder c.find_place.new.text c.args.begin (λ all. FollowsLines g.R.RegistryCalls.showing {X = Unit {0}} c.status.new.self c.follow.new.registry (left_in c.find_place.new.text all) (Ok tt))
      reads.same (reads.begin ∙ c.new-text.ensures.begin) c.in-Ok-follow.ensures.obeyed names known clean h told.1 in (
        history_after h (whole_lines rest),
        obeyed,
        obeys_in text c.args.begin rest h (history_after h (whole_lines rest)) (come_to h c.counts_of-now.result c.args.begin held c.if-now-begin.false) (stands_held c.counts_of-now.result (counts_held h) c.args.begin (whole_lines (text c.args.begin)) held stands) end (all_along h (whole_lines rest)),
      );
}

pub returns-in-Err-follow-clause-brings : goal.returns-in-Err-follow-clause-brings
returns-in-Err-follow-clause-brings g c = record {
  honest = λ clean. c.status.ensures.calls.clean (c.follow.ensures.honest clean);
  same = (c.follow.ensures.reads.same.0 ∙ c.find_place.ensures.reads.same.0, c.follow.ensures.reads.same.1 ∙ c.find_place.ensures.reads.same.1);
  quiet = c.follow.ensures.reads.quiet ∙ c.find_place.ensures.reads.quiet;
  stays = inl tt;
  obeys = λ clean names known h shown.
      let text = g.F.JournalFolder.text_in c.args.folder.now in
      let rest = left_in c.find_place.new.text (text c.args.begin) in
      let reads = c.find_place.ensures.reads in
      let told = c.in-Ok.ensures.told (c.follow.ensures.honest clean) h shown in
      let held = counted_status _ h told.0 ∙ sym c.counts_of-now.ensures in
      let stands = text_whole g.F.JournalFolder c.args.folder.now c.new-text.result c.args.begin (λ bytes all. IsWithin c.counts_of-now.result c.args.begin (whole_lines bytes)) c.new-text.ensures.begin c.new-text.ensures.left c.in-Ok-find_place.ensures.compared names known in
      let end = text_whole g.F.JournalFolder c.args.folder.now c.new-text.result c.args.begin (λ bytes all. IsEndOf bytes (left_in c.find_place.new.text all)) c.new-text.ensures.begin c.new-text.ensures.left c.in-Ok-find_place.ensures.parts names known in
      let stops = text_at g.F.JournalFolder c.args.folder.now c.find_place.new.folder c.find_place.new.text c.args.begin (λ all. FollowsLines g.R.RegistryCalls.showing {X = Unit {0}} c.status.new.self c.follow.new.registry (left_in c.find_place.new.text all) (Err c.in-Err-follow.refusal))
      reads.same (reads.begin ∙ c.new-text.ensures.begin) c.in-Err-follow.ensures.obeyed names known clean h told.1 in
      stops_as g.R.RegistryCalls.showing c.follow.new.registry _ _
      (λ x along. obeys_in text c.args.begin rest h x (come_to h c.counts_of-now.result c.args.begin held c.if-now-begin.false) (stands_held c.counts_of-now.result (counts_held h) c.args.begin (whole_lines (text c.args.begin)) held stands) end along) stops;
}

-- WHAT IS COMPARED

pub returns-then-now-begin-clause-compared : goal.returns-then-now-begin-clause-compared
returns-then-now-begin-clause-compared g c clean names known h shown begun =
    not_missing h c.counts_of-now.result c.args.begin (whole_lines (g.F.JournalFolder.text_in c.args.folder.now c.args.begin)) (counted_status _ h (c.in-Ok.ensures.told clean h shown).0 ∙ sym c.counts_of-now.ensures) begun c.if-now-begin.true

pub returns-in-Err-clause-compared : goal.returns-in-Err-clause-compared
returns-in-Err-clause-compared g c clean names known h shown begun = compares_refused (counts_held h) c.args.begin (whole_lines (g.F.JournalFolder.text_in c.args.folder.now c.args.begin)) (Refused c.in-Err.refusal) tt

pub returns-in-Err-follow-clause-compared : goal.returns-in-Err-follow-clause-compared
returns-in-Err-follow-clause-compared g c clean names known h shown begun = compares_refused (counts_held h) c.args.begin (whole_lines (g.F.JournalFolder.text_in c.args.folder.now c.args.begin)) (Refused c.in-Err-follow.refusal) tt

pub returns-in-Err-find_place-clause-compared : goal.returns-in-Err-find_place-clause-compared
returns-in-Err-find_place-clause-compared g c clean names known h shown begun =
    let compared = text_whole g.F.JournalFolder c.args.folder.now c.new-text.result c.args.begin (λ bytes all. FaultsAt c.in-Err-find_place.fault c.counts_of-now.result c.args.begin (whole_lines bytes)) c.new-text.ensures.begin c.new-text.ensures.left c.in-Err-find_place.ensures.compared names known in
    faults_held c.in-Err-find_place.fault c.counts_of-now.result (counts_held h) c.args.begin (whole_lines (g.F.JournalFolder.text_in c.args.folder.now c.args.begin)) (counted_status _ h (c.in-Ok.ensures.told clean h shown).0 ∙ sym c.counts_of-now.ensures) compared

pub returns-in-Ok-follow-clause-compared : goal.returns-in-Ok-follow-clause-compared
returns-in-Ok-follow-clause-compared g c clean names known h shown begun =
    let compared = text_whole g.F.JournalFolder c.args.folder.now c.new-text.result c.args.begin (λ bytes all. IsWithin c.counts_of-now.result c.args.begin (whole_lines bytes)) c.new-text.ensures.begin c.new-text.ensures.left c.in-Ok-find_place.ensures.compared names known in
    stands_held c.counts_of-now.result (counts_held h) c.args.begin (whole_lines (g.F.JournalFolder.text_in c.args.folder.now c.args.begin)) (counted_status _ h (c.in-Ok.ensures.told (c.follow.ensures.honest clean) h shown).0 ∙ sym c.counts_of-now.ensures) compared

-- the registry had come to where the segment begins
pub returns-in-Ok-follow-clause-come : goal.returns-in-Ok-follow-clause-come
returns-in-Ok-follow-clause-come g c clean h shown = come_to h c.counts_of-now.result c.args.begin (counted_status _ h (c.in-Ok.ensures.told (c.follow.ensures.honest clean) h shown).0 ∙ sym c.counts_of-now.ensures) c.if-now-begin.false

pub returns-in-Err-find_place-clause-come : goal.returns-in-Err-find_place-clause-come
returns-in-Err-find_place-clause-come g c = inr (λ clean h shown. come_to h c.counts_of-now.result c.args.begin (counted_status _ h (c.in-Ok.ensures.told clean h shown).0 ∙ sym c.counts_of-now.ensures) c.if-now-begin.false)
