use Rattle.std.proofs.Common.{inl, inr, ℕ, ◌≤◌, [], ◌∷◌, ◌++◌, Some, refl, ap, ◌∙◌}
use Rattle.pid_moderation.specs.Views.{revision_of}
use Rattle.pid_journal.specs.Journals.{lines_in}
use Rattle.pid_journal.proofs.Along.{in_segments, passed_along, stops_as}
use Rattle.pid_journal.proofs.Appending.{is_kept}
use Rattle.pid_journal.proofs.Comparing.{fits, refused_as, refuses}
use Rattle.pid_journal.proofs.Ending.{goes_on}
use Rattle.pid_journal.proofs.InTurn.{empty_leads}
use Rattle.pid_journal.proofs.Resuming.{untouched}
use Rattle.pid_journal.proofs.opening.open_journal.Goals as goal

pub returns-in-Ok : goal.returns-in-Ok
returns-in-Ok g c = record {
  keeps = c.in-Ok.ensures.leaves.keeps;
  hands = (c.in-Ok.ensures.leaves.hands, c.in-Ok.ensures.leaves.handed);
  others = tt;
  resumes = λ clean. (
    c.find_segment.ensures.honest clean,
    λ names known h shown.
        let text = g.F.JournalFolder.text_in c.args.folder.now in
        record {
          obeyed = λ start marked told passed.
              let found = c.in-Ok.ensures.found clean names known start marked (record { shown = h; shows = shown; way = in_segments text start h names told passed }) in
              (found.0, goes_on g.R.RegistryCalls g.F.JournalFolder g.F.Segment.JournalFile text start names c.find_segment.new.folder _ refl found.1);
          obeys = c.in-Ok.ensures.obeys names known clean names known h shown;
          gap = λ gap.
              let found = c.in-Ok.ensures.gap gap in
              let begins = found.0 names known in
              (begins.named ∙ ap (λ (n : ℕ). Some (names ++ n ∷ [])) (begins.told clean h shown), record { shown = found.1 clean h shown; settled = refl; leads = is_kept h h _ [] begins.safe (empty_leads h) });
          begun = λ name later is. c.in-Ok.ensures.begun names known name later is clean h shown;
          compares = λ front name is which.
              let begun : name ≤ revision_of h = elim which [
                | inl gap ↦ (c.in-Ok.ensures.gap gap).2 names known front name is clean h shown
                | inr begun ↦ begun
              ] in
              fits _ text name h begun (c.in-Ok.ensures.compared names known clean front name is known h shown begun);
        },
  );
}

pub returns-in-Err : goal.returns-in-Err
returns-in-Err g c = record {
  keeps = c.in-Err.ensures.leaves.keeps;
  hands = c.in-Err.ensures.leaves.hands;
  others = untouched c.in-Err.fault c.in-Err.ensures.leaves.stays;
  resumes = λ clean. (
    c.find_segment.ensures.honest clean,
    λ names known h shown.
        let text = g.F.JournalFolder.text_in c.args.folder.now in
        record {
          obeyed = λ start marked told passed.
              let faults = c.in-Err.ensures.found clean names known start marked (record { shown = h; shows = shown; way = in_segments text start h names told passed }) in
              (refused_as c.in-Err.fault faults.0, stops_as g.R.RegistryCalls.showing _ _ _ (λ x along. passed_along start x (lines_in text names) along) faults.1);
          obeys = c.in-Err.ensures.obeys names known clean names known h shown;
          gap = tt;
          begun = tt;
          compares = λ front name is begun. refuses c.in-Err.fault text name h (c.in-Err.ensures.compared names known clean front name is known h shown begun);
        },
  );
}
