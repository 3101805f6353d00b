use Rattle.std.proofs.Common.{ℕ, List, ap, subst, ◌∙◌}
use Rattle.pid_file.specs.Lines.{drop_cr}
use Rattle.pid_file.specs.WholeLines.{whole_lines}
use Rattle.pid_journal.specs.Steps.Places.{IsSaid}
use Rattle.pid_journal.specs.Steps.Reads.{IsAllRead, IsLine, left_in}
use Rattle.pid_journal.proofs.Comparing.{compares_all, compares_first, compares_here, compares_nowhere, compares_on}
use Rattle.pid_journal.proofs.Places.{end_more, found_after, found_end, found_first, found_on, line_first, placed_at}
use Rattle.pid_journal.proofs.Resuming.{if_ok}
use Rattle.pid_journal.proofs.SegmentLines.{open_end, reads_both, reads_none, text_then}
use Rattle.pid_journal.proofs.placing.find_place.Goals as goal

pub loop-turn-init : goal.loop-turn-init
loop-turn-init g c = record {
  reads = reads_none g.F.JournalFolder c.args.folder.now c.args.text.now;
  finds = λ names known. let all = left_in c.args.text.now (g.F.JournalFolder.text_in c.args.folder.now c.args.text.now.begin) in
      (found_first all c.args.now c.args.begin, compares_first all c.args.now c.args.begin);
}

pub loop-turn-preserved : goal.loop-turn-preserved
loop-turn-preserved g c = record {
  reads = reads_both g.F.JournalFolder c.args.folder.now c.loop-turn.folder c.take_line.new.folder c.args.text.now c.loop-turn.text c.take_line.new.self c.loop-turn.invariant.reads c.take_line.ensures.reads;
  finds = λ names known.
      let all = g.F.JournalFolder.text_in c.args.folder.now c.args.text.now.begin in
      let text = left_in c.args.text.now all in
      let rest = left_in c.loop-turn.text all in
      let behind = left_in c.take_line.new.self all in
      let line = c.take_line.new.line.items in
      let taken = text_then g.F.JournalFolder c.args.folder.now c.loop-turn.folder c.args.text.now c.loop-turn.text (λ x. IsLine (left_in c.loop-turn.text x) line (left_in c.take_line.new.self x)) c.loop-turn.invariant.reads (c.in-Ok.ensures.taken c.if-not-whole.false) names known in
      let finds = c.loop-turn.invariant.finds names known in
      let said = subst (λ (l : List ℕ). IsSaid l c.in-Ok-said_by.said) (c.without_cr.ensures ∙ ap drop_cr c.deref.ensures.value) c.in-Ok-said_by.ensures in (
        found_on text rest line behind c.args.now c.args.begin c.loop-turn.place c.in-Behind.next finds.0 taken.parts taken.one
            (λ shown h is placed. c.in-Behind.ensures.next shown h (drop_cr line) (whole_lines behind) is said placed),
        compares_on text rest behind (drop_cr line) c.args.now c.args.begin c.loop-turn.place c.in-Behind.next finds.1 (line_first rest line behind taken.parts taken.one)
            (c.in-Behind.ensures.compared (drop_cr line) (whole_lines behind) said finds.1.is),
      );
}

-- behind all lines
pub returns-then-not-whole-clause-parts : goal.returns-then-not-whole-clause-parts
returns-then-not-whole-clause-parts g c = if_ok c.end_place.result _ (λ names known.
    let all = g.F.JournalFolder.text_in c.args.folder.now c.args.text.now.begin in
    let read = text_then g.F.JournalFolder c.args.folder.now c.loop-turn.folder c.args.text.now c.loop-turn.text (IsAllRead c.loop-turn.text c.take_line.new.self) c.loop-turn.invariant.reads (c.in-Ok.ensures.end c.if-not-whole.true) names known in
    (open_end c.loop-turn.text c.take_line.new.self all (left_in c.args.text.now all) (c.loop-turn.invariant.finds names known).0.end read).end)

pub returns-then-not-whole-clause-found : goal.returns-then-not-whole-clause-found
returns-then-not-whole-clause-found g c names known start shown marked begins is way =
    let all = g.F.JournalFolder.text_in c.args.folder.now c.args.text.now.begin in
    let read = text_then g.F.JournalFolder c.args.folder.now c.loop-turn.folder c.args.text.now c.loop-turn.text (IsAllRead c.loop-turn.text c.take_line.new.self) c.loop-turn.invariant.reads (c.in-Ok.ensures.end c.if-not-whole.true) names known in
    found_end c.end_place.result start shown (left_in c.args.text.now all) (left_in c.loop-turn.text all) (left_in c.take_line.new.self all) c.args.now c.loop-turn.place is ((c.loop-turn.invariant.finds names known).0.reached start shown marked begins is way) read.torn read.same c.end_place.ensures

pub returns-then-not-whole-clause-compared : goal.returns-then-not-whole-clause-compared
returns-then-not-whole-clause-compared g c names known =
    let all = g.F.JournalFolder.text_in c.args.folder.now c.args.text.now.begin in
    let read = text_then g.F.JournalFolder c.args.folder.now c.loop-turn.folder c.args.text.now c.loop-turn.text (IsAllRead c.loop-turn.text c.take_line.new.self) c.loop-turn.invariant.reads (c.in-Ok.ensures.end c.if-not-whole.true) names known in
    compares_all c.end_place.result (left_in c.args.text.now all) (left_in c.loop-turn.text all) c.args.now c.args.begin c.loop-turn.place (c.loop-turn.invariant.finds names known).1 read.torn c.end_place.ensures

-- at a comment
pub returns-in-Here-clause-parts : goal.returns-in-Here-clause-parts
returns-in-Here-clause-parts g c names known =
    let all = g.F.JournalFolder.text_in c.args.folder.now c.args.text.now.begin in
    let line = c.take_line.new.line.items in
    let taken = text_then g.F.JournalFolder c.args.folder.now c.loop-turn.folder c.args.text.now c.loop-turn.text (λ x. IsLine (left_in c.loop-turn.text x) line (left_in c.take_line.new.self x)) c.loop-turn.invariant.reads (c.in-Ok.ensures.taken c.if-not-whole.false) names known in
    end_more (left_in c.args.text.now all) (left_in c.loop-turn.text all) line (left_in c.take_line.new.self all) (c.loop-turn.invariant.finds names known).0.end taken.parts taken.one

pub returns-in-Here-clause-found : goal.returns-in-Here-clause-found
returns-in-Here-clause-found g c names known start shown marked begins is way =
    let all = g.F.JournalFolder.text_in c.args.folder.now c.args.text.now.begin in
    let rest = left_in c.loop-turn.text all in
    let behind = left_in c.take_line.new.self all in
    let line = c.take_line.new.line.items in
    let taken = text_then g.F.JournalFolder c.args.folder.now c.loop-turn.folder c.args.text.now c.loop-turn.text (λ x. IsLine (left_in c.loop-turn.text x) line (left_in c.take_line.new.self x)) c.loop-turn.invariant.reads (c.in-Ok.ensures.taken c.if-not-whole.false) names known in
    let r = (c.loop-turn.invariant.finds names known).0.reached start shown marked begins is way in
    found_after start shown (left_in c.args.text.now all) rest line behind c.loop-turn.place r taken.parts taken.one
    (c.in-Here.ensures.next shown r.here (drop_cr line) (whole_lines behind) is (subst (λ (l : List ℕ). IsSaid l c.in-Ok-said_by.said) (c.without_cr.ensures ∙ ap drop_cr c.deref.ensures.value) c.in-Ok-said_by.ensures) (placed_at shown r.here c.loop-turn.place rest line behind taken.parts taken.one r.placed))

pub returns-in-Here-clause-compared : goal.returns-in-Here-clause-compared
returns-in-Here-clause-compared g c names known =
    let all = g.F.JournalFolder.text_in c.args.folder.now c.args.text.now.begin in
    let rest = left_in c.loop-turn.text all in
    let behind = left_in c.take_line.new.self all in
    let line = c.take_line.new.line.items in
    let taken = text_then g.F.JournalFolder c.args.folder.now c.loop-turn.folder c.args.text.now c.loop-turn.text (λ x. IsLine (left_in c.loop-turn.text x) line (left_in c.take_line.new.self x)) c.loop-turn.invariant.reads (c.in-Ok.ensures.taken c.if-not-whole.false) names known in
    let at = (c.loop-turn.invariant.finds names known).1 in
    compares_here (left_in c.args.text.now all) rest behind (drop_cr line) c.args.now c.args.begin c.loop-turn.place at (line_first rest line behind taken.parts taken.one)
    (c.in-Here.ensures.compared (drop_cr line) (whole_lines behind) (subst (λ (l : List ℕ). IsSaid l c.in-Ok-said_by.said) (c.without_cr.ensures ∙ ap drop_cr c.deref.ensures.value) c.in-Ok-said_by.ensures) at.is)

-- at a line that does not lead on
pub returns-in-Nowhere-clause-found : goal.returns-in-Nowhere-clause-found
returns-in-Nowhere-clause-found g c names known start shown marked begins is way =
    let all = g.F.JournalFolder.text_in c.args.folder.now c.args.text.now.begin in
    let rest = left_in c.loop-turn.text all in
    let behind = left_in c.take_line.new.self all in
    let line = c.take_line.new.line.items in
    let taken = text_then g.F.JournalFolder c.args.folder.now c.loop-turn.folder c.args.text.now c.loop-turn.text (λ x. IsLine (left_in c.loop-turn.text x) line (left_in c.take_line.new.self x)) c.loop-turn.invariant.reads (c.in-Ok.ensures.taken c.if-not-whole.false) names known in
    let r = (c.loop-turn.invariant.finds names known).0.reached start shown marked begins is way in
    c.in-Nowhere.ensures.next shown r.here (drop_cr line) (whole_lines behind) is (subst (λ (l : List ℕ). IsSaid l c.in-Ok-said_by.said) (c.without_cr.ensures ∙ ap drop_cr c.deref.ensures.value) c.in-Ok-said_by.ensures) (placed_at shown r.here c.loop-turn.place rest line behind taken.parts taken.one r.placed)

pub returns-in-Nowhere-clause-compared : goal.returns-in-Nowhere-clause-compared
returns-in-Nowhere-clause-compared g c names known =
    let all = g.F.JournalFolder.text_in c.args.folder.now c.args.text.now.begin in
    let rest = left_in c.loop-turn.text all in
    let behind = left_in c.take_line.new.self all in
    let line = c.take_line.new.line.items in
    let taken = text_then g.F.JournalFolder c.args.folder.now c.loop-turn.folder c.args.text.now c.loop-turn.text (λ x. IsLine (left_in c.loop-turn.text x) line (left_in c.take_line.new.self x)) c.loop-turn.invariant.reads (c.in-Ok.ensures.taken c.if-not-whole.false) names known in
    let at = (c.loop-turn.invariant.finds names known).1 in
    compares_nowhere (left_in c.args.text.now all) rest behind (drop_cr line) c.args.now c.args.begin c.loop-turn.place at (line_first rest line behind taken.parts taken.one)
    (c.in-Nowhere.ensures.compared (drop_cr line) (whole_lines behind) (subst (λ (l : List ℕ). IsSaid l c.in-Ok-said_by.said) (c.without_cr.ensures ∙ ap drop_cr c.deref.ensures.value) c.in-Ok-said_by.ensures) at.is)
