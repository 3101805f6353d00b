use Rattle.std.proofs.Common.{ℕ, List, ap, refl, subst, ◌∙◌}
use Rattle.pid_file.specs.Lines.{drop_cr}
use Rattle.pid_journal.specs.Steps.Following.{FaultsAtLine}
use Rattle.pid_journal.specs.Steps.Notes.{after_line}
use Rattle.pid_journal.specs.Steps.Reads.{IsAllRead, IsLine, left_in}
use Rattle.pid_journal.proofs.LinesObeyed.{follows_all, follows_first, follows_on, follows_stopped, follows_unread}
use Rattle.pid_journal.proofs.SegmentLines.{open_end, reads_both, reads_none, text_then}
use Rattle.pid_journal.proofs.following.follow.Goals as goal

pub loop-turn-init : goal.loop-turn-init
loop-turn-init g c = record {
  reads = reads_none g.F.JournalFolder c.args.folder.now c.args.text.now;
  clean = λ clean. clean;
  follows = λ names known. follows_first g.R.RegistryCalls.showing c.args.registry.now (left_in c.args.text.now (g.F.JournalFolder.text_in c.args.folder.now c.args.text.now.begin));
}

pub loop-turn-preserved : goal.loop-turn-preserved
loop-turn-preserved g c = record {
  reads =
      reads_both g.F.JournalFolder c.args.folder.now c.take_line.new.folder c.replayed.new.self c.args.text.now c.take_line.new.self c.take_line.new.self
      (reads_both g.F.JournalFolder c.args.folder.now c.loop-turn.folder c.take_line.new.folder c.args.text.now c.loop-turn.text c.take_line.new.self c.loop-turn.invariant.reads c.take_line.ensures.reads)
      (record { same = c.replayed.ensures.same; quiet = c.replayed.ensures.unopened; begin = refl });
  clean = λ clean. c.loop-turn.invariant.clean (c.follow_line.ensures.honest clean);
  follows = λ names known.
      let all = g.F.JournalFolder.text_in c.args.folder.now c.args.text.now.begin in
      let line = c.take_line.new.line.items in
      let taken = text_then g.F.JournalFolder c.args.folder.now c.loop-turn.folder c.args.text.now c.loop-turn.text (λ x. IsLine (left_in c.loop-turn.text x) line (left_in c.take_line.new.self x)) c.loop-turn.invariant.reads (c.in-Ok.ensures.taken c.if-not-whole.false) names known in
      follows_on g.R.RegistryCalls.showing c.args.registry.now c.loop-turn.registry c.follow_line.new.registry (left_in c.args.text.now all) (left_in c.loop-turn.text all) line (left_in c.take_line.new.self all) (c.loop-turn.invariant.follows names known) taken.parts taken.one c.follow_line.ensures.honest
      (λ clean h shown. subst (λ (l : List ℕ). g.R.RegistryCalls.showing.shows c.follow_line.new.registry (after_line h l)) (c.without_cr.ensures ∙ ap drop_cr c.deref.ensures.value) (c.in_default.ensures.obeyed clean h shown));
}

-- all lines were obeyed
pub returns-then-not-whole-clause-ended : goal.returns-then-not-whole-clause-ended
returns-then-not-whole-clause-ended g c names known =
    let all = g.F.JournalFolder.text_in c.args.folder.now c.args.text.now.begin in
    let read = text_then g.F.JournalFolder c.args.folder.now c.loop-turn.folder c.args.text.now c.loop-turn.text (IsAllRead c.loop-turn.text c.take_line.new.self) c.loop-turn.invariant.reads (c.in-Ok.ensures.end c.if-not-whole.true) names known in
    (open_end c.loop-turn.text c.take_line.new.self all (left_in c.args.text.now all) (c.loop-turn.invariant.follows names known).end read, read.all)

pub returns-then-not-whole-clause-obeyed : goal.returns-then-not-whole-clause-obeyed
returns-then-not-whole-clause-obeyed g c names known clean h shown =
    let all = g.F.JournalFolder.text_in c.args.folder.now c.args.text.now.begin in
    let read = text_then g.F.JournalFolder c.args.folder.now c.loop-turn.folder c.args.text.now c.loop-turn.text (IsAllRead c.loop-turn.text c.take_line.new.self) c.loop-turn.invariant.reads (c.in-Ok.ensures.end c.if-not-whole.true) names known in
    follows_all g.R.RegistryCalls.showing c.args.registry.now c.loop-turn.registry (left_in c.args.text.now all) (left_in c.loop-turn.text all) h (c.loop-turn.invariant.follows names known) read.torn clean shown

pub returns-then-not-whole-clause-reads : goal.returns-then-not-whole-clause-reads
returns-then-not-whole-clause-reads g c = reads_both g.F.JournalFolder c.args.folder.now c.loop-turn.folder c.take_line.new.folder c.args.text.now c.loop-turn.text c.take_line.new.self c.loop-turn.invariant.reads c.take_line.ensures.reads

-- no more could be read
pub returns-in-Err-clause-obeyed : goal.returns-in-Err-clause-obeyed
returns-in-Err-clause-obeyed g c names known clean h shown =
    let all = g.F.JournalFolder.text_in c.args.folder.now c.args.text.now.begin in
    follows_unread g.R.RegistryCalls.showing c.args.registry.now c.loop-turn.registry (left_in c.args.text.now all) (left_in c.loop-turn.text all) h (c.loop-turn.invariant.follows names known) clean shown

pub returns-in-Err-clause-reads : goal.returns-in-Err-clause-reads
returns-in-Err-clause-reads g c = reads_both g.F.JournalFolder c.args.folder.now c.loop-turn.folder c.take_line.new.folder c.args.text.now c.loop-turn.text c.take_line.new.self c.loop-turn.invariant.reads c.take_line.ensures.reads

pub returns-clause-obeyed : goal.returns-clause-obeyed
returns-clause-obeyed g c names known clean h shown =
    let all = g.F.JournalFolder.text_in c.args.folder.now c.args.text.now.begin in
    follows_unread g.R.RegistryCalls.showing c.args.registry.now c.loop-turn.registry (left_in c.args.text.now all) (left_in c.loop-turn.text all) h (c.loop-turn.invariant.follows names known) clean shown

-- the command of a line was not obeyed
pub returns-in-Err-follow_line-clause-obeyed : goal.returns-in-Err-follow_line-clause-obeyed
returns-in-Err-follow_line-clause-obeyed g c names known clean h shown =
    let all = g.F.JournalFolder.text_in c.args.folder.now c.args.text.now.begin in
    let line = c.take_line.new.line.items in
    let taken = text_then g.F.JournalFolder c.args.folder.now c.loop-turn.folder c.args.text.now c.loop-turn.text (λ x. IsLine (left_in c.loop-turn.text x) line (left_in c.take_line.new.self x)) c.loop-turn.invariant.reads (c.in-Ok.ensures.taken c.if-not-whole.false) names known in
    follows_stopped g.R.RegistryCalls.showing c.args.registry.now c.loop-turn.registry c.follow_line.new.registry (left_in c.args.text.now all) (left_in c.loop-turn.text all) line (left_in c.take_line.new.self all) h (c.loop-turn.invariant.follows names known) taken.parts taken.one c.follow_line.ensures.honest
    (λ now at there. subst (λ (l : List ℕ). FaultsAtLine g.R.RegistryCalls.showing c.follow_line.new.registry at l) (c.without_cr.ensures ∙ ap drop_cr c.deref.ensures.value) (c.in-Err-follow_line.ensures.obeyed now at there)) clean shown

pub returns-in-Err-follow_line-clause-reads : goal.returns-in-Err-follow_line-clause-reads
returns-in-Err-follow_line-clause-reads g c = reads_both g.F.JournalFolder c.args.folder.now c.loop-turn.folder c.take_line.new.folder c.args.text.now c.loop-turn.text c.take_line.new.self c.loop-turn.invariant.reads c.take_line.ensures.reads
