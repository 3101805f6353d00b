use Rattle.std.proofs.Common.{◌≡◌, ℕ, ◌-◌, [], drop, refl, length, sym, ap, ◌∙◌}
use Rattle.pid_file.specs.WholeLines.{ended_pieces}
use Rattle.pid_journal.specs.Steps.Reads.{left_in}
use Rattle.pid_journal.proofs.SegmentLines.{takes_first, takes_last, takes_more, takes_none, text_then}
use Rattle.pid_journal.proofs.segment_text.SegmentText.take_line.Goals as goal

pub loop-turn-init : goal.loop-turn-init
loop-turn-init g c = takes_first g.F.JournalFolder c.args.folder.now c.args.self.now c.clear.new.self.items c.clear.ensures.items

pub loop-turn-preserved : goal.loop-turn-preserved
loop-turn-preserved g c =
    takes_more g.F.JournalFolder c.args.folder.now c.loop-turn.folder c.read_on.new.folder c.args.self.now c.loop-turn.self c.read_on.new.self c.loop-turn.line.items c.unread-in-loop-turn.result.now c.keep-in-loop-turn.new.line.items c.loop-turn.invariant c.unread-in-loop-turn.ensures
    (ap ended_pieces (c.unread-in-loop-turn.ensures ∙ sym c.unread.ensures) ∙ c.in_default.ensures.parts) c.in_ok-keep-2.ensures.kept c.read_on.ensures.reads c.in_ok-read_on.ensures.more

pub returns-in-Some-clause-taken : goal.returns-in-Some-clause-taken
returns-in-Some-clause-taken g c whole =
    takes_last g.F.JournalFolder c.args.folder.now c.loop-turn.folder c.args.self.now c.loop-turn.self c.loop-turn.line.items c.unread.result.now c.in-Some.front.now c.in-Some.behind.now c.keep.new.line.items c.saturating_sub-taken.result c.loop-turn.invariant c.unread.ensures c.in-Some.ensures.parts.0 c.in-Some.ensures.parts.1 c.in_ok-keep.ensures.kept
    (c.saturating_sub-taken.ensures ∙ ap (λ (n : ℕ). n - length c.in-Some.behind.now) c.len.ensures)

pub returns-then-not-branch-clause-end : goal.returns-then-not-branch-clause-end
returns-then-not-branch-clause-end g c none =
    let taking =
    takes_more g.F.JournalFolder c.args.folder.now c.loop-turn.folder c.read_on.new.folder c.args.self.now c.loop-turn.self c.read_on.new.self c.loop-turn.line.items c.unread-in-loop-turn.result.now c.keep-in-loop-turn.new.line.items c.loop-turn.invariant c.unread-in-loop-turn.ensures
    (ap ended_pieces (c.unread-in-loop-turn.ensures ∙ sym c.unread.ensures) ∙ c.in_default.ensures.parts) c.in_ok-keep-2.ensures.kept c.read_on.ensures.reads c.in_ok-read_on.ensures.more in
    takes_none g.F.JournalFolder c.args.folder.now c.read_on.new.folder c.args.self.now c.read_on.new.self _ c.keep-in-loop-turn.new.line.items taking
    (text_then g.F.JournalFolder c.args.folder.now c.loop-turn.folder c.args.self.now c.loop-turn.self (λ text. (left_in c.read_on.new.self text ≡ []) × (drop c.read_on.new.self.read text ≡ [])) c.loop-turn.invariant.reads (c.in_ok-read_on.ensures.end c.if-not-branch.true))
    (λ i. (c.swap.ensures.x_after i).items) refl refl
