use Rattle.std.proofs.Common.{inl, inr, [], Err, take, drop, take-append-drop, refl, sym, subst, append-nil}
use Rattle.pid_moderation.specs.declared.refusal.Refusal.TheVariants.{Store}
use Rattle.pid_moderation.specs.Files.{asks}
use Rattle.pid_moderation.specs.Judgement.{after}
use Rattle.pid_moderation.specs.Views.{views_of}
use Rattle.pid_journal.specs.Steps.Parts.{IsCutBack}
use Rattle.pid_journal.proofs.Appending.{kept}
use Rattle.pid_journal.proofs.Marks.{added, added_back, added_marked, appended_part, err_of, left_within}
use Rattle.pid_journal.proofs.Noted.{counted, done, fallen, judged, shows_same, taken_back}
use Rattle.pid_journal.proofs.Pairing.{not_both}
use Rattle.pid_journal.proofs.journaled.Journaled.obey_noted.Goals as goal

-- the entry was not written whole
pub returns-in-Err-clause-honest : goal.returns-in-Err-clause-honest
returns-in-Err-clause-honest g c clean = subst g.R.RegistryCalls.showing.is_clean c.take_back-in-Err.ensures.same clean

pub returns-in-Err-clause-obeyed : goal.returns-in-Err-clause-obeyed
returns-in-Err-clause-obeyed g c clean start h shows is =
    let journal = kept start h (g.J.JournalFile.safe c.args.self.now.journal) shows.leads in
    let mid = record c.args.self.now { journal = c.append.new.self } in
    let part = c.in-Err.ensures.appended journal.0 journal.1 in
    let count = counted (g.J.JournalFile.safe c.args.self.now.journal) journal.0 c.count-count.result journal.1 c.count-count.ensures in
    inr (
      inr refl,
      taken_back g.R.RegistryCalls g.J.JournalFile start h mid c.take_back-in-Err.new.self journal.0 c.args.entry.now (take part.0 c.args.entry.now) (drop part.0 c.args.entry.now) (asks c.args.command) journal.2 is (sym (take-append-drop part.0 c.args.entry.now))
          (shows_same g.R.RegistryCalls g.J.JournalFile _ _ h c.take_back-in-Err.ensures.same shows.shown) part.1 shows.settled
          (subst (IsCutBack g.J.JournalFile mid c.take_back-in-Err.new.self) (sym count) c.take_back-in-Err.ensures.taken),
    )

-- the command was judged
pub returns-then-not-is_fault-clause-honest : goal.returns-then-not-is_fault-clause-honest
returns-then-not-is_fault-clause-honest g c clean = c.obey-answer.ensures.honest (c.mark_end.ensures.honest clean)

pub returns-then-not-is_fault-clause-obeyed : goal.returns-then-not-is_fault-clause-obeyed
returns-then-not-is_fault-clause-obeyed g c clean start h shows is =
    let journal = kept start h (g.J.JournalFile.safe c.args.self.now.journal) shows.leads in
    let new = record c.args.self.now { registry = c.mark_end.new.registry; journal = c.mark_end.new.journal } in
    elim (c.obey-answer.ensures.obeys (c.mark_end.ensures.honest clean) h shows.shown) [
      | inl told ↦ inl (
        told.0,
        judged g.R.RegistryCalls g.J.JournalFile start h c.obey-answer.new.self new journal.0 c.args.entry.now (asks c.args.command) (g.J.JournalFile.safe c.append.new.self) journal.2 is clean told.1 c.mark_end.ensures.kept
            (c.in-Ok.ensures.appended journal.0 journal.1) c.mark_end.ensures.marked shows.settled,
      )
      | inr fault ↦ absurd (c.is_fault.ensures.no c.if-not-is_fault.true fault.0)
    ]

-- the registry has failed
pub returns-then-not-is_answering-clause-honest : goal.returns-then-not-is_answering-clause-honest
returns-then-not-is_answering-clause-honest g c clean = c.obey-answer.ensures.honest (c.is_answering.ensures.clean clean)

pub returns-then-not-is_answering-clause-obeyed : goal.returns-then-not-is_answering-clause-obeyed
returns-then-not-is_answering-clause-obeyed g c clean start h shows is =
    let journal = kept start h (g.J.JournalFile.safe c.args.self.now.journal) shows.leads in
    let new = record c.args.self.now { registry = c.is_answering.new.registry; journal = c.append.new.self } in
    let probe = c.is_answering.ensures in
    let fault = c.is_fault.ensures.yes c.if-not-is_fault.false in
    let end = c.obey-answer.ensures.obeys (probe.clean clean) h shows.shown in
    elim (done h (asks c.args.command) c.obey-answer.result (c.judgements_are_outcomes.ensures (views_of h) (asks c.args.command)) fault end) [
      | inl shown ↦ absurd (not_both c.is_answering.result (probe.shown clean h shown).0 c.if-not-is_answering.true)
      | inr fails ↦ inr (fault, inr (fallen g.R.RegistryCalls g.J.JournalFile start h new journal.0 c.args.entry.now (asks c.args.command) journal.2 is (probe.fallen h (after h (asks c.args.command)) fails).1 (c.in-Ok.ensures.appended journal.0 journal.1)))
    ]

-- it was not obeyed
pub returns-else-not-is_answering-clause-honest : goal.returns-else-not-is_answering-clause-honest
returns-else-not-is_answering-clause-honest g c clean = c.obey-answer.ensures.honest (c.is_answering.ensures.clean (subst g.R.RegistryCalls.showing.is_clean c.take_back.ensures.same clean))

pub returns-else-not-is_answering-clause-obeyed : goal.returns-else-not-is_answering-clause-obeyed
returns-else-not-is_answering-clause-obeyed g c clean start h shows is =
    let journal = kept start h (g.J.JournalFile.safe c.args.self.now.journal) shows.leads in
    let mid = record c.args.self.now { registry = c.is_answering.new.registry; journal = c.append.new.self } in
    let same = c.take_back.ensures.same in
    let probe = c.is_answering.ensures in
    let asked = subst g.R.RegistryCalls.showing.is_clean same clean in
    let fault = c.is_fault.ensures.yes c.if-not-is_fault.false in
    let end = c.obey-answer.ensures.obeys (probe.clean asked) h shows.shown in
    let count = counted (g.J.JournalFile.safe c.args.self.now.journal) journal.0 c.count-count.result journal.1 c.count-count.ensures in
    elim (done h (asks c.args.command) c.obey-answer.result (c.judgements_are_outcomes.ensures (views_of h) (asks c.args.command)) fault end) [
      | inl shown ↦ inr (
        fault,
        taken_back g.R.RegistryCalls g.J.JournalFile start h mid c.take_back.new.self journal.0 c.args.entry.now c.args.entry.now [] (asks c.args.command) journal.2 is (sym (append-nil c.args.entry.now))
            (shows_same g.R.RegistryCalls g.J.JournalFile _ _ h same (probe.shown asked h shown).1) (c.in-Ok.ensures.appended journal.0 journal.1) shows.settled
            (subst (IsCutBack g.J.JournalFile mid c.take_back.new.self) (sym count) c.take_back.ensures.taken),
      )
      | inr fails ↦ absurd (not_both c.is_answering.result c.if-not-is_answering.false (probe.fallen h (after h (asks c.args.command)) fails).0)
    ]

-- WHAT STAYS

pub take_back-requires : goal.take_back-requires
take_back-requires g c =
    left_within (g.J.JournalFile.safe c.args.self.now.journal) (g.J.JournalFile.safe c.append.new.self) c.args.entry.now c.count-count.result c.requires c.count-count.ensures c.in-Ok.ensures.unknown
    (appended_part (g.J.JournalFile.safe c.args.self.now.journal) (g.J.JournalFile.safe c.append.new.self) c.args.entry.now c.in-Ok.ensures.appended)

pub take_back-requires-in-Err : goal.take_back-requires-in-Err
take_back-requires-in-Err g c =
    left_within (g.J.JournalFile.safe c.args.self.now.journal) (g.J.JournalFile.safe c.append.new.self) c.args.entry.now c.count-count.result c.requires c.count-count.ensures c.in-Err.ensures.unknown c.in-Err.ensures.appended

pub returns-then-not-is_fault-clause-added : goal.returns-then-not-is_fault-clause-added
returns-then-not-is_fault-clause-added g c counts is =
    added_marked g.R.RegistryCalls.showing c.obey-answer.new.self c.mark_end.new.registry (g.J.JournalFile.safe c.args.self.now.journal) (g.J.JournalFile.safe c.append.new.self) (g.J.JournalFile.safe c.mark_end.new.journal) c.args.entry.now counts (asks c.args.command) c.obey-answer.result is
    c.in-Ok.ensures.appended c.mark_end.ensures.marked

pub returns-then-not-is_answering-clause-added : goal.returns-then-not-is_answering-clause-added
returns-then-not-is_answering-clause-added g c counts is = added (g.J.JournalFile.safe c.args.self.now.journal) (g.J.JournalFile.safe c.append.new.self) c.args.entry.now counts (asks c.args.command) c.obey-answer.result is c.in-Ok.ensures.appended

pub returns-else-not-is_answering-clause-added : goal.returns-else-not-is_answering-clause-added
returns-else-not-is_answering-clause-added g c counts is =
    let old = g.J.JournalFile.safe c.args.self.now.journal in
    let mid = g.J.JournalFile.safe c.append.new.self in
    added_back old mid (g.J.JournalFile.safe c.take_back.new.self.journal) c.args.entry.now c.count-count.result counts (asks c.args.command) c.obey-answer.result is (err_of c.obey-answer.result (c.is_fault.ensures.yes c.if-not-is_fault.false)) c.count-count.ensures
    (appended_part old mid c.args.entry.now c.in-Ok.ensures.appended) c.take_back.ensures.kept

pub returns-in-Err-clause-added : goal.returns-in-Err-clause-added
returns-in-Err-clause-added g c counts is =
    added_back (g.J.JournalFile.safe c.args.self.now.journal) (g.J.JournalFile.safe c.append.new.self) (g.J.JournalFile.safe c.take_back-in-Err.new.self.journal) c.args.entry.now c.count-count.result counts (asks c.args.command) (Err Store) is refl c.count-count.ensures c.in-Err.ensures.appended
    c.take_back-in-Err.ensures.kept
