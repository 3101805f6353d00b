use Rattle.std.proofs.Common.{inl, inr, ℕ, List, Result, Err, ap, sym, subst, ◌∙◌}
use Rattle.pid_moderation.specs.declared.lists.Status.{Status}
use Rattle.pid_moderation.specs.declared.refusal.Refusal.{Refusal}
use Rattle.pid_moderation.specs.declared.refusal.Refusal.TheVariants.{Failed}
use Rattle.pid_moderation.specs.Files.{asks, reading_of}
use Rattle.pid_moderation.specs.Views.{views_of}
use Rattle.pid_moderation.specs.RegistryStatus.{registry_status_of}
use Rattle.pid_journal.specs.Journals.{IsEntry}
use Rattle.pid_journal.specs.Pairs.{PairShows}
use Rattle.pid_journal.specs.Steps.Living.{off_alone}
use Rattle.pid_journal.proofs.Forms.{broken_stays, tells_any}
use Rattle.pid_journal.specs.Steps.Parts.{IsUnmarked}
use Rattle.pid_journal.specs.Steps.Notes.{counts_in}
use Rattle.pid_journal.proofs.Marks.{unmarked}
use Rattle.pid_journal.proofs.Noted.{fault_of, is_error, unnoted}
use Rattle.pid_journal.proofs.Probing.{refusal_or}
use Rattle.pid_journal.proofs.Pairing.{not_both, still_shows, with_registry}
use Rattle.pid_journal.proofs.Resuming.{entry_at}
use Rattle.pid_journal.proofs.journaled.Journaled.obey.Goals as goal

pub returns-then-self-clause-obeyed : goal.returns-then-self-clause-obeyed
returns-then-self-clause-obeyed g c clean start h shows = absurd (not_both c.args.self.now.failed c.if-self.true shows.settled)

pub returns-in_err-status-clause-obeyed : goal.returns-in_err-status-clause-obeyed
returns-in_err-status-clause-obeyed g c clean start h shows =
    let t = c.in_err-status.ensures.told clean h shows.shown in
    inr (fault_of c.from_residual.result c.in_err-status.field-0.0 c.from_residual.ensures.1 t.0, inl (still_shows g.R.RegistryCalls g.J.JournalFile start h c.args.self.now c.status.new.self shows t.1))

pub returns-in_err-status-clause-failed : goal.returns-in_err-status-clause-failed
returns-in_err-status-clause-failed g c off =
    let f = c.in_err-status.ensures.failed (off_alone c.args.self.now.failed (g.R.RegistryCalls.is_live c.args.self.now.registry) c.if-self.false off) in
    (is_error c.from_residual.result c.in_err-status.field-0.0 c.from_residual.ensures.1 ∙ ap (λ (r : Result Status Refusal). Err (refusal_or r Failed)) f.0, ap (with_registry g.R.RegistryCalls g.J.JournalFile c.args.self.now) f.1)

pub returns-then-breaks_form-clause-obeyed : goal.returns-then-breaks_form-clause-obeyed
returns-then-breaks_form-clause-obeyed g c clean start h shows =
    let t = c.in_ok-status.ensures.told clean h shows.shown in
    let stays = broken_stays h (asks c.args.command) (c.breaks_form.ensures.refused (views_of h) (reading_of c.args.command.act) (tells_any c.args.command.act) c.if-breaks_form.true) in
    inl (stays.0, subst (PairShows g.R.RegistryCalls g.J.JournalFile start (with_registry g.R.RegistryCalls g.J.JournalFile c.args.self.now c.status.new.self)) stays.1 (still_shows g.R.RegistryCalls g.J.JournalFile start h c.args.self.now c.status.new.self shows t.1))

pub returns-then-breaks_form-clause-failed : goal.returns-then-breaks_form-clause-failed
returns-then-breaks_form-clause-failed g c off =
    let f = c.in_ok-status.ensures.failed (off_alone c.args.self.now.failed (g.R.RegistryCalls.is_live c.args.self.now.registry) c.if-self.false off) in absurd (let no : ⊥ = cc (f.0) in no)

pub returns-in_err-entry-clause-obeyed : goal.returns-in_err-entry-clause-obeyed
returns-in_err-entry-clause-obeyed g c clean start h shows =
    let t = c.in_ok-status.ensures.told clean h shows.shown in
    inr (fault_of c.from_residual-in_err-entry.result c.in_err-entry.field-0.0 c.from_residual-in_err-entry.ensures.1 c.in_err-entry.ensures, inl (still_shows g.R.RegistryCalls g.J.JournalFile start h c.args.self.now c.status.new.self shows t.1))

pub returns-in_err-entry-clause-failed : goal.returns-in_err-entry-clause-failed
returns-in_err-entry-clause-failed g c off =
    let f = c.in_ok-status.ensures.failed (off_alone c.args.self.now.failed (g.R.RegistryCalls.is_live c.args.self.now.registry) c.if-self.false off) in absurd (let no : ⊥ = cc (f.0) in no)

pub returns-clause-honest : goal.returns-clause-honest
returns-clause-honest g c clean = c.in_ok-status.ensures.calls.clean (c.obey_noted.ensures.honest clean)

pub returns-clause-obeyed : goal.returns-clause-obeyed
returns-clause-obeyed g c clean start h shows =
    let t = c.in_ok-status.ensures.told (c.obey_noted.ensures.honest clean) h shows.shown in
    c.obey_noted.ensures.obeyed clean start h (still_shows g.R.RegistryCalls g.J.JournalFile start h c.args.self.now c.status.new.self shows t.1)
    (entry_at _ _ _ h (asks c.args.command) c.as_bytes.ensures.value t.0 c.in_ok-entry.ensures)

pub returns-clause-failed : goal.returns-clause-failed
returns-clause-failed g c off =
    let f = c.in_ok-status.ensures.failed (off_alone c.args.self.now.failed (g.R.RegistryCalls.is_live c.args.self.now.registry) c.if-self.false off) in absurd (let no : ⊥ = cc (f.0) in no)

-- a file that is not UTF-8
pub returns-then-branch-clause-obeyed : goal.returns-then-branch-clause-obeyed
returns-then-branch-clause-obeyed g c clean start h shows =
    let t = c.in_ok-status.ensures.told (c.obey.ensures.honest clean) h shows.shown in
    unnoted g.R.RegistryCalls g.J.JournalFile start h (with_registry g.R.RegistryCalls g.J.JournalFile c.args.self.now c.status.new.self) c.obey.new.self c.obey.result (asks c.args.command)
    (still_shows g.R.RegistryCalls g.J.JournalFile start h c.args.self.now c.status.new.self shows t.1) (c.in_ok-has_no_line.ensures c.if-branch.true h) (c.obey.ensures.obeys clean h t.1)

pub obey_noted-requires : goal.obey_noted-requires
obey_noted-requires g c = subst IsUnmarked (sym c.as_bytes.ensures.value) (unmarked _ _ _ c.in_ok-entry.ensures)

-- WHAT COMES TO THE JOURNAL

pub returns-clause-added : goal.returns-clause-added
returns-clause-added g c =
    let counts = counts_in (registry_status_of c.in_ok-status.status) in
    c.obey_noted.ensures.added counts (subst (λ (l : List ℕ). IsEntry l counts (asks c.args.command)) (sym c.as_bytes.ensures.value) c.in_ok-entry.ensures)
