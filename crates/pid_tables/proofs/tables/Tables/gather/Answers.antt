use Rattle.std.proofs.Common.{◌≡◌, ℕ, List, Option, None, false, refl, ap, sym, subst, ◌∙◌, Result}
use Rattle.sqlite.specs.State.{State}
use Rattle.pid_moderation.specs.FactsOfViews.{known, looked_at}
use Rattle.pid_moderation.specs.Wants.{wanted_by}
use Rattle.pid_moderation.specs.declared.command.Reply.{Reply}
use Rattle.pid_tables.specs.Rows.Clauses.{Reads}
use Rattle.pid_tables.specs.declared.rows.fault.TableFault.{TableFault}
use Rattle.pid_tables.specs.Steps.Gathering.{bare}
use Rattle.pid_tables.proofs.OfCheck.Asking.{nothing_read}
use Rattle.pid_tables.proofs.OfRows.OnlyReading.{reads_then}
use Rattle.pid_tables.proofs.ThenReads.{answer_after, fault_after, fault_first, says_less}
use Rattle.pid_tables.proofs.tables.Tables.gather.Goals.{in-Some, in-None}
use Rattle.pid_tables.proofs.tables.Tables.gather.Goals as goal

-- a way to the reply that is kept
abbrev Keeps : {S : Type 0} → (S → State) → List ℕ → Option (List ℕ) → S → S → Result (Option Reply) TableFault → Type 0
Keeps store account key old new r = Reads store old new r (λ v reply. reply ≡ (known v account key).kept)

pub returns-in_err-rank : goal.returns-in_err-rank
returns-in_err-rank g c = fault_first g.C.Database.state c.args.self.now.conn c.rank.new.self.conn c.in_err-rank.field-0.0 c.from_residual.result c.from_residual.ensures.1 c.in_err-rank.ensures

pub returns-in_err-revision : goal.returns-in_err-revision
returns-in_err-revision g c =
    fault_after g.C.Database.state c.args.self.now.conn c.rank.new.self.conn c.revision.new.self.conn c.rank.ensures.rests c.in_err-revision.field-0.0 c.from_residual-in_err-revision.result c.from_residual-in_err-revision.ensures.1 c.in_err-revision.ensures

pub returns-in_err-kept : goal.returns-in_err-kept
returns-in_err-kept g c =
    let old = c.args.self.now.conn in
    let mid = c.revision.new.self.conn in
    let end = c.match-key.self.conn in
    let account = c.args.account.now in
    let key = c.args.key.now in
    let kept : Keeps g.C.Database.state account key mid end c.match-key.kept = elim c.match-key.branch [
      | in-Some w ↦ subst (λ s. Keeps g.C.Database.state account key mid s.conn c.match-key.kept) (sym w.self-is) (subst (λ r. Keeps g.C.Database.state account key mid w.kept_reply-kept.new.tables.conn r) (sym w.kept-is)
          (says_less g.C.Database.state mid w.kept_reply-kept.new.tables.conn w.kept_reply-kept.result w.kept_reply-kept.ensures (λ v x says. rw w.in-Some.is (rw (w.as_str-in-Some.ensures.text, w.as_str-in-Some-2.ensures.text) at says))))
      | in-None w ↦ subst (λ s. Keeps g.C.Database.state account key mid s.conn c.match-key.kept) (sym w.self-is) (subst (λ r. Keeps g.C.Database.state account key mid mid r) (sym w.kept-is)
          (record { rests = nothing_read (g.C.Database.state mid) c.revision.ensures.rests.settled; told = λ clean v rest. rw w.in-None.is refl }))
    ] in
    let both = reads_then _ _ _ c.rank.ensures.rests c.revision.ensures.rests in
    fault_after g.C.Database.state old mid end both c.in_err-kept.field-0.0 c.from_residual-in_err-kept.result c.from_residual-in_err-kept.ensures.1 (subst (λ r. Keeps g.C.Database.state account key mid end r) c.in_err-kept.was kept)

pub returns : goal.returns
returns g c =
    let old = c.args.self.now.conn in
    let mid = c.revision.new.self.conn in
    let end = c.match-key.self.conn in
    let account = c.args.account.now in
    let key = c.args.key.now in
    let kept : Keeps g.C.Database.state account key mid end c.match-key.kept = elim c.match-key.branch [
      | in-Some w ↦ subst (λ s. Keeps g.C.Database.state account key mid s.conn c.match-key.kept) (sym w.self-is) (subst (λ r. Keeps g.C.Database.state account key mid w.kept_reply-kept.new.tables.conn r) (sym w.kept-is)
          (says_less g.C.Database.state mid w.kept_reply-kept.new.tables.conn w.kept_reply-kept.result w.kept_reply-kept.ensures (λ v x says. rw w.in-Some.is (rw (w.as_str-in-Some.ensures.text, w.as_str-in-Some-2.ensures.text) at says))))
      | in-None w ↦ subst (λ s. Keeps g.C.Database.state account key mid s.conn c.match-key.kept) (sym w.self-is) (subst (λ r. Keeps g.C.Database.state account key mid mid r) (sym w.kept-is)
          (record { rests = nothing_read (g.C.Database.state mid) c.revision.ensures.rests.settled; told = λ clean v rest. rw w.in-None.is refl }))
    ] in
    let both = reads_then _ _ _ c.rank.ensures.rests c.revision.ensures.rests in
    let third : Keeps g.C.Database.state account key mid end _ = subst (λ r. Keeps g.C.Database.state account key mid end r) c.in_ok-kept.was kept in
    answer_after g.C.Database.state old end c.with_rows.new.self.conn (reads_then _ _ _ both third.rests) c.with_rows.result c.with_rows.ensures
    (λ clean v rest x says all parents.
    let late = third.rests.clean clean in
    let rank = rw c.as_str.ensures.text at (c.in_ok-rank.ensures.told (c.revision.ensures.rests.clean late) v rest) in
    let number = c.in_ok-revision.ensures.told late v (c.rank.ensures.rests.kept v rest) in
    let reply = third.told clean v (both.kept v rest) in
    let facts : bare (record { rank = c.in_ok-rank.rank; kept = c.in_ok-kept.kept; revision = c.in_ok-revision.revision }) ≡ known v account key =
    λ i. record { rank = rank i; kept = reply i; revision = number i; who = None; submissions = 0; items = 0; named = None; remarks = 0; present = None; has_parent = false; has_children = false; file = None } in
    says all parents ∙ ap (looked_at v (wanted_by c.args.rows)) facts)
