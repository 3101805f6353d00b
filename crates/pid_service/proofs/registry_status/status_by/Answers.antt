use Rattle.std.proofs.Common.{◌≡◌, length}
use Rattle.pid_tables.proofs.OfRows.OnlyReading.{reads_then}
use Rattle.pid_service.proofs.Words.{HasAccounts, pending_above}
use Rattle.pid_service.proofs.Questions.{faults_after}
use Rattle.pid_service.proofs.registry_status.status_by.Goals as goal

pub returns-in_err-accounts : goal.returns-in_err-accounts
returns-in_err-accounts g c =
    faults_after g.C.Database c.args.tables.now.conn c.count_pending.new.tables.conn c.count_accounts.new.tables.conn c.in_err-accounts.field-0.0 c.from_residual-in_err-accounts.result _ c.in_ok-pending.ensures.rests c.in_err-accounts.ensures.rests
    (λ clean v rest readable. c.in_err-accounts.ensures.told clean v rest readable) c.from_residual-in_err-accounts.ensures.1

pub returns-in_err-items : goal.returns-in_err-items
returns-in_err-items g c =
    faults_after g.C.Database c.args.tables.now.conn c.count_accounts.new.tables.conn c.items.new.self.conn c.in_err-items.field-0.0 c.from_residual-in_err-items.result _ (reads_then _ _ _ c.in_ok-pending.ensures.rests c.in_ok-accounts.ensures.rests)
    c.in_err-items.ensures.rests (λ clean v rest readable. c.in_err-items.ensures.told clean v rest readable) c.from_residual-in_err-items.ensures.1

pub returns-in_err-revision : goal.returns-in_err-revision
returns-in_err-revision g c =
    faults_after g.C.Database c.args.tables.now.conn c.items.new.self.conn c.revision.new.self.conn c.in_err-revision.field-0.0 c.from_residual-in_err-revision.result _
    (reads_then _ _ _ (reads_then _ _ _ c.in_ok-pending.ensures.rests c.in_ok-accounts.ensures.rests) c.in_ok-items.ensures.rests) c.in_err-revision.ensures.rests
    (λ clean v rest readable. c.in_err-revision.ensures.told clean v rest readable) c.from_residual-in_err-revision.ensures.1

pub returns-in_err-submissions : goal.returns-in_err-submissions
returns-in_err-submissions g c =
    faults_after g.C.Database c.args.tables.now.conn c.revision.new.self.conn c.submissions.new.self.conn c.in_err-submissions.field-0.0 c.from_residual-in_err-submissions.result _
    (reads_then _ _ _ (reads_then _ _ _ (reads_then _ _ _ c.in_ok-pending.ensures.rests c.in_ok-accounts.ensures.rests) c.in_ok-items.ensures.rests) c.in_ok-revision.ensures.rests) c.in_err-submissions.ensures.rests
    (λ clean v rest readable. c.in_err-submissions.ensures.told clean v rest readable) c.from_residual-in_err-submissions.ensures.1

pub returns : goal.returns
returns g c =
    let count = c.in_ok-pending.ensures in
    let first = c.in_ok-accounts.ensures in
    let second = c.in_ok-items.ensures in
    let third = c.in_ok-revision.ensures in
    let fourth = c.in_ok-submissions.ensures in
    record {
      rests = reads_then _ _ _ (reads_then _ _ _ (reads_then _ _ _ (reads_then _ _ _ count.rests first.rests) second.rests) third.rests) fourth.rests;
      told = λ clean v rest holds many.
          let clean_third = fourth.rests.clean clean in
          let clean_second = third.rests.clean clean_third in
          let clean_first = second.rests.clean clean_second in
          let rest_count = count.rests.kept v rest in
          let rest_first = first.rests.kept v rest_count in
          let rest_second = second.rests.kept v rest_first in
          let pending : c.in_ok-pending.pending ≡ length (pending_above 0 v) = count.told (first.rests.clean clean_first) v rest holds in
          let has : HasAccounts v c.in_ok-accounts.accounts = first.told clean_first v rest_count many in
          let items : c.in_ok-items.items ≡ length v.items = second.told clean_second v rest_first in
          let revision : c.in_ok-revision.revision ≡ v.revision = third.told clean_third v rest_second in
          let submissions : c.in_ok-submissions.submissions ≡ length v.submits = fourth.told clean v (third.rests.kept v rest_second) in
          (has.0, has.1, λ i. record { accounts = has.2 i; items = items i; pending = pending i; revision = revision i; submissions = submissions i });
    }
