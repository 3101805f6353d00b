use Rattle.std.specs.Prelude.{option_map}
use Rattle.pid_tables.specs.Rows.Causes.{IsCaused, IsReadable}
use Rattle.pid_tables.proofs.OfRows.CauseLemmas.{caused_later, passed_on}
use Rattle.pid_tables.proofs.OfRows.OnlyReading.{reads_then}
use Rattle.pid_moderation.specs.Submissions.{Standing}
use Rattle.pid_tables.proofs.ThenReads.{fault_first}
use Rattle.pid_tables.proofs.tables.Tables.submission.Goals as goal

pub returns-in_err-submission : goal.returns-in_err-submission
returns-in_err-submission g c =
    let one = c.in_ok-remarks.ensures in
    let two = c.in_err-submission.ensures in
    let old = g.C.Database.state c.args.self.now.conn in
    let mid = g.C.Database.state c.comments.new.tables.conn in
    let new = g.C.Database.state c.standing.new.tables.conn in
    record {
      rests = reads_then _ _ _ one.rests two.rests;
      told = λ clean v rest.
          passed_on c.from_residual-in_err-submission.result _ _ (λ fault. IsReadable v → IsCaused old new fault) c.from_residual-in_err-submission.ensures.1
          (λ readable. caused_later old mid new (λ _. ⊥) c.in_err-submission.field-0.0 one.rests.survives two.rests.survives.counts (two.rests.clean clean) (two.told clean v (one.rests.kept v rest) readable));
    }

pub returns-in-Some : goal.returns-in-Some
returns-in-Some g c =
    let one = c.in_ok-remarks.ensures in
    let two = c.in_ok-submission.ensures in
    record {
      rests = reads_then _ _ _ one.rests two.rests;
      told = λ clean v rest.
          let all = one.told (two.rests.clean clean) v rest in
          let found = rw c.in-Some.is at (two.told clean v (one.rests.kept v rest)) in
          λ i. option_map (λ (s : Standing). (s, all i)) (found i);
    }

pub returns-in-None : goal.returns-in-None
returns-in-None g c =
    let one = c.in_ok-remarks.ensures in
    let two = c.in_ok-submission.ensures in
    record {
      rests = reads_then _ _ _ one.rests two.rests;
      told = λ clean v rest.
          let all = one.told (two.rests.clean clean) v rest in
          let found = rw c.in-None.is at (two.told clean v (one.rests.kept v rest)) in
          λ i. option_map (λ (s : Standing). (s, all i)) (found i);
    }

pub returns-in_err-remarks : goal.returns-in_err-remarks
returns-in_err-remarks g c = fault_first g.C.Database.state c.args.self.now.conn c.comments.new.tables.conn c.in_err-remarks.field-0.0 c.from_residual.result c.from_residual.ensures.1 c.in_err-remarks.ensures
