use Rattle.std.proofs.Common.{◌∙◌}
use Rattle.pid_tables.proofs.OfCheck.Asking.{nothing_read}
use Rattle.pid_tables.specs.Steps.Gathering.{bare}
use Rattle.pid_tables.proofs.ThenReads.{fault_first, says_less}
use Rattle.pid_tables.proofs.tables.Tables.with_rows.Goals as goal

pub returns-in_ok-who-in-Rank : goal.returns-in_ok-who-in-Rank
returns-in_ok-who-in-Rank g c = rw c.in-Rank.is (record {
  rests = c.rank.ensures.rests;
  told = λ clean v rest all parents.
      let rank = rw c.as_str.ensures.text at (c.in_ok-who-in-Rank.ensures.told clean v rest) in
      c.plain_facts.ensures ∙ (λ i. record (bare c.args.known) { who = rank i });
})

pub returns-in_ok-submissions-in-Submissions : goal.returns-in_ok-submissions-in-Submissions
returns-in_ok-submissions-in-Submissions g c = rw c.in-Submissions.is (record {
  rests = c.submissions.ensures.rests;
  told = λ clean v rest all parents. c.plain_facts-in-Submissions.ensures ∙ (λ i. record (bare c.args.known) { submissions = c.in_ok-submissions-in-Submissions.ensures.told clean v rest i });
})

pub returns-in_ok-named-in-Submission : goal.returns-in_ok-named-in-Submission
returns-in_ok-named-in-Submission g c = rw c.in-Submission.is (record {
  rests = c.submission_facts.ensures.rests;
  told = λ clean v rest all parents. c.plain_facts-in-Submission.ensures ∙ (λ i. record (bare c.args.known) { named = c.in_ok-named-in-Submission.ensures.told clean v rest i });
})

pub returns-in-Remarks : goal.returns-in-Remarks
returns-in-Remarks g c = rw c.in-Remarks.is (says_less g.C.Database.state c.args.self.now.conn c.remark_facts.new.self.conn c.remark_facts.result c.remark_facts.ensures (λ v x says all parents. says))

pub returns-in-Item : goal.returns-in-Item
returns-in-Item g c = rw c.in-Item.is c.item_facts.ensures

pub returns-in-Nothing : goal.returns-in-Nothing
returns-in-Nothing g c = rw c.in-Nothing.is (record {
  rests = nothing_read (g.C.Database.state c.args.self.now.conn) c.args.self.now.settled;
  told = λ clean v rest all parents. c.plain_facts-in-Nothing.ensures;
})

pub returns-in_err-who-in-Rank : goal.returns-in_err-who-in-Rank
returns-in_err-who-in-Rank g c = fault_first g.C.Database.state c.args.self.now.conn c.rank.new.self.conn c.in_err-who-in-Rank.field-0.0 c.from_residual.result c.from_residual.ensures.1 c.in_err-who-in-Rank.ensures

pub returns-in_err-submissions-in-Submissions : goal.returns-in_err-submissions-in-Submissions
returns-in_err-submissions-in-Submissions g c =
    fault_first g.C.Database.state c.args.self.now.conn c.submissions.new.self.conn c.in_err-submissions-in-Submissions.field-0.0 c.from_residual-in_err-submissions-in-Submissions.result c.from_residual-in_err-submissions-in-Submissions.ensures.1 c.in_err-submissions-in-Submissions.ensures

pub returns-in_err-named-in-Submission : goal.returns-in_err-named-in-Submission
returns-in_err-named-in-Submission g c =
    fault_first g.C.Database.state c.args.self.now.conn c.submission_facts.new.self.conn c.in_err-named-in-Submission.field-0.0 c.from_residual-in_err-named-in-Submission.result c.from_residual-in_err-named-in-Submission.ensures.1 c.in_err-named-in-Submission.ensures
