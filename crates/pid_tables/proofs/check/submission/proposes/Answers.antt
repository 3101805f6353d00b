use Rattle.std.proofs.Common.{◌≡◌, rules}
use Rattle.sqlite.specs.Order.{column}
use Rattle.pid_tables.specs.Rows.TableRows.{number}
use Rattle.pid_tables.proofs.OfCheck.SubmissionFacts.{named, name_of_form}
use Rattle.pid_tables.proofs.check.submission.proposes.Goals as goal

pub returns-in-Some-eq0 : goal.returns-in-Some-eq0
returns-in-Some-eq0 c =
    let e : column c.args.row.now 3 ≡ number 0 = search rules in
    (λ yes. named c.args.row.now e (c.has_name.ensures.0 yes), λ it. c.has_name.ensures.1 (name_of_form c.args.row.now e it))
