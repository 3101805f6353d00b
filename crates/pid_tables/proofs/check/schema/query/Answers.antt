use Rattle.std.proofs.Common.{sym, ap}
use Rattle.pid_tables.specs.Check.Queries.{query_of}
use Rattle.pid_tables.proofs.check.schema.query.Goals as goal

pub returns-in-Meta : goal.returns-in-Meta
returns-in-Meta c = ap query_of (sym c.in-Meta.is)

pub returns-in-Account : goal.returns-in-Account
returns-in-Account c = ap query_of (sym c.in-Account.is)

pub returns-in-Item : goal.returns-in-Item
returns-in-Item c = ap query_of (sym c.in-Item.is)

pub returns-in-Submission : goal.returns-in-Submission
returns-in-Submission c = ap query_of (sym c.in-Submission.is)

pub returns-in-Remark : goal.returns-in-Remark
returns-in-Remark c = ap query_of (sym c.in-Remark.is)

pub returns-in-Receipt : goal.returns-in-Receipt
returns-in-Receipt c = ap query_of (sym c.in-Receipt.is)

pub returns-in-Since : goal.returns-in-Since
returns-in-Since c = ap query_of (sym c.in-Since.is)
