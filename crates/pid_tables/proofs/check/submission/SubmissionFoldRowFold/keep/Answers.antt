use Rattle.std.proofs.Common.{[], ◌∷◌, length-append, arith}
use Rattle.pid_tables.proofs.check.submission.SubmissionFoldRowFold.keep.Goals as goal

pub returns-clause-kept : goal.returns-clause-kept
returns-clause-kept c first rows was = record {
  names = was.names;
  count = omega (arith, c.in_ok-self.ensures.next, was.count, length-append rows (c.args.row.now ∷ []));
  fit = c.fit_row-self.ensures rows was.fit;
  numbers = c.in_ok-add_number.ensures.added rows was.numbers;
  authors = c.in_ok-add_author.ensures.added rows was.authors;
}
