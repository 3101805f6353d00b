use Rattle.std.proofs.Common.{refl, arith}
use Rattle.pid_tables.specs.Rows.Faults.{IsMemoryOrStore}
use Rattle.pid_tables.proofs.OfRows.CauseLemmas.{passed_on}
use Rattle.pid_tables.proofs.OfCheck.SubmissionFacts.{submissions_judged}
use Rattle.pid_tables.proofs.check.submission.read_submissions.Goals as goal

pub returns-in_err-fold_rows : goal.returns-in_err-fold_rows
returns-in_err-fold_rows g c = record {
  rests = c.in_err-fold_rows.ensures.rests;
  keeps = λ clean d is asked. passed_on c.from_residual.result _ _ IsMemoryOrStore c.from_residual.ensures.1 (c.in_err-fold_rows.ensures.keeps clean d is asked);
}

pub returns : goal.returns
returns g c = record {
  rests = c.in_ok-fold_rows.ensures.rests;
  keeps = λ clean d is asked.
      let it = c.in_ok-fold_rows.ensures.keeps clean d is asked in
      let last = c.fold_rows.new.keeper in
      let taken = it.0.2 (record { names = refl; count = refl; fit = λ count. (λ yes r h. absurd h, λ all. (refl, omega arith)); numbers = c.no_numbers.ensures; authors = c.no_authors.ensures }) in (
        (
          it.0.0,
          it.0.1,
          record { count = taken.count; authors = taken.authors; good = submissions_judged _ it.0.0 last c.count_from_one.result taken (c.count_from_one.ensures it.0.0 taken.numbers taken.count) },
        ),
        it.1,
      );
}
