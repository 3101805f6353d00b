use Rattle.pid_tables.proofs.OfCheck.AuthorFacts.{author_added, author_skipped}
use Rattle.pid_tables.specs.Rows.Faults.{IsMemoryOrStore}
use Rattle.pid_tables.proofs.OfRows.CauseLemmas.{passed_from}
use Rattle.pid_tables.proofs.MoveLemmas.{not_on_ok}
use Rattle.pid_tables.proofs.check.authors.add_author.Goals as goal

pub returns-in_default : goal.returns-in_default
returns-in_default c = record {
  added = λ rows. author_skipped c.args.authors.now rows c.args.row.now (λ n t first second utf8. c.in_default.ensures.none n first);
  only_store = tt;
}

pub returns-in_default-text_at : goal.returns-in_default-text_at
returns-in_default-text_at c = record {
  added = λ rows. author_skipped c.args.authors.now rows c.args.row.now (λ n t first second. c.in_default-text_at.ensures.none t second);
  only_store = tt;
}

pub returns : goal.returns
returns c = record {
  added = λ rows.
      author_added c.args.authors.now (record { names = c.place_of.new.names; turn = c.insert_place.new.turn; others = c.insert_place.new.others }) rows c.args.row.now c.in-Some.submission c.in_ok-place.place c.in-Some-text_at.author.now c.in-Some.ensures.found c.in-Some-text_at.ensures.found c.in_ok-place.ensures.placed c.in_ok-insert_place.ensures.added;
  only_store = tt;
}

pub returns-in_err-place : goal.returns-in_err-place
returns-in_err-place c = record {
  added = λ rows was. not_on_ok c.from_residual.result _ _ c.from_residual.ensures.1;
  only_store = passed_from c.from_residual.result _ IsMemoryOrStore c.from_residual.ensures.1 c.in_err-place.ensures.only_store;
}

pub returns-in_err-insert_place : goal.returns-in_err-insert_place
returns-in_err-insert_place c = record {
  added = λ rows was. not_on_ok c.from_residual-in_err-insert_place.result _ _ c.from_residual-in_err-insert_place.ensures.1;
  only_store = passed_from c.from_residual-in_err-insert_place.result _ IsMemoryOrStore c.from_residual-in_err-insert_place.ensures.1 c.in_err-insert_place.ensures.only_store;
}
