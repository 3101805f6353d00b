use Rattle.pid_tables.proofs.OfCheck.RemarkFacts.{place_added, place_skipped}
use Rattle.pid_tables.proofs.check.remark.add_place.Goals as goal

pub returns-in_default : goal.returns-in_default
returns-in_default c = record {
  added = λ rows. place_skipped c.args.places.now rows c.args.row.now (λ num place first second. c.in_default.ensures.none num first);
  only_store = tt;
}

pub returns-in_default-number_at : goal.returns-in_default-number_at
returns-in_default-number_at c = record {
  added = λ rows. place_skipped c.args.places.now rows c.args.row.now (λ num place first second. c.in_default-number_at.ensures.none place second);
  only_store = tt;
}

pub returns-in-Ok : goal.returns-in-Ok
returns-in-Ok c = record {
  added = λ rows.
      place_added c.args.places.now c.insert.new.self rows c.args.row.now c.in-Some.submission c.in-Some-number_at.place c.in-Some.ensures.found c.in-Some-number_at.ensures.found c.in-Ok.ensures.updates.0;
  only_store = tt;
}

pub returns-in-Err : goal.returns-in-Err
returns-in-Err c = record { added = λ rows was. tt; only_store = tt }
