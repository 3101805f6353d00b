use Rattle.std.proofs.Common.{refl, arith}
use Rattle.pid_tables.proofs.OfCheck.NumberFacts.{number_added, number_skipped, in_turn, out_of_turn}
use Rattle.pid_tables.proofs.check.numbers.add_number.Goals as goal

pub returns-in_default : goal.returns-in_default
returns-in_default c = record {
  added = λ rows. number_skipped c.args.numbers.now rows c.args.row.now c.in_default.ensures.none;
  only_store = tt;
}

pub returns-then-num-numbers : goal.returns-then-num-numbers
returns-then-num-numbers c = record {
  added = λ rows.
      let num = c.in-Some.num in
      let next = record c.args.numbers.now { turn = num } in
      number_added c.args.numbers.now next rows c.args.row.now num c.in-Some.ensures.found (in_turn c.args.numbers.now next num (omega (arith, c.if-num-gt0.true, c.if-num-numbers.true)) refl refl);
  only_store = tt;
}

pub returns-in-Ok : goal.returns-in-Ok
returns-in-Ok c = record {
  added = λ rows.
      let num = c.in-Some.num in
      let next = record c.args.numbers.now { others = c.insert.new.self } in
      number_added c.args.numbers.now next rows c.args.row.now num c.in-Some.ensures.found (out_of_turn c.args.numbers.now next num refl c.in-Ok.ensures.updates.0);
  only_store = tt;
}

pub returns-in-Err : goal.returns-in-Err
returns-in-Err c = record { added = λ rows was. tt; only_store = tt }
