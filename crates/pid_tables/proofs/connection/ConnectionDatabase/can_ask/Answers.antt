use Rattle.std.proofs.Common.{◌≡◌, Err, IfErr, sym, subst, ◌∙◌, [], rules}
use Rattle.std.proofs.lemmas.Bool.{false≢true}
use Rattle.sqlite.specs.Held.{state}
use Rattle.sqlite.specs.Order.{Row}
use Rattle.sqlite.specs.State.{IsNotRun}
use Rattle.sqlite.proofs.StateLemmas.{clean_if_open}
use Rattle.pid_tables.proofs.OfCheck.Each.{if_ok}
use Rattle.pid_tables.proofs.OfCheck.Asking.{err_of, rests, refused, unasked, unasked_caused, on_if_ok, told_caused}
use Rattle.pid_tables.proofs.connection.ConnectionDatabase.can_ask.Goals as goal

pub returns-in-None-clause-asks : goal.returns-in-None-clause-asks
returns-in-None-clause-asks g c = record {
  rests =
      let new = c.prepare.new.self in
      rests _ c.prepare.result (state g.S.Store c.args.self.now) (state g.S.Store new) c.args.sql.now (clean_if_open (g.S.Store.view new.store) (g.met.S.Store.shut_if_dirty new.store)) (c.prepare.ensures.mode c.requires) c.prepare.ensures.survives
      c.prepare.ensures.ok c.prepare.ensures.err;
  same = search rules;
  asked = search rules;
  only_store = tt;
}

pub returns-in-Some-clause-asks : goal.returns-in-Some-clause-asks
returns-in-Some-clause-asks g c = record {
  rests =
      let new = c.prepare.new.self in
      rests _ c.prepare.result (state g.S.Store c.args.self.now) (state g.S.Store new) c.args.sql.now (clean_if_open (g.S.Store.view new.store) (g.met.S.Store.shut_if_dirty new.store)) (c.prepare.ensures.mode c.requires) c.prepare.ensures.survives
      c.prepare.ensures.ok c.prepare.ensures.err;
  same = λ clean.
      let old = state g.S.Store c.args.self.now in
      let new = state g.S.Store c.prepare.new.self in
      let is : c.prepare.result ≡ Err c.in-Some.error = err_of c.prepare.result c.in-Some.error (sym c.err.ensures.value ∙ c.in-Some.is) in
      let why = subst (λ r. IfErr r (λ e. (params : Row) → IsNotRun old new c.args.sql.now params e)) is (c.prepare.ensures.err clean) in
      if_ok c.unasked.result (λ asked it. (refused old new c.args.sql.now c.in-Some.error (why []) it.1).1.0.now_is) c.unasked.ensures.refused;
  asked = λ clean.
      let old = state g.S.Store c.args.self.now in
      let new = state g.S.Store c.prepare.new.self in
      let is : c.prepare.result ≡ Err c.in-Some.error = err_of c.prepare.result c.in-Some.error (sym c.err.ensures.value ∙ c.in-Some.is) in
      let why = subst (λ r. IfErr r (λ e. (params : Row) → IsNotRun old new c.args.sql.now params e)) is (c.prepare.ensures.err clean) in
      if_ok c.unasked.result (λ asked it.
      let no = (refused old new c.args.sql.now c.in-Some.error (why []) it.1).0 in
      (λ yes. absurd (false≢true (sym it.0 ∙ yes)), λ has. absurd (unasked old.now.schema c.args.sql.now no.0 no.1 has))) c.unasked.ensures.refused;
  only_store = c.unasked.ensures.only_store;
}

pub returns-in-Some-clause-was_open : goal.returns-in-Some-clause-was_open
returns-in-Some-clause-was_open g c clean =
    let old = state g.S.Store c.args.self.now in
    let new = state g.S.Store c.prepare.new.self in
    let is : c.prepare.result ≡ Err c.in-Some.error = err_of c.prepare.result c.in-Some.error (sym c.err.ensures.value ∙ c.in-Some.is) in
    let why = subst (λ r. IfErr r (λ e. (params : Row) → IsNotRun old new c.args.sql.now params e)) is (c.prepare.ensures.err clean) in
    on_if_ok c.unasked.result (λ asked it. (refused old new c.args.sql.now c.in-Some.error (why []) it.1).1.0.was_open) c.unasked.ensures.refused

pub returns-in-Some-clause-caused : goal.returns-in-Some-clause-caused
returns-in-Some-clause-caused g c clean v rest query =
    let old = state g.S.Store c.args.self.now in
    let new = state g.S.Store c.prepare.new.self in
    let is : c.prepare.result ≡ Err c.in-Some.error = err_of c.prepare.result c.in-Some.error (sym c.err.ensures.value ∙ c.in-Some.is) in
    let why = subst (λ r. IfErr r (λ e. (params : Row) → IsNotRun old new c.args.sql.now params e)) is (c.prepare.ensures.err clean) in
    told_caused old new c.unasked.result _ c.unasked.ensures.told (unasked_caused old new v c.args.sql.now c.in-Some.error rest query (why []))
