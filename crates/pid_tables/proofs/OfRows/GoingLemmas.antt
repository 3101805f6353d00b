-- What calls inside a transaction leave.
use Rattle.std.proofs.Common.{◌≡◌, ℕ, List, inl, inr, false, Ok, Err, Result, OnOk, IfOk, IsTrue, refl, sym, subst, arith, ◌∙◌}
use Rattle.std.proofs.lemmas.Bool.{cases_Bool}
use Rattle.sqlite.proofs.InsideLemmas.{inside_keeps}
use Rattle.sqlite.proofs.StateLemmas.{survives_then}
use Rattle.sqlite.specs.Order.{Row}
use Rattle.sqlite.specs.Tree.{Trees}
use Rattle.sqlite.specs.State.{State, Survives, KeepsCommit, ExecutesInside}
use Rattle.sqlite.specs.State.{HasCleanDisk}
use Rattle.sqlite.specs.declared.error.Error.{Error}
use Rattle.pid_moderation.specs.Views.{Views}
use Rattle.pid_tables.specs.Rows.Shows.{Counts, Shows}
use Rattle.pid_tables.specs.Rows.Steps.Shows.{ShowsCounting}
use Rattle.pid_tables.specs.Rows.Steps.Within.{KeepsCommitted, Within, Written}
use Rattle.pid_tables.specs.Rows.Steps.Turns.{GoesOn}
use Rattle.pid_tables.proofs.OfRows.LeaveLemmas.{leaves_on}

pub earlier : {P : Trees → Type 0} (old new : State) → Survives old new P → HasCleanDisk new → HasCleanDisk old
earlier old new s clean = omega (arith, s.clean)

-- one statement, which outside a transaction is not run
module _ (sql : List ℕ) (params : Row) (old new : State) (ran : Result ℕ Error) (ended : old.in_transaction ≡ false → new ≡ old) (runs : HasCleanDisk new → IsTrue old.in_transaction → ExecutesInside 0 sql params old new ran) where
  keeps : HasCleanDisk new → KeepsCommit old new
  keeps clean = elim (cases_Bool old.in_transaction) [
    | inl inside ↦ inside_keeps old new 0 false sql params ran (runs clean inside)
    | inr none ↦ subst (λ s. KeepsCommit old s) (sym (ended none)) (record { was_open = λ opened. opened; committed = λ opened. refl })
  ]

  pub one_goes : {X E : Type 0} (r : Result X E) → Survives old new (λ _. ⊥) → (HasCleanDisk new → IsTrue old.in_transaction → OnOk r (IsTrue new.is_open × IsTrue new.in_transaction)) → GoesOn old new r
  one_goes r survives going = record {
    survives = survives;
    was_open = λ clean opened. (keeps clean).was_open opened;
    committed = λ clean inside opened. (keeps clean).committed opened;
    going = going;
  }

-- two calls are one
pub goes_then : {X Y E F : Type 0} (a b c : State) (x : X) (r : Result Y F) → GoesOn {E = E} a b (Ok x) → GoesOn b c r → GoesOn a c r
goes_then a b c x r one two = record {
  survives = survives_then a b c (λ _. ⊥) (λ _. ⊥) (λ _. ⊥) (λ clean db none. none) (λ clean db none. none) one.survives two.survives;
  was_open = λ clean opened. one.was_open (earlier b c two.survives clean) (two.was_open clean opened);
  committed = λ clean inside opened. let mid = earlier b c two.survives clean in two.committed clean (one.going mid inside).1 opened ∙ one.committed mid inside (two.was_open clean opened);
  going = λ clean inside. two.going clean (one.going (earlier b c two.survives clean) inside).1;
}

-- what was committed before stays, whatever the call answers
pub holds_on : {X E : Type 0} (old new : State) (r : Result X E) (c : Counts) (v w : Views) → (IsTrue new.is_open → HasCleanDisk new) → GoesOn old new r → Within c old v w → KeepsCommitted new v
holds_on old new r c v w law goes within = record {
  committed = λ opened.
      let clean = law opened in
      subst (λ d. Shows d v) (sym (goes.committed clean (within.inside (earlier old new goes.survives clean)) opened)) (within.holds.committed (goes.was_open clean opened));
  leaves = leaves_on old new v goes.survives within.holds.leaves;
}

-- and where it answers a value, the transaction shows what it leads to
pub within_on : {X E : Type 0} (old new : State) (r : Result X E) (c next : Counts) (v w after : Views) → (IsTrue new.is_open → HasCleanDisk new) → GoesOn old new r → Within c old v w
    → (HasCleanDisk new → IsTrue old.in_transaction → ShowsCounting c old.now w → OnOk r (ShowsCounting next new.now after)) → OnOk r (Written next new v after)
within_on old new (Ok x) c next v w after law goes within shows = record {
  within = record {
    inside = λ clean. (goes.going clean (within.inside (earlier old new goes.survives clean))).1;
    holds = holds_on old new (Ok x) c v w law goes within;
    shows = λ opened. shows (law opened) (within.inside (earlier old new goes.survives (law opened))) (within.shows (goes.was_open (law opened) opened));
  };
  opened = λ clean. (goes.going clean (within.inside (earlier old new goes.survives clean))).0;
}
within_on old new (Err e) c next v w after law goes within shows = tt

-- a value is told of what the transaction showed
pub told_within : {X E : Type 0} (old new : State) (r : Result X E) (c : Counts) (v w : Views) (P : X → Type 0) → GoesOn old new r → Within c old v w → HasCleanDisk new → (ShowsCounting c old.now w → IfOk r P) → IfOk r P
told_within old new (Ok x) c v w P goes within clean h = h (within.shows (goes.was_open clean (goes.going clean (within.inside (earlier old new goes.survives clean))).0))
told_within old new (Err e) c v w P goes within clean h = tt
