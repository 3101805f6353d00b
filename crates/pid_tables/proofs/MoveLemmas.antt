-- What the move of the tables leaves.
use Rattle.std.proofs.Common.{◌≡◌, inl, inr, true, false, Ok, Err, Result, IsErrAnd, IfErr, IfOk, OnErr, OnOk, IsTrue, refl, sym, subst, ◌∙◌, arith}
use Rattle.sqlite.proofs.Callers.{survives_begin}
use Rattle.sqlite.proofs.StateLemmas.{survives_then}
use Rattle.sqlite.specs.Effect.{Database}
use Rattle.sqlite.specs.Held.{Held, state}
use Rattle.sqlite.specs.State.{State, HasCleanDisk, Survives}
use Rattle.sqlite.specs.Steps.{FailsToCommit}
use Rattle.sqlite.specs.declared.error.Error.{Error}
use Rattle.sqlite_trees.specs.declared.store.Store.{Ghosts}
use Rattle.pid_moderation.specs.Views.{Views}
use Rattle.pid_tables.specs.declared.rows.fault.TableFault.{TableFault}
use Rattle.pid_tables.specs.declared.rows.fault.TableFault.TheVariants.{Memory, Store, NewerSchema, Damaged}
use Rattle.pid_tables.specs.declared.rows.schema_version.Version.{Version}
use Rattle.pid_tables.specs.declared.rows.schema_version.Version.TheVariants.{Two}
use Rattle.pid_tables.specs.Rows.Causes.{IsCaused}
use Rattle.pid_tables.specs.Rows.Faults.{IsMemoryOrStore, IsNotNewerSchema}
use Rattle.pid_tables.specs.Rows.Leaves.{RestsIn}
use Rattle.pid_tables.specs.Rows.Steps.Turns.{GoesOn}
use Rattle.pid_tables.specs.Rows.Shows.{Shows, ShowsIn}
use Rattle.pid_tables.proofs.OfRows.GoingLemmas.{earlier, goes_then}
use Rattle.pid_tables.proofs.OfRows.LeaveLemmas.{shows_found}
use Rattle.pid_tables.proofs.OfCheck.Later.{only_store_never}
use Rattle.pid_tables.specs.Steps.Commits.{IsUndone}

-- a commit that failed gives back what was committed
pub undone : (old new : State) (e : Error) → IsTrue old.in_transaction → FailsToCommit old new e → IsUndone old new
undone old new e inside (inl failed) = let back = failed.3 in record { was_open = back.was_open; sees = λ opened. (back.undone opened).0; committed = λ opened. (back.undone opened).1 }
undone old new e inside (inr odd) = absurd (let both = sym inside ∙ odd.1 in let bad : ⊥ = cc in bad)

-- so it leaves tables of the schema that was before, and a crash those of the one or the other
pub failed_rests : {S X E : Type 0} {Y F : Type 0} (g : Ghosts S) (version : Version) (old mid end : Held S) (r : Result X E) (ends : Result Y F) (v : Views) → (IsTrue (state g end).is_open → HasCleanDisk (state g end))
    → RestsIn version (state g old) v → GoesOn (state g (record old { in_transaction = true })) (state g mid) r → (HasCleanDisk (state g mid) → Shows (state g mid).now v)
    → (state g end).in_transaction ≡ false → Survives (state g mid) (state g end) (λ db. db ≡ (state g mid).now.trees) → (HasCleanDisk (state g end) → OnErr ends (IsUndone (state g mid) (state g end))) → OnErr ends (RestsIn version (state g end) v)
failed_rests g version old mid end r (Ok x) v law rest goes shows ended survives back = tt
failed_rests g version old mid end r (Err e) v law rest goes shows ended survives back = record {
  settled = ended;
  same = λ opened. let u = back (law opened) in u.sees opened ∙ sym (u.committed opened);
  shows = λ opened.
      let clean = law opened in
      let u = back clean in
      let mid_clean = earlier (state g mid) (state g end) survives clean in
      let was = u.was_open opened in
      let first = goes.was_open mid_clean was in
      subst (λ (d : Database). ShowsIn version d v) (sym (u.sees opened ∙ goes.committed mid_clean refl was ∙ sym (rest.same first))) (rest.shows first);
  leaves = record {
    each = λ clean db may. elim (whole.crash clean db may) [
      | inl before ↦ rest.leaves.each (earlier (state g old) (state g end) whole clean) db before
      | inr made ↦ (Two, shows_found (state g mid).now v (shows (earlier (state g mid) (state g end) survives clean)) db made)
    ];
  };
}
  where
    begun : State
    begun = state g (record old { in_transaction = true })

    whole : Survives (state g old) (state g end) (λ db. db ≡ (state g mid).now.trees)
    whole = survives_begin g old (state g end) (λ db. db ≡ (state g mid).now.trees)
        (survives_then begun (state g mid) (state g end) (λ _. ⊥) (λ db. db ≡ (state g mid).now.trees) (λ db. db ≡ (state g mid).now.trees) (λ clean db none. absurd none) (λ clean db is. is) goes.survives survives)

-- ---- faults

pub caused_only_store : (old new : State) (e : TableFault) → IsCaused old new e → IsMemoryOrStore e
caused_only_store old new Memory h = tt
caused_only_store old new Store h = tt
caused_only_store old new (NewerSchema n) h = h
caused_only_store old new Damaged h = h

-- a fault that has a cause says nothing of the tables
pub all_only_store : {X : Type 0} (old new : State) (r : Result X TableFault) → IfErr r (IsCaused old new) → IfErr r IsMemoryOrStore
all_only_store old new (Ok x) h = tt
all_only_store old new (Err e) h = caused_only_store old new e h

pub all_never : {X : Type 0} (r : Result X TableFault) → IfErr r IsMemoryOrStore → IfErr r IsNotNewerSchema
all_never (Ok x) h = tt
all_never (Err e) h = only_store_never e h

pub all_err : {X : Type 0} {P : TableFault → Type 0} (r : Result X TableFault) → ((e : TableFault) → P e) → IfErr r P
all_err (Ok x) f = tt
all_err (Err e) f = f e

pub never_told : {X : Type 0} (P : Type 0) (r : Result X TableFault) → IfErr r IsMemoryOrStore → IfErr r (λ e. ¬ (IsMemoryOrStore e) → P)
never_told P (Ok x) h = tt
never_told P (Err e) h = λ told. absurd (told h)

pub or_never : {X P Q : Type 0} (r : Result X TableFault) → (P → Q) → IfErr r (λ e. ¬ (IsMemoryOrStore e) → P) → IfErr r (λ e. ¬ (IsMemoryOrStore e) → Q)
or_never (Ok x) f h = tt
or_never (Err e) f h = λ told. f (h told)

-- a fault is no value
pub not_ok : {X : Type 0} (r : Result X TableFault) (e : TableFault) (P : X → Type 0) → IsErrAnd r (λ y. y ≡ e) → IfOk r P
not_ok (Ok x) e P h = absurd h
not_ok (Err y) e P h = tt

pub not_on_ok : {X : Type 0} (r : Result X TableFault) (e : TableFault) (P : Type 0) → IsErrAnd r (λ y. y ≡ e) → OnOk r P
not_on_ok (Ok x) e P h = absurd h
not_on_ok (Err y) e P h = tt

-- what is known needs no value
pub known : {X E P : Type 0} (r : Result X E) → P → OnOk r P
known (Ok x) p = p
known (Err e) p = tt

-- ---- calls in a transaction

-- nothing was asked of the transaction
pub goes_nowhere : {X : Type 0} (s : State) (e : TableFault) (r : Result X TableFault) → IsErrAnd r (λ y. y ≡ e) → GoesOn s s r
goes_nowhere s e r is = record { survives = record { clean = omega arith; shield = λ h. h; counts = omega arith; limit = refl; closes = λ clean opened. inl opened; crash = λ clean db may. inl may }; was_open = λ clean opened. opened; committed = λ clean inside opened. refl; going = λ clean inside. not_on_ok r e _ is }

pub goes_value : {X Y : Type 0} (a b : State) (x : X) (y : Y) → GoesOn {E = TableFault} a b (Ok x) → GoesOn {E = TableFault} a b (Ok y)
goes_value a b x y goes = record { survives = goes.survives; was_open = goes.was_open; committed = goes.committed; going = goes.going }

pub goes_fault : {X Y : Type 0} (a b : State) (e : TableFault) (r : Result Y TableFault) → IsErrAnd r (λ y. y ≡ e) → GoesOn {X = X} a b (Err e) → GoesOn a b r
goes_fault a b e r is goes = record { survives = goes.survives; was_open = goes.was_open; committed = goes.committed; going = λ clean inside. not_on_ok r e _ is }

pub goes_fault_after : {X Y Z : Type 0} (a b c : State) (x : X) (e : TableFault) (r : Result Z TableFault) → IsErrAnd r (λ y. y ≡ e) → GoesOn {E = TableFault} a b (Ok x) → GoesOn {X = Y} b c (Err e) → GoesOn a c r
goes_fault_after a b c x e r is one two = goes_fault a c e r is (goes_then a b c x (Err e) one two)

-- whatever is answered after a call that answered a value
pub goes_still : {X Y : Type 0} (a b : State) (x : X) (r : Result Y TableFault) → GoesOn {E = TableFault} a b (Ok x) → GoesOn a b r
goes_still a b x r goes = record { survives = goes.survives; was_open = goes.was_open; committed = goes.committed; going = λ clean inside. known r (goes.going clean inside) }
