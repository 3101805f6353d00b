-- What calls that write in one transaction leave, whatever the database.
use Rattle.std.proofs.Common.{◌≡◌, inl, inr, true, false, [], Ok, Err, Result, IfErr, OnErr, OnOk, IsTrue, refl, sym, subst, ◌∙◌}
use Rattle.sqlite.proofs.Callers.{survives_begin}
use Rattle.sqlite.proofs.StateLemmas.{survives_then}
use Rattle.sqlite.specs.Held.{Held, state}
use Rattle.sqlite.specs.State.{State, HasCleanDisk, Survives}
use Rattle.sqlite.specs.Tree.{Trees}
use Rattle.sqlite_trees.specs.declared.store.Store.{Ghosts}
use Rattle.pid_moderation.specs.History.{new_history}
use Rattle.pid_moderation.specs.Views.{views_of}
use Rattle.pid_tables.specs.declared.rows.fault.TableFault.{TableFault}
use Rattle.pid_tables.specs.Rows.Faults.{IsMemoryOrStore}
use Rattle.pid_tables.specs.Rows.Leaves.{OnlyReads}
use Rattle.pid_tables.specs.Rows.Steps.Turns.{GoesOn}
use Rattle.pid_tables.specs.Rows.Shows.{Shows}
use Rattle.pid_tables.proofs.OfRows.GoingLemmas.{earlier}
use Rattle.pid_tables.proofs.OfRows.LeaveLemmas.{on_err, shows_found}
use Rattle.pid_tables.proofs.OfRows.OnlyReading.{reads_then}
use Rattle.pid_tables.specs.AtOnce.{IsCommitted, IsOneStep, IsTakenBack, WritesAtOnce}
use Rattle.pid_tables.specs.Creation.{AreMade, RestsBare}
use Rattle.pid_tables.specs.Steps.Commits.{IsUndone}
use Rattle.pid_tables.proofs.MoveLemmas.{all_err, never_told, or_never}

-- ---- reads

pub reads_once : (old new : State) → OnlyReads old new → IsOneStep old new
reads_once old new reads =
    let s = reads.survives in
    record {
      written = old.now.trees;
      survives = record {
        clean = s.clean;
        shield = s.shield;
        counts = s.counts;
        limit = s.limit;
        closes = s.closes;
        crash = λ clean db may. elim (s.crash clean db may) [ inl before ↦ inl before | inr none ↦ absurd none ];
      };
    }

-- whatever a call was to commit, a read does not
pub reads_never : (P : Trees → Type 0) (old new : State) → OnlyReads old new → Survives old new P
reads_never P old new reads =
    let s = reads.survives in
    record {
      clean = s.clean;
      shield = s.shield;
      counts = s.counts;
      limit = s.limit;
      closes = s.closes;
      crash = λ clean db may. elim (s.crash clean db may) [ inl before ↦ inl before | inr none ↦ absurd none ];
    }

pub reads_back : (old new : State) → OnlyReads old new → IsTakenBack old new
reads_back old new reads = record { was_open = reads.was_open; same = reads.same }

pub reads_then_once : (a b c : State) → OnlyReads a b → IsOneStep b c → IsOneStep a c
reads_then_once a b c reads once = record {
  written = once.written;
  survives = survives_then a b c (λ _. ⊥) (λ db. db ≡ once.written) (λ db. db ≡ once.written) (λ clean db none. absurd none) (λ clean db is. is) reads.survives once.survives;
}

pub reads_then_back : {X E : Type 0} (a b c : State) (r : Result X E) → OnlyReads a b → OnErr r (IsTakenBack b c) → OnErr r (IsTakenBack a c)
reads_then_back a b c (Ok x) reads back = tt
reads_then_back a b c (Err e) reads back = record { was_open = λ opened. reads.was_open (back.was_open opened); same = λ d rest. back.same d (reads.same d rest) }

pub reads_at_once : {X : Type 0} (old new : State) (r : Result X TableFault) → OnlyReads old new → WritesAtOnce old new r
reads_at_once old new r reads = record {
  settled = reads.settled;
  clean = reads.clean;
  once = reads_once old new reads;
  back = on_err r (reads_back old new reads);
  unchanged = λ clean. all_err r (λ e told. reads);
}

pub reads_then_at_once : {X : Type 0} (a b c : State) (r : Result X TableFault) → OnlyReads a b → WritesAtOnce b c r → WritesAtOnce a c r
reads_then_at_once a b c r reads writes = record {
  settled = writes.settled;
  clean = λ clean. reads.clean (writes.clean clean);
  once = reads_then_once a b c reads writes.once;
  back = reads_then_back a b c r reads writes.back;
  unchanged = λ clean. or_never r (λ more. reads_then a b c reads more) (writes.unchanged clean);
}

-- ---- a transaction that was to be committed

module _ {S X E : Type 0} (g : Ghosts S) (old mid end : Held S) (r : Result X E) (goes : GoesOn (state g (record old { in_transaction = true })) (state g mid) r)
    (survives : Survives (state g mid) (state g end) (λ db. db ≡ (state g mid).now.trees)) where
  whole : Survives (state g old) (state g end) (λ db. db ≡ (state g mid).now.trees)
  whole = survives_begin g old (state g end) (λ db. db ≡ (state g mid).now.trees)
      (survives_then (state g (record old { in_transaction = true })) (state g mid) (state g end) (λ _. ⊥) (λ db. db ≡ (state g mid).now.trees) (λ db. db ≡ (state g mid).now.trees)
      (λ clean db none. absurd none) (λ clean db is. is) goes.survives survives)

  pub committed_once : IsOneStep (state g old) (state g end)
  committed_once = record { written = (state g mid).now.trees; survives = whole }

  -- as far as it is known what the transaction came to
  pub committed_as : (P : Trees → Type 0) → (HasCleanDisk (state g mid) → P (state g mid).now.trees) → Survives (state g old) (state g end) P
  committed_as P holds = record {
    clean = whole.clean;
    shield = whole.shield;
    counts = whole.counts;
    limit = whole.limit;
    closes = whole.closes;
    crash = λ clean db may. elim (whole.crash clean db may) [ inl before ↦ inl before | inr is ↦ inr (subst P (sym is) (holds (earlier (state g mid) (state g end) survives clean))) ];
  }

  module _ (law : IsTrue (state g end).is_open → HasCleanDisk (state g end)) where
    back : (HasCleanDisk (state g end) → IsUndone (state g mid) (state g end)) → IsTakenBack (state g old) (state g end)
    back undone = record {
      was_open = λ opened. goes.was_open (first opened) ((undone (law opened)).was_open opened);
      same = λ d rest. record {
        sees = λ opened. (undone (law opened)).sees opened ∙ kept opened ∙ rest.committed (goes.was_open (first opened) ((undone (law opened)).was_open opened));
        committed = λ opened. (undone (law opened)).committed opened ∙ kept opened ∙ rest.committed (goes.was_open (first opened) ((undone (law opened)).was_open opened));
      };
    }
      where
        first : IsTrue (state g end).is_open → HasCleanDisk (state g mid)
        first opened = earlier (state g mid) (state g end) survives (law opened)

        kept : IsTrue (state g end).is_open → (state g mid).committed ≡ (state g old).committed
        kept opened = goes.committed (first opened) refl ((undone (law opened)).was_open opened)

    pub commit_back : {Y F : Type 0} (ends : Result Y F) → (HasCleanDisk (state g end) → OnErr ends (IsUndone (state g mid) (state g end))) → OnErr ends (IsTakenBack (state g old) (state g end))
    commit_back (Ok x) undone = tt
    commit_back (Err e) undone = back undone

    pub commit_at_once : {Y : Type 0} (ends : Result Y TableFault) → (state g end).in_transaction ≡ false → (HasCleanDisk (state g end) → OnErr ends (IsUndone (state g mid) (state g end)))
        → (HasCleanDisk (state g end) → IfErr ends IsMemoryOrStore) → WritesAtOnce (state g old) (state g end) ends
    commit_at_once ends ended undone only_store = record {
      settled = ended;
      clean = λ clean. earlier (state g old) (state g end) whole clean;
      once = committed_once;
      back = commit_back ends undone;
      unchanged = λ clean. never_told (OnlyReads (state g old) (state g end)) ends (only_store clean);
    }

    -- where there was no table: one may be left that shows the history of a new registry
    pub commit_bare : {Y F : Type 0} (ends : Result Y F) → (state g end).in_transaction ≡ false → (HasCleanDisk (state g end) → OnErr ends (IsUndone (state g mid) (state g end)))
        → (HasCleanDisk (state g mid) → Shows (state g mid).now (views_of new_history)) → RestsBare (state g old) → OnErr ends (RestsBare (state g end))
    commit_bare (Ok x) ended undone shows rest = tt
    commit_bare (Err e) ended undone shows rest =
        let now = (back undone).same (state g old).now (record { sees = λ opened. refl; committed = λ opened. sym (rest.same opened) }) in
        record {
          settled = ended;
          same = λ opened. now.sees opened ∙ sym (now.committed opened);
          empty = λ opened. subst (AreMade []) (sym (now.sees opened)) (rest.empty ((back undone).was_open opened));
          leaves = record {
            each = λ clean db may. elim (whole.crash clean db may) [
              | inl before ↦ rest.leaves.each (earlier (state g old) (state g end) whole clean) db before
              | inr made ↦ inr (shows_found (state g mid).now (views_of new_history) (shows (earlier (state g mid) (state g end) survives clean)) db made)
            ];
          };
        }

-- what is known of these trees is known of what is kept
pub kept_as : {X E : Type 0} (P : Trees → Type 0) (trees : Trees) (s : State) (r : Result X E) → P trees → OnOk r (IsCommitted (λ db. db ≡ trees) s) → OnOk r (IsCommitted P s)
kept_as P trees s (Ok x) holds kept = record { is_open = kept.is_open; sees = subst P (sym kept.sees) holds; leaves = kept.leaves }
kept_as P trees s (Err e) holds kept = tt

-- ---- no table

pub still_bare : (old new : State) → OnlyReads old new → RestsBare old → RestsBare new
still_bare old new reads rest =
    let now = reads.same old.now (record { sees = λ opened. refl; committed = λ opened. sym (rest.same opened) }) in
    record {
      settled = reads.settled;
      same = λ opened. now.sees opened ∙ sym (now.committed opened);
      empty = λ opened. subst (AreMade []) (sym (now.sees opened)) (rest.empty (reads.was_open opened));
      leaves = record { each = λ clean db may. elim (reads.survives.crash clean db may) [ inl before ↦ rest.leaves.each (reads.clean clean) db before | inr none ↦ absurd none ] };
    }
