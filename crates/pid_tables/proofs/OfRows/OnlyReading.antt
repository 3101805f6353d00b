-- What reads leave.
use Rattle.std.proofs.Common.{◌≡◌, ◌⊎◌, inl, inr, true, false, IsTrue, Ok, Err, Result, MatchResult, refl, sym, subst, ◌∙◌}
use Rattle.sqlite.proofs.Callers.{survives_begin}
use Rattle.sqlite.proofs.StateLemmas.{survives_then}
use Rattle.sqlite.specs.Effect.{Database}
use Rattle.sqlite.specs.Held.{Held, state}
use Rattle.sqlite.specs.State.{State, HasCleanDisk, Survives, IsUnchanged, IsRolledBack, Fails}
use Rattle.sqlite.specs.declared.error.Error.{Error}
use Rattle.sqlite_trees.specs.declared.store.Store.{Ghosts}
use Rattle.pid_tables.specs.declared.rows.fault.TableFault.{TableFault}
use Rattle.pid_tables.specs.Rows.Causes.{IsCaused, IsReadable}
use Rattle.pid_tables.proofs.OfRows.CauseLemmas.{caused_later}
use Rattle.pid_tables.specs.Rows.Leaves.{RestsOn, RestsIn, OnlyReads}
use Rattle.pid_tables.specs.Rows.Steps.Turns.{GoesOn}
use Rattle.pid_tables.specs.Rows.Shows.{ShowsIn, Shows}
use Rattle.pid_tables.proofs.OfRows.GoingLemmas.{earlier}
use Rattle.pid_tables.proofs.OfRows.LeaveLemmas.{leaves_on, shown_on}
use Rattle.pid_tables.specs.declared.rows.schema_version.Version.{Version}
use Rattle.pid_moderation.specs.Views.{Views}

-- while it is open, it was open, sees what it saw or what was committed, and has that committed
abbrev pub Keeps : State → State → Type 0
Keeps old new = IsTrue new.is_open → IsTrue old.is_open × ((new.now ≡ old.now) ⊎ (new.now ≡ old.committed)) × (new.committed ≡ old.committed)

pub keeps_same : (old new : State) → IsUnchanged old new → Keeps old new
keeps_same old new same opened = (same.0.was_open, inl same.0.now_is, same.0.committed_is)

pub keeps_back : (old new : State) → IsRolledBack old new → Keeps old new
keeps_back old new back opened = (back.was_open opened, inr (back.undone opened).0, (back.undone opened).1)

pub keeps_left : (old new : State) → IsUnchanged old new ⊎ IsRolledBack old new → Keeps old new
keeps_left old new (inl same) = keeps_same old new same
keeps_left old new (inr back) = keeps_back old new back

pub keeps_either : (old new : State) (e : Error) → Fails old new ⊥ e ⊎ IsUnchanged old new → Keeps old new
keeps_either old new e (inl fails) = keeps_back old new fails.3
keeps_either old new e (inr same) = keeps_same old new same

pub keeps_then : (old mid new : State) → IsUnchanged old mid → Keeps mid new → Keeps old new
keeps_then old mid new same keeps opened =
    let k = keeps opened in
    (same.0.was_open, elim k.1 [ inl now ↦ inl (now ∙ same.0.now_is) | inr back ↦ inr (back ∙ same.0.committed_is) ], k.2 ∙ same.0.committed_is)

-- a call that keeps so much only reads
pub rests_on : (old new : State) → (IsTrue new.is_open → HasCleanDisk new) → Survives old new (λ _. ⊥) → new.in_transaction ≡ false → (HasCleanDisk new → Keeps old new) → OnlyReads old new
rests_on old new law survives settled keeps = record {
  survives = survives;
  settled = settled;
  clean = earlier old new survives;
  was_open = was_open;
  same = same;
  kept = λ v rest.
      let now = same old.now (record { sees = λ opened. refl; committed = λ opened. sym (rest.same opened) }) in
      record {
        settled = settled;
        same = λ opened. now.sees opened ∙ sym (now.committed opened);
        shows = λ opened. subst (λ d. Shows d v) (sym (now.sees opened)) (rest.shows (was_open opened));
        leaves = leaves_on old new v survives rest.leaves;
      };
}
  where
    was_open : IsTrue new.is_open → IsTrue old.is_open
    was_open opened = (keeps (law opened) opened).0

    same : (d : Database) → RestsOn old d → RestsOn new d
    same d rest = record {
      sees = λ opened. let k = keeps (law opened) opened in elim k.1 [ inl now ↦ now ∙ rest.sees k.0 | inr back ↦ back ∙ rest.committed k.0 ];
      committed = λ opened. let k = keeps (law opened) opened in k.2 ∙ rest.committed k.0;
    }

-- what rested in either schema still does
pub rests_in_still : {version : Version} (old new : State) (v : Views) → OnlyReads old new → RestsIn version old v → RestsIn version new v
rests_in_still {version = version} old new v reads rest =
    let now = reads.same old.now (record { sees = λ opened. refl; committed = λ opened. sym (rest.same opened) }) in
    record {
      settled = reads.settled;
      same = λ opened. now.sees opened ∙ sym (now.committed opened);
      shows = λ opened. subst (λ d. ShowsIn version d v) (sym (now.sees opened)) (rest.shows (reads.was_open opened));
      leaves = shown_on old new v reads.survives rest.leaves;
    }

-- two reads are one
pub reads_then : (a b c : State) → OnlyReads a b → OnlyReads b c → OnlyReads a c
reads_then a b c one two = record {
  survives = survives_then a b c (λ _. ⊥) (λ _. ⊥) (λ _. ⊥) (λ clean db none. none) (λ clean db none. none) one.survives two.survives;
  settled = two.settled;
  clean = λ clean. one.clean (two.clean clean);
  was_open = λ opened. one.was_open (two.was_open opened);
  same = λ d rest. two.same d (one.same d rest);
  kept = λ v rest. two.kept v (one.kept v rest);
}

-- what the second says of its answer, and a fault of it, is so of both
pub told_then : {X : Type 0} (a b c : State) (v : Views) (r : Result X TableFault) (P Q : X → Type 0) → OnlyReads a b → OnlyReads b c → HasCleanDisk c → ((x : X) → P x → Q x)
    → MatchResult r P (λ fault. IsReadable v → IsCaused b c fault) → MatchResult r Q (λ fault. IsReadable v → IsCaused a c fault)
told_then a b c v (Ok x) P Q one two clean says h = says x h
told_then a b c v (Err e) P Q one two clean says h = λ readable. caused_later a b c (λ _. ⊥) e one.survives two.survives.counts (two.clean clean) (h readable)

-- a transaction of its own, which is rolled back, only reads
pub reads_begun : {S X E : Type 0} (g : Ghosts S) (old mid end : Held S) (r : Result X E) → (IsTrue (state g mid).is_open → HasCleanDisk (state g mid)) → (IsTrue (state g end).is_open → HasCleanDisk (state g end))
    → GoesOn (state g (record old { in_transaction = true })) (state g mid) r → (state g end).in_transaction ≡ false → (HasCleanDisk (state g end) → IsRolledBack (state g mid) (state g end)) → Survives (state g mid) (state g end) (λ _. ⊥)
    → OnlyReads (state g old) (state g end)
reads_begun g old mid end r first last goes ended undone survives = rests_on (state g old) (state g end) last
    (survives_begin g old (state g end) (λ _. ⊥) (survives_then begun (state g mid) (state g end) (λ _. ⊥) (λ _. ⊥) (λ _. ⊥) (λ clean db none. none) (λ clean db none. none) goes.survives survives)) ended
    (λ clean opened.
    let back = undone clean in
    let open_mid = back.was_open opened in
    let same = goes.committed (first open_mid) refl open_mid in
    (goes.was_open (first open_mid) open_mid, inr ((back.undone opened).0 ∙ same), (back.undone opened).1 ∙ same))
  where
    begun : State
    begun = state g (record old { in_transaction = true })
