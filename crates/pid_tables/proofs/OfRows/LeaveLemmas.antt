-- What a crash may leave after a call.
use Rattle.std.proofs.Common.{◌≡◌, inl, inr, sym, ap, subst, ◌∙◌, false, IsTrue, arith, Ok, Err, Result, OnErr}
use Rattle.sqlite.specs.Tree.{Trees}
use Rattle.sqlite.specs.Effect.{Database}
use Rattle.sqlite.specs.State.{State, HasCleanDisk, Survives, IsRolledBack, Shows as Sees}
use Rattle.sqlite.specs.Held.{Held, state}
use Rattle.sqlite.specs.Steps.{FailsToCommit}
use Rattle.sqlite.specs.declared.error.Error.{Error}
use Rattle.sqlite_trees.specs.declared.store.Store.{Ghosts}
use Rattle.pid_moderation.specs.Views.{Views}
use Rattle.pid_tables.specs.Rows.Shows.{Counts, Numbers, ShowsKeeping, Shows}
use Rattle.pid_tables.specs.declared.rows.schema_version.Version.{Version}
use Rattle.pid_tables.specs.declared.rows.schema_version.Version.TheVariants.{Two}
use Rattle.pid_tables.specs.Rows.Schema.{schema_of}
use Rattle.pid_tables.specs.Rows.Leaves.{found_in, LeavesViews, LeavesShown, AtRest, RestsIn}
use Rattle.pid_tables.specs.Rows.Steps.Within.{KeepsCommitted, Written}

pub leaves_on : (old new : State) (v : Views) → Survives old new (λ _. ⊥) → LeavesViews old v → LeavesViews new v
leaves_on old new v s all = record { each = λ clean db may. elim (s.crash clean db may) [ inl was ↦ all.each (omega (arith, s.clean)) db was | inr none ↦ absurd none ] }

-- the trees, with the schema that they list
pub shows_found : {version : Version} {c : Counts} {numbers : Numbers} (db : Database) (v : Views) → ShowsKeeping version c numbers db v → (trees : Trees) → trees ≡ db.trees
    → ShowsKeeping version c numbers (found_in (schema_of version) trees) v
shows_found {version = version} {c = c} {numbers = numbers} db v h trees same =
    subst (λ t. ShowsKeeping version c numbers (found_in (schema_of version) t) v) (sym same) (subst (λ (d : Database). ShowsKeeping version c numbers d v) (ap (λ s. record { schema = s; trees = db.trees }) h.schema) h)

-- a transaction that was rolled back leaves what it held
pub given_back : (old new : State) (v : Views) → (IsTrue new.is_open → HasCleanDisk new) → new.in_transaction ≡ false → (HasCleanDisk new → IsRolledBack old new) → Survives old new (λ _. ⊥) → KeepsCommitted old v → AtRest new v
given_back old new v law ended undone survives holds = record {
  settled = ended;
  same = λ opened. let back = (undone (law opened)).undone opened in back.0 ∙ sym back.1;
  shows = λ opened. let back = undone (law opened) in subst (λ d. Shows d v) (sym (back.undone opened).0) (holds.committed (back.was_open opened));
  leaves = leaves_on old new v survives holds.leaves;
}

-- a commit that succeeds lets stand what the transaction showed, and a crash leaves nothing else
pub stands : {S : Type 0} (g : Ghosts S) (old : State) (end : Held S) (w : Views) → (IsTrue (state g end).is_open → HasCleanDisk (state g end))
    → ((db : Trees) → IsTrue (state g end).is_open → (state g end).may_leave db → db ≡ (g.view end.store).committed) → end.in_transaction ≡ false
    → (HasCleanDisk (state g end) → Sees old (state g end) old.now old.now false) → (IsTrue old.is_open → Shows old.now w) → AtRest (state g end) w
stands g old end w law settled ended sees shows = record {
  settled = ended;
  same = λ opened. let s = sees (law opened) in s.now_is ∙ sym s.committed_is;
  shows = λ opened. let s = sees (law opened) in subst (λ d. Shows d w) (sym s.now_is) (shows s.was_open);
  leaves = record {
    each = λ clean db may.
        let s = sees clean in
        shows_found old.now w (shows s.was_open) db (settled db s.is_open may ∙ ap (λ (d : Database). d.trees) s.committed_is);
  };
}

-- a commit that fails, and leaves the connection open, gives back what the transaction held
pub failed_back : (old new : State) (c : Counts) (v w : Views) (e : Error) → (IsTrue new.is_open → HasCleanDisk new) → (HasCleanDisk new → HasCleanDisk old) → (HasCleanDisk new → FailsToCommit old new e) → Written c old v w
    → IsTrue new.is_open → Shows new.now v
failed_back old new c v w e law early fails written opened = elim (fails (law opened)) [
  | inl failed ↦ let back = failed.3 in subst (λ d. Shows d v) (sym (back.undone opened).0) (written.within.holds.committed (back.was_open opened))
  | inr odd ↦ absurd (let both = sym (written.within.inside (early (law opened))) ∙ odd.1 in let bad : ⊥ = cc in bad)
]

pub on_err : {X E : Type 0} {Q : Type 0} (r : Result X E) → Q → OnErr r Q
on_err (Ok x) q = tt
on_err (Err e) q = q

-- ---- in the one schema or the other

pub shown_on : (old new : State) (v : Views) → Survives old new (λ _. ⊥) → LeavesShown old v → LeavesShown new v
shown_on old new v s all = record { each = λ clean db may. elim (s.crash clean db may) [ inl was ↦ all.each (omega (arith, s.clean)) db was | inr none ↦ absurd none ] }

pub leaves_shown : (s : State) (v : Views) → LeavesViews s v → LeavesShown s v
leaves_shown s v all = record { each = λ clean db may. (Two, all.each clean db may) }

pub rests_in_two : (s : State) (v : Views) → AtRest s v → RestsIn Two s v
rests_in_two s v rest = record { settled = rest.settled; same = rest.same; shows = rest.shows; leaves = leaves_shown s v rest.leaves }
