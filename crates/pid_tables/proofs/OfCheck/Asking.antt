-- What it leaves, and what it tells, to prepare the text of a query.
use Rattle.std.proofs.lemmas.Bool.{false≢true}
use mathlib.Core.Bool.{beq}
use Rattle.std.proofs.Common.{◌≡◌, ◌⊎◌, inl, inr, ℕ, zero, suc, List, [], ◌∷◌, Bool, true, false, not, Some, Ok, Err, Result, IfOk, IfErr, OnOk, IsTrue, refl, sym, ap, subst, ◌∙◌, ◌+◌, ◌<◌, length, get_or, arith}
use Rattle.std.specs.Result.{result_err}
use Rattle.std.specs.List.{Any}
use Rattle.std.specs.Prelude.{◌↔◌}
use Rattle.sqlite.specs.Order.{Row}
use Rattle.sqlite.specs.Listing.{understood}
use Rattle.sqlite.specs.Schema.{Schema}
use Rattle.sqlite.specs.State.{State, HasCleanDisk, Survives, IsUnchanged, IsRolledBack, IsNotRun, store_error}
use Rattle.sqlite.specs.declared.error.Error.{Error}
use Rattle.sqlite_resolve.specs.declared.compiled.Compiled.{Compiled}
use Rattle.sqlite_resolve.specs.declared.error.CompileError.{CompileError}
use Rattle.sqlite_trees.specs.declared.error.StoreError.{StoreError}
use Rattle.sqlite_trees.specs.declared.error.StoreError.TheVariants as store
use Rattle.pid_moderation.specs.Views.{Views}
use Rattle.pid_tables.specs.declared.rows.fault.TableFault.{TableFault}
use Rattle.pid_tables.specs.declared.rows.fault.TableFault.TheVariants.{Damaged}
use Rattle.pid_tables.specs.Rows.Steps.Faults.{fault_of_sql}
use Rattle.pid_tables.specs.Rows.Causes.{IsCaused}
use Rattle.pid_tables.specs.Rows.Leaves.{AtRest, OnlyReads}
use Rattle.pid_tables.specs.Rows.Steps.Queries.{IsQuery}
use Rattle.pid_tables.specs.Rows.Schema.{pid_schema}
use Rattle.pid_tables.proofs.OfRows.CauseLemmas.{not_run_caused, caused_later}
use Rattle.pid_tables.proofs.OfRows.OnlyReading.{keeps_left, rests_on, reads_then}
use Rattle.pid_tables.proofs.OfRows.Lengths.{mapped, unmapped}
use Rattle.pid_tables.proofs.OfRows.ReadLemmas.{not_run}
use Rattle.pid_tables.specs.declared.check.schema.Table.{Table}
use Rattle.pid_tables.specs.declared.check.schema.Table.TheVariants.{Meta, Account, Item, Submission, Remark, Receipt, Since}
use Rattle.pid_tables.specs.Check.Queries.{query_of}
use Rattle.pid_tables.specs.Check.Shapes.{CanBeAsked, HasEachTable, HasSomeTable}
use Rattle.pid_tables.proofs.OfCheck.Each.{same_there, one_more, some_member, some_place}
use Rattle.pid_tables.proofs.OfCheck.Judged.{not_both}

pub err_of : {X E : Type 0} (r : Result X E) (e : E) → result_err r ≡ Some e → r ≡ Err e
err_of (Ok x) e h = cc
err_of (Err f) e h = cc

left_by : {X : Type 0} (P : X → Type 0) (r : Result X Error) (old new : State) (sql : List ℕ) → IfOk r (λ s. P s × IsUnchanged old new) → IfErr r (λ e. (params : Row) → IsNotRun old new sql params e)
    → IsUnchanged old new ⊎ IsRolledBack old new
left_by P (Ok x) old new sql good bad = inl good.1
left_by P (Err e) old new sql good bad = not_run old new sql [] e (bad [])

pub rests : {X : Type 0} (P : X → Type 0) (r : Result X Error) (old new : State) (sql : List ℕ) → (IsTrue new.is_open → HasCleanDisk new) → new.in_transaction ≡ false → Survives old new (λ _. ⊥)
    → (HasCleanDisk new → IfOk r (λ s. P s × IsUnchanged old new)) → (HasCleanDisk new → IfErr r (λ e. (params : Row) → IsNotRun old new sql params e)) → OnlyReads old new
rests P r old new sql law ended survives good bad = rests_on old new law survives ended (λ clean. keeps_left old new (left_by P r old new sql (good clean) (bad clean)))

of_store : (cause : StoreError) → fault_of_sql (store_error cause) ≡ Damaged → ⊥
of_store store.OutOfMemory h = cc
of_store store.Io h = cc
of_store store.Corrupt h = cc
of_store store.Full h = cc
of_store store.Broken h = cc
of_store store.Unstorable h = cc

-- only a text that is not understood is refused as damage
pub refused : (old new : State) (sql : List ℕ) (e : Error) → IsNotRun old new sql [] e → fault_of_sql e ≡ Damaged → ((f : CompileError) × (understood old.now.schema sql ≡ Err f)) × IsUnchanged old new
unfolding IsNotRun
refused old new sql e (inl (inl h, same)) damaged = ((h.0, h.1), same)
refused old new sql e (inl (inr h, same)) damaged = absurd (elim h.2 [
  | inl many ↦ let bad = sym (ap fault_of_sql many.1) ∙ damaged in cc
  | inr other ↦ elim other [ inl count ↦ let bad = sym (ap fault_of_sql count.1) ∙ damaged in cc | inr clock ↦ let bad = sym (ap fault_of_sql clock.1) ∙ damaged in cc ]
])
refused old new sql e (inr fails) damaged = absurd (of_store fails.0 (sym (ap fault_of_sql fails.1) ∙ damaged))

-- on tables of the schema what keeps a query from being prepared has a cause
pub unasked_caused : (old new : State) (v : Views) (sql : List ℕ) (e : Error) → AtRest old v → IsQuery pid_schema sql [] → IsNotRun old new sql [] e → IsCaused old new (fault_of_sql e)
unasked_caused old new v sql e rest query h = not_run_caused sql [] old new (λ opened. (rest.shows opened).schema) query e h

pub unasked : (schema : Schema) (sql : List ℕ) (f : CompileError) → understood schema sql ≡ Err f → CanBeAsked schema sql → ⊥
unasked schema sql f is asked = let both = sym is ∙ asked.1 in cc

pub on_if_ok : {X E Q : Type 0} {P : X → Type 0} (r : Result X E) → ((x : X) → P x → Q) → IfOk r P → OnOk r Q
on_if_ok (Ok x) f h = f x h
on_if_ok (Err e) f h = tt

pub told_caused : {X : Type 0} (old new : State) (r : Result X TableFault) (e : TableFault) → IfErr r (λ fault. fault ≡ e) → IsCaused old new e → IfErr r (IsCaused old new)
told_caused old new (Ok x) e is h = tt
told_caused old new (Err f) e is h = subst (IsCaused old new) (sym is) h

-- ---- one after the other

pub nothing_read : (s : State) → s.in_transaction ≡ false → OnlyReads s s
nothing_read s settled = record { survives = record { clean = omega arith; shield = λ h. h; counts = omega arith; limit = refl; closes = λ clean opened. inl opened; crash = λ clean db may. inl may }; settled = settled; clean = λ clean. clean; was_open = λ opened. opened; same = λ d rest. rest; kept = λ v rest. rest }

-- it only read so far, and the database is the same
abbrev pub IsSame : State → State → Type 0
IsSame old now = OnlyReads old now × (HasCleanDisk now → now.now ≡ old.now)

pub same_first : (s : State) → s.in_transaction ≡ false → IsSame s s
same_first s settled = (nothing_read s settled, λ clean. refl)

pub same_then : (a b c : State) → IsSame a b → OnlyReads b c → (HasCleanDisk c → c.now ≡ b.now) → IsSame a c
same_then a b c one rests same = (reads_then a b c one.0 rests, λ clean. same clean ∙ one.1 (rests.clean clean))

-- what was asked on from the first on was open from the first on
pub still_open : {S : Type 0} (state : S → State) (a b : S) (c : State) (n : ℕ) → OnlyReads (state b) c → (n ≡ 0 → b ≡ a) → (HasCleanDisk (state b) → 0 < n → IsTrue (state a).is_open) → IsTrue (state b).is_open → HasCleanDisk c
    → IsTrue (state a).is_open
still_open state a b c zero rests first later opened clean = subst (λ h. IsTrue (state h).is_open) (first refl) opened
still_open state a b c (suc n) rests first later opened clean = later (rests.clean clean) (omega arith)

-- a cause in what came later
pub caused_then : (a b c : State) (e : TableFault) → IsSame a b → OnlyReads b c → HasCleanDisk c → IsCaused b c e → IsCaused a c e
caused_then a b c e one rests clean h = caused_later a b c (λ _. ⊥) e one.0.survives rests.survives.counts (rests.clean clean) h

-- what is said of the schema in between is said of the first
pub said_first : (a b c : State) (P : Schema → Type 0) → IsSame a b → OnlyReads b c → HasCleanDisk c → P b.now.schema → P a.now.schema
said_first a b c P one rests clean h = subst (λ d. P d.schema) (one.1 (rests.clean clean)) h

apart : (b c : Bool) → beq b c ≡ false → b ≡ c → ⊥
apart true true off same = cc
apart true false off same = cc
apart false true off same = cc
apart false false off same = cc

equal_by : (b c : Bool) → beq b c ≡ true → b ≡ c
equal_by true true on = refl
equal_by true false on = absurd cc
equal_by false true on = absurd cc
equal_by false false on = refl

alike : (b c : Bool) → (IsTrue b → IsTrue c) → (IsTrue c → IsTrue b) → b ≡ c
alike true c to back = sym (to refl)
alike false true to back = back refl
alike false false to back = refl

module _ (a b c : State) (tables : List Table) (at : ℕ) (t : Table) (sql : List ℕ) (is : sql ≡ query_of (get_or tables at t)) (asked : Bool) (less : at < length tables) (one : IsSame a b) (rests : OnlyReads b c)
    (judged : HasCleanDisk c → IsTrue asked ↔ CanBeAsked b.now.schema sql) where
  abbrev Has : Table → Type 0
  Has x = CanBeAsked a.now.schema (query_of x)

  here : HasCleanDisk c → IsTrue asked ↔ Has (get_or tables at t)
  here clean = subst (λ text. IsTrue asked ↔ CanBeAsked a.now.schema text) is (said_first a b c (λ s. IsTrue asked ↔ CanBeAsked s sql) one rests clean (judged clean))

  more : (P : Table → Type 0) → P (get_or tables at t) → ((k : ℕ) (d : Table) → k < at → P (get_or tables k d)) → (k : ℕ) (d : Table) → k < at + 1 → P (get_or tables k d)
  more P = one_more (λ _ x. P x) tables at (get_or tables at t) less (same_there tables at t (get_or tables at t) less)

  module _ (can : Bool) where
    abbrev IsSo : Table → Type 0
    IsSo x = IsTrue can ↔ Has x

    pub none_yet : beq asked can ≡ false → (HasCleanDisk b → (k : ℕ) (d : Table) → k < at → ¬ (IsSo (get_or tables k d))) → HasCleanDisk c → (k : ℕ) (d : Table) → k < at + 1 → ¬ (IsSo (get_or tables k d))
    none_yet other before clean = more (λ x. ¬ (IsSo x)) (λ so. let is_so = here clean in apart asked can other (alike asked can (λ yes. so.1 (is_so.0 yes)) (λ yes. is_so.1 (so.0 yes)))) (before (rests.clean clean))

    pub one_found : beq asked can ≡ true → HasCleanDisk c → Any IsSo tables
    one_found same clean = (at, get_or tables at t, less, same_there tables at (get_or tables at t) t less, subst (λ b. IsTrue b ↔ Has (get_or tables at t)) (equal_by asked can same) (here clean))

-- ---- all tables

nothing : (b : Bool) → (b ≡ true → ⊥) → not b ≡ true
nothing true none = absurd (none refl)
nothing false none = refl

abbrev six : List Table
six = Meta ∷ Account ∷ Item ∷ Submission ∷ Remark ∷ Receipt ∷ []

abbrev seven : List Table
seven = Meta ∷ Account ∷ Item ∷ Submission ∷ Remark ∷ Receipt ∷ Since ∷ []

module _ (schema : Schema) where
  abbrev Is : Table → Type 0
  Is t = CanBeAsked schema (query_of t)

  abbrev IsAsked : Bool → Table → Type 0
  IsAsked can t = IsTrue can ↔ Is t

  -- a text is understood or not
  known : (r : Result Compiled CompileError) → ((c : Compiled) × (r ≡ Ok c)) ⊎ ¬ ((c : Compiled) × (r ≡ Ok c))
  known (Ok c) = inl (c, refl)
  known (Err e) = inr (λ it. let bad = it.1 in cc)

  pub each_table : (lacks : Bool) → (IsTrue lacks ↔ Any (IsAsked false) six) → IsTrue (not lacks) ↔ HasEachTable schema
  each_table lacks judged = (
    λ none text has.
        let t = unmapped query_of six text has in
        elim (known (understood schema text)) [
          | inl asked ↦ asked
          | inr not_asked ↦ absurd (not_both lacks none (judged.1 (some_place (IsAsked false) six t.0 t.1 (λ bad. absurd (false≢true bad), λ is. absurd (not_asked (subst (CanBeAsked schema) (sym t.2) is))))))
        ],
    λ each. nothing lacks (λ yes. let t = some_member (IsAsked false) six (judged.0 yes) in let bad = t.2.1 (each (query_of t.0) (mapped query_of six t.0 t.1)) in cc),
  )

  pub some_table : (some : Bool) → (IsTrue some ↔ Any (IsAsked true) seven) → IsTrue some ↔ HasSomeTable schema
  some_table some judged = (
    λ yes. let t = some_member (IsAsked true) seven (judged.0 yes) in (query_of t.0, mapped query_of seven t.0 t.1, t.2.0 refl),
    λ has. let t = unmapped query_of seven has.0 has.1 in judged.1 (some_place (IsAsked true) seven t.0 t.1 (λ yes. subst (CanBeAsked schema) t.2 has.2, λ is. refl)),
  )
