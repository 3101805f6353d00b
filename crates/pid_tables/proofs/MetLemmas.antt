-- Making tables where something has one of their names.
use Rattle.std.proofs.Common.{◌≡◌, inl, inr, ℕ, List, [], ◌∷◌, ◌++◌, Bool, true, false, cond, is_some, Some, None, Ok, Err, Result, OnOk, IfErr, MatchResult, IsTrue, refl, sym, ap, subst, ◌∙◌, ◌+◌}
use Rattle.std.specs.Prelude.{MatchBool, ◌||◌}
use Rattle.std.proofs.lemmas.Bool.{cases_Bool}
use Rattle.std.specs.List.{AllByRecursion, position_from}
use Rattle.sqlite.specs.Change.{created, is_used}
use Rattle.sqlite.specs.Command.TheVariants.{CreateTable}
use Rattle.sqlite.specs.Does.{Tally, MakesTable, sequence_text, lacks_sequence}
use Rattle.sqlite.specs.Rows.{Gives}
use Rattle.sqlite.specs.Effect.{Database}
use Rattle.sqlite.specs.Schema.{Schema}
use Rattle.sqlite.specs.Table.{Table}
use Rattle.sqlite.specs.Tree.{Trees}
use Rattle.sqlite.specs.State.{State, HasCleanDisk, Survives, Writes, Executes, ExecutesIn}
use Rattle.sqlite.proofs.Callers.{runs_as}
use Rattle.sqlite_resolve.specs.declared.compiled.Compiled.{Compiled}
use Rattle.sqlite_resolve.specs.declared.error.CompileError.{CompileError}
use Rattle.sqlite_rules.specs.Lists.{Has}
use Rattle.pid_tables.specs.declared.rows.fault.TableFault.{TableFault}
use Rattle.pid_tables.specs.Rows.Faults.{IsNotNewerSchema}
use Rattle.pid_tables.specs.Rows.Leaves.{OnlyReads}
use Rattle.pid_tables.proofs.OfRows.WriteLemmas.{went, same_value}
use Rattle.pid_tables.specs.Creation.{table_names}
use Rattle.pid_tables.specs.Steps.MakingTables.{IsMaker, IsKnownDefinition, IsMakerOf, TookNames}
use Rattle.pid_tables.proofs.CreateLemmas.{command_is, whole_is, plain_is}

-- ---- names that are taken stay so

found_more : {X : Type 0} (p : X → Bool) (at : ℕ) (xs ys : List X) → is_some (position_from p at xs) ≡ true → is_some (position_from p at (xs ++ ys)) ≡ true
found_more p at [] ys h = absurd (let bad : ⊥ = cc in bad)
found_more p at (x ∷ xs) ys h =
    elim (p x) as (λ b. is_some (cond b (Some at) (position_from p (at + 1) xs)) ≡ true → is_some (cond b (Some at) (position_from p (at + 1) (xs ++ ys))) ≡ true) [ true ↦ λ h. refl | false ↦ found_more p (at + 1) xs ys ] h

or_more : (a b c d : Bool) → (a ≡ true → c ≡ true) → (b ≡ true → d ≡ true) → (a || b) ≡ true → (c || d) ≡ true
or_more true b c d f g h = ap (λ x. x || d) (f refl)
or_more false b true d f g h = refl
or_more false b false d f g h = g h

used_more : (schema : Schema) (table : Table) (name : List ℕ) → is_used schema name ≡ true → is_used (created schema table) name ≡ true
used_more schema table name = or_more _ _ _ _ (or_more _ _ _ _ (found_more _ 0 schema.tables _) (found_more _ 0 schema.indexes _)) (λ h. h)

sequence_more : (db after : Database) (name : List ℕ) (b : Bool) → MatchBool b (MakesTable sequence_text db (Ok after)) (Gives db (Ok after)) → is_used db.schema name ≡ true → is_used after.schema name ≡ true
sequence_more db after name true makes h = subst (λ s. is_used s name ≡ true) (sym makes.is) (used_more db.schema makes.table name h)
sequence_more db after name false gives h = subst (λ (d : Database). is_used d.schema name ≡ true) (sym (same_value gives)) h

-- ---- one table

known : (text : List ℕ) (r : Result Compiled CompileError) (c : Compiled) → r ≡ Ok c → IsMaker text r → IsKnownDefinition text r
known text (Ok d) c is h = h
known text (Err e) c is h = absurd (let bad : ⊥ = cc in bad)

took : (text name : List ℕ) (old new : State) → IsMakerOf text name → (count : ℕ) → Executes text [] old new (Ok count) → TookNames (name ∷ []) old.now.schema new.now.schema
unfolding ExecutesIn
took text name old new it count h =
    let k = known text _ h.0 h.1.is (it.makes old.now.schema) in
    let w = subst (λ t. Writes old new None CreateTable t [] count) (whole_is text _ k) (runs_as text [] old new old.now.schema refl CreateTable (command_is text _ k) (plain_is text _ k) count h) in
    let all = went w.changed in
    let first = went all.1 in
    let makes = first.1 in
    let both : Ok makes.table ≡ Ok it.table = sym makes.defined ∙ it.defined in
    let same : makes.table ≡ it.table = cc in
    let now : new.now ≡ all.0 = ap (λ (p : Tally × Database). p.1) (same_value all.2) in
    record {
      free = (subst (λ n. is_used old.now.schema n ≡ false) (ap (λ (t : Table). t.name) same ∙ it.named) makes.free, tt);
      kept = λ other used.
          let made = subst (λ s. is_used s other ≡ true) (sym makes.is) (used_more old.now.schema makes.table other used) in
          subst (λ (d : Database). is_used d.schema other ≡ true) (sym now) (sequence_more first.0 all.0 other (lacks_sequence first.0.schema) first.2 made);
    }

abbrev Ran : List ℕ → State → State → Type 0
Ran text old new = (count : ℕ) × Executes text [] old new (Ok count)

pub taken : (text name : List ℕ) (old new : State) → IsMakerOf text name → (r : Result (Unit {0}) TableFault) → OnOk r (Ran text old new) → IfErr r IsNotNewerSchema
    → MatchResult r (λ _. TookNames (name ∷ []) old.now.schema new.now.schema) IsNotNewerSchema
taken text name old new it (Ok x) ran never = took text name old new it ran.0 ran.1
taken text name old new it (Err f) ran never = never

-- ---- one after the other

free_before : (a b : Schema) → ((name : List ℕ) → is_used a name ≡ true → is_used b name ≡ true) → (name : List ℕ) → is_used b name ≡ false → is_used a name ≡ false
free_before a b kept name free = elim (cases_Bool (is_used a name)) [ inl used ↦ absurd (let late = sym (kept name used) ∙ free in let bad : ⊥ = cc in bad) | inr off ↦ off ]

all_free : (a b : Schema) → ((name : List ℕ) → is_used a name ≡ true → is_used b name ≡ true) → (names : List (List ℕ)) → AllByRecursion (λ name. is_used b name ≡ false) names → AllByRecursion (λ name. is_used a name ≡ false) names
all_free a b kept [] free = tt
all_free a b kept (n ∷ names) free = (free_before a b kept n free.0, all_free a b kept names free.1)

joined : (P : List ℕ → Type 0) (ns ms : List (List ℕ)) → AllByRecursion P ns → AllByRecursion P ms → AllByRecursion P (ns ++ ms)
joined P [] ms one two = two
joined P (n ∷ ns) ms one two = (one.0, joined P ns ms one.1 two)

pub took_both : (ns ms : List (List ℕ)) (a b c : Schema) → TookNames ns a b → TookNames ms b c → TookNames (ns ++ ms) a c
took_both ns ms a b c one two = record {
  free = joined (λ name. is_used a name ≡ false) ns ms one.free (all_free a b one.kept ms two.free);
  kept = λ name used. two.kept name (one.kept name used);
}

pub took_then : (ns ms : List (List ℕ)) (a b c : Schema) → TookNames ns a b → (r : Result (Unit {0}) TableFault) → MatchResult r (λ _. TookNames ms b c) IsNotNewerSchema → MatchResult r (λ _. TookNames (ns ++ ms) a c) IsNotNewerSchema
took_then ns ms a b c one (Ok x) two = took_both ns ms a b c one two
took_then ns ms a b c one (Err e) two = two

free_at : (s : Schema) (names : List (List ℕ)) → AllByRecursion (λ name. is_used s name ≡ false) names → (name : List ℕ) → Has names name → is_used s name ≡ true → ⊥
free_at s [] free name h used = h
free_at s (n ∷ names) free name (inl same) used = let off = subst (λ x. is_used s x ≡ false) (sym same) free.0 in let both = sym used ∙ off in let bad : ⊥ = cc in bad
free_at s (n ∷ names) free name (inr h) used = free_at s names free.1 name h used

-- all of them were made, so none of their names was taken
pub none_met : (a b : Schema) → TookNames table_names a b → (name : List ℕ) × Has table_names name × (is_used a name ≡ true) → ⊥
none_met a b took met = free_at a table_names took.free met.0 met.1 met.2

-- ---- a call that only fails

pub reads_if_never : (old new : State) (P : Trees → Type 0) → Survives old new P → (HasCleanDisk new → HasCleanDisk old) → new.in_transaction ≡ false → (IsTrue new.is_open → HasCleanDisk new) → (HasCleanDisk new → ⊥) → OnlyReads old new
reads_if_never old new P survives back ended law never = record {
  survives = record { clean = survives.clean; shield = survives.shield; counts = survives.counts; limit = survives.limit; closes = survives.closes; crash = λ clean. absurd (never clean) };
  settled = ended;
  clean = back;
  was_open = λ opened. absurd (never (law opened));
  same = λ d rest. record { sees = λ opened. absurd (never (law opened)); committed = λ opened. absurd (never (law opened)) };
  kept = λ v rest. record { settled = ended; same = λ opened. absurd (never (law opened)); shows = λ opened. absurd (never (law opened)); leaves = record { each = λ clean. absurd (never clean) } };
}
