-- What stands in a database, as reads tell it.
use Rattle.std.proofs.Common.{◌≡◌, ◌↔◌, ◌≤◌, ℕ, arith, inl, inr, false, [], ◌∷◌, ◌++◌, None, Some, Option, Ok, Err, Result, IfErr, MatchResult, IsTrue, codes, refl, sym, ap, subst, ◌∙◌, not, Bool}
use Rattle.std.proofs.lemmas.Bool.{cases_Bool}
use Rattle.std.proofs.lemmas.List.Sorted.{IsPermutation-sym}
use Rattle.sqlite.specs.Effect.{Database}
use Rattle.sqlite.specs.Order.{Row, column}
use Rattle.sqlite.specs.Schema.{Schema}
use Rattle.sqlite.specs.State.{State}
use Rattle.sqlite.specs.Tree.{Trees}
use Rattle.sqlite_rules.specs.Lists.{Has}
use Rattle.pid_moderation.specs.CheckTables.{most_revision}
use Rattle.pid_moderation.specs.Views.{Views}
use Rattle.pid_tables.specs.declared.rows.fault.TableFault.{TableFault}
use Rattle.pid_tables.specs.declared.rows.fault.TableFault.TheVariants.{Memory, Store, NewerSchema, Damaged}
use Rattle.pid_tables.specs.declared.rows.schema_version.Version.{Version}
use Rattle.pid_tables.specs.declared.rows.schema_version.Version.TheVariants.{One, Two}
use Rattle.pid_tables.specs.Rows.Faults.{IsMemoryOrStore}
use Rattle.pid_tables.specs.Rows.LabelRows.{HasLabel}
use Rattle.pid_tables.specs.Rows.Steps.LabelRows.{IsMetaFirst}
use Rattle.pid_tables.specs.Rows.Leaves.{OnlyReads, RestsIn}
use Rattle.pid_tables.specs.Rows.Schema.{more_tables, schema_of}
use Rattle.pid_tables.specs.Rows.Shows.{ShowsIn}
use Rattle.pid_tables.proofs.OfRows.LabelLemmas.{label_stored}
use Rattle.pid_tables.proofs.OfRows.TurnLemmas.{has_mapped, permuted}
use Rattle.pid_tables.specs.Check.Checking.{Explains, FindsVersion, IsRegistry}
use Rattle.pid_tables.specs.Check.Conditions.{columns, label_row, rows_in}
use Rattle.pid_tables.specs.Check.Shapes.{HasNoTable, HasSomeTable, HasTables, IsMadeFirst}
use Rattle.pid_tables.proofs.OfCheck.Complete.{as_six, made_first}
use Rattle.pid_tables.proofs.OfCheck.Stored.{stored}
use Rattle.pid_tables.proofs.OfCheck.WholeTexts.{meta_is}
use Rattle.pid_tables.specs.Bringing.{NamesLatest, ShowsLatest}
use Rattle.pid_tables.specs.Steps.Bringing.{IsStanding, Named, Found}

-- a connection says that it is outside a transaction
pub outside : (inside answer : Bool) → inside ≡ false → answer ≡ not inside → IsTrue answer
outside inside answer is value = value ∙ ap not is

-- where nothing was uncommitted, reads see the same
pub seen_still : (old new : State) → (IsTrue old.is_open → old.now ≡ old.committed) → OnlyReads old new → IsTrue new.is_open → new.now ≡ old.now
seen_still old new settled reads = (reads.same old.now (record { sees = λ opened. refl; committed = λ opened. sym (settled opened) })).sees

-- ---- what the check tells

pub only_store_explains : (db : Database) (e : TableFault) → IsMemoryOrStore e → Explains db e
only_store_explains db Memory h = tt
only_store_explains db Store h = tt
only_store_explains db (NewerSchema n) h = absurd h
only_store_explains db Damaged h = absurd h

pub only_store_told : {X : Type 0} (P : X → Type 0) (Q : TableFault → Type 0) (db : Database) (r : Result X TableFault) → MatchResult r P (λ fault. IsMemoryOrStore fault × Q fault) → IfErr r (Explains db)
only_store_told P Q db (Ok x) h = tt
only_store_told P Q db (Err e) h = only_store_explains db e h.0

-- what it tells behind reads is so of what was before them
pub told_before : (old mid : State) (r : Result (Option Version) TableFault) → (IsTrue mid.is_open → mid.now ≡ old.now) → (mid.is_open ≡ false → MatchResult r (λ _. ⊥) IsMemoryOrStore)
    → MatchResult r (FindsVersion mid.now) (Explains mid.now) → MatchResult r (FindsVersion old.now) (Explains old.now)
told_before old mid (Ok x) same shut told = elim (cases_Bool mid.is_open) [ inl opened ↦ subst (λ (d : Database). FindsVersion d x) (same opened) told | inr closed ↦ absurd (shut closed) ]
told_before old mid (Err e) same shut told = elim (cases_Bool mid.is_open) [ inl opened ↦ subst (λ (d : Database). Explains d e) (same opened) told | inr closed ↦ only_store_explains old.now e (shut closed) ]

pub as_standing : (db : Database) (r : Result (Option Version) TableFault) → MatchResult r (FindsVersion db) (Explains db) → MatchResult r (IsStanding db) (Explains db)
as_standing db (Ok x) told = Found told
as_standing db (Err e) told = told

-- each schema has a table
pub tables_some : (version : Version) (schema : Schema) → HasTables version schema → HasSomeTable schema
tables_some One schema has = (_, inl refl, has.0 _ (inl refl))
tables_some Two schema has = (_, inl refl, has.0 _ (inl refl))

-- where there is no table, it finds none
pub none_found : (db : Database) (r : Result (Option Version) TableFault) → HasNoTable db.schema → MatchResult r (FindsVersion db) (Explains db) → MatchResult r (λ found. found ≡ None) IsMemoryOrStore
none_found db (Ok None) none told = refl
none_found db (Ok (Some version)) none told = absurd (none (tables_some version db.schema told.0))
none_found db (Err Memory) none told = tt
none_found db (Err Store) none told = tt
none_found db (Err (NewerSchema n)) none told = absurd (none (_, inl refl, (told.1.query, told.1.is)))
none_found db (Err Damaged) none told = absurd (none told.0)

-- ---- tables that show a sound history

-- tables of schema 1 show no revision
pub none_within : (n : ℕ) → n ≡ 0 → n ≤ most_revision
none_within n is = omega (arith, is)

pub good_found : (version : Version) (s : State) (v : Views) (r : Result (Option Version) TableFault) → RestsIn version s v → (ShowsIn version s.now v → IsRegistry version s.now)
    → (s.is_open ≡ false → MatchResult r (λ _. ⊥) IsMemoryOrStore)
    → ((schema : Version) → IsMadeFirst schema s.now.schema → MatchResult r (λ found. (found ≡ Some schema) ↔ IsRegistry schema s.now) (λ fault. IsRegistry schema s.now → IsMemoryOrStore fault))
    → MatchResult r (λ found. found ≡ Some version) IsMemoryOrStore
good_found version s v (Ok x) rest good shut stored = elim (cases_Bool s.is_open) [
  | inl opened ↦ let shows = rest.shows opened in (stored version (subst (IsMadeFirst version) (sym shows.schema) (made_first version))).1 (good shows)
  | inr closed ↦ absurd (shut closed)
]
good_found version s v (Err e) rest good shut stored = elim (cases_Bool s.is_open) [
  | inl opened ↦ let shows = rest.shows opened in stored version (subst (IsMadeFirst version) (sym shows.schema) (made_first version)) (good shows)
  | inr closed ↦ shut closed
]

-- ---- what the labels name

-- a row of meta that is shown as a label is one
label_shown : (trees : Trees) (n : ℕ) → Has (rows_in trees).meta (label_row (codes "schema", n)) → HasLabel trees (codes "schema") n
label_shown trees n there =
    let it = has_mapped (columns (1 ∷ 2 ∷ [])) (trees 0) (label_row (codes "schema", n)) there in
    (it.0, it.1, ap (λ (x : Row). column x 0) (sym it.2), ap (λ (x : Row). column x 1) (sym it.2))

-- tables of a schema have meta first
pub meta_first : (version : Version) (schema : Schema) → IsMadeFirst version schema → IsMetaFirst schema
meta_first version schema first = (_, first.1)

pub exactly_first : (version : Version) (schema : Schema) → schema ≡ schema_of version → IsMetaFirst schema
exactly_first version schema is = meta_first version schema (subst (IsMadeFirst version) (sym is) (made_first version))

-- so storage has the label that the queries answer
latest_stored : (db : Database) → ShowsLatest db → (version : Version) → IsMadeFirst version db.schema → HasLabel db.trees (codes "schema") 2
latest_stored db (inl shows) version first = label_stored db (meta_first version db.schema first) (codes "schema") 2 shows
latest_stored db (inr (rows, shows, there)) version first =
    let p = stored 0 _ _ _ _ (meta_is (more_tables version ++ first.0) db.schema.indexes db.schema.views) db (as_six version db.schema first) rows shows in
    label_shown db.trees 2 (permuted rows _ _ (IsPermutation-sym _ _ p) there)

pub names_latest : (db : Database) → ShowsLatest db → NamesLatest db
names_latest db shown = record { shown = shown; stored = latest_stored db shown }

-- the labels show schema 2 where the check finds it
found_latest : (db : Database) → FindsVersion db (Some Two) → ShowsLatest db
found_latest db finds = let it = finds.1 in inr (it.0.meta, it.1.meta, it.2.counts.labels.there (codes "schema", 2) (inl refl))

-- and where it stands
pub standing_latest : (db : Database) (found : Option Version) → IsStanding db found → found ≡ Some Two → NamesLatest db
standing_latest db found (Named is names) two = names
standing_latest db found (Found finds) two = names_latest db (found_latest db (subst (FindsVersion db) two finds))
