-- What is told of a database, put together.
use Rattle.std.proofs.Common.{◌≡◌, inl, inr, ℕ, List, Option, Some, None, Bool, true, false, Ok, Err, Result, MatchResult, codes, refl, ap, subst, ◌∙◌, ◌<◌, arith}
use Rattle.std.specs.Prelude.{◌↔◌, ◌++◌}
use Rattle.std.proofs.lemmas.List.Sorted.{IsPermutation-sym}
use Rattle.sqlite.specs.Effect.{Database}
use Rattle.sqlite.specs.Order.{Row}
use Rattle.sqlite.specs.Schema.{Schema}
use Rattle.sqlite_rules.specs.Lists.{Has}
use Rattle.pid_tables.specs.declared.rows.schema_version.Version.{Version}
use Rattle.pid_tables.specs.declared.rows.schema_version.Version.TheVariants.{One, Two}
use Rattle.pid_tables.specs.Rows.Schema.{more_tables}
use Rattle.pid_tables.specs.declared.rows.fault.TableFault.{TableFault}
use Rattle.pid_tables.specs.declared.rows.fault.TableFault.TheVariants.{Memory, Store, NewerSchema, Damaged}
use Rattle.pid_tables.specs.Rows.Faults.{IsMemoryOrStore}
use Rattle.pid_tables.proofs.OfRows.TurnLemmas.{permuted}
use Rattle.pid_tables.specs.declared.check.schema.Table.TheVariants.{Meta, Since}
use Rattle.pid_tables.specs.Check.Checking.{Explains, FindsVersion, IsRegistry, ShowsDamage, ShowsRegistry}
use Rattle.pid_tables.specs.Check.Conditions.{Rows, rows_in, labels, label_row, IsNewer, AreOfRegistry}
use Rattle.pid_tables.specs.Check.Steps.Lacking.{ExplainsLater}
use Rattle.pid_tables.specs.Check.Queries.{query_of}
use Rattle.pid_tables.specs.Check.Steps.Reading.{TellsDamage}
use Rattle.pid_tables.specs.Check.Shapes.{CanBeAsked, HasEachTable, HasSinceTable, HasSomeTable, HasTables, IsMadeFirst, ShowsRows, ShowsLater}
use Rattle.pid_tables.proofs.OfCheck.Complete.{as_six, each_some, tables_each}
use Rattle.pid_tables.proofs.OfCheck.LabelFacts.{label_first, one_number}
use Rattle.pid_tables.proofs.OfCheck.ItemFacts.{texts_same}
use Rattle.pid_tables.proofs.OfCheck.Stored.{stored, registry_stored, never_damaged}
use Rattle.pid_tables.proofs.OfCheck.WholeTexts.{meta_is}

pub only_store : (d : Database) (e : TableFault) → IsMemoryOrStore e → Explains d e
only_store d Memory h = tt
only_store d Store h = tt
only_store d (NewerSchema n) h = absurd h
only_store d Damaged h = absurd h

-- the tables are those of one schema alone
both : (a b : Version) (schema : Schema) → HasTables a schema → HasTables b schema → a ≡ b
both One One schema one two = refl
both One Two schema one two = absurd (one.1 two.1)
both Two One schema one two = absurd (two.1 one.1)
both Two Two schema one two = refl

-- a table item_since is there, but not with its columns
pub neither : (schema : Schema) → HasSinceTable schema → ¬ (CanBeAsked schema (query_of Since)) → (version : Version) → ¬ (HasTables version schema)
neither schema since other One has = has.1 since
neither schema since other Two has = other has.2

-- what is told where each of the six tables is there, and no later schema
module _ (d : Database) (each : HasEachTable d.schema) (none : ShowsLater d None) where
  pub neither_schema : ((version : Version) → ¬ (HasTables version d.schema)) → Explains d Damaged
  neither_schema never = (each_some d.schema each, λ asked. none, λ version has. absurd (never version has))

  pub damage_explained : (found : Version) → HasTables found d.schema → (e : TableFault) → TellsDamage found d e → Explains d e
  damage_explained found has Memory h = tt
  damage_explained found has Store h = tt
  damage_explained found has (NewerSchema n) h = absurd h
  damage_explained found has Damaged h = (each_some d.schema each, λ asked. none, λ version there. subst (λ v. ShowsDamage v d) (both found version d.schema has there) h)

pub lacked : (d : Database) (r : Result (Option Version) TableFault) → HasSomeTable d.schema → ¬ (HasEachTable d.schema) → MatchResult r (λ found. ⊥) (ExplainsLater d) → MatchResult r (FindsVersion d) (Explains d)
lacked d (Ok found) some none h = absurd h
lacked d (Err Memory) some none h = tt
lacked d (Err Store) some none h = tt
lacked d (Err (NewerSchema n)) some none h = h
lacked d (Err Damaged) some none h = (some, h, λ version has. absurd (none (tables_each version d.schema has)))

-- ---- tables that were made first

label_texts : (m n : ℕ) (k : List ℕ) → label_row (codes "schema", m) ≡ label_row (k, n) → codes "schema" ≡ k
label_texts m n k e = texts_same (codes "schema") k (label_first _ k n e)

not_later : (version : Version) (items submissions revision n : ℕ) → 2 < n → (e : List ℕ × ℕ) × Has (labels version items submissions revision) e × (label_row (codes "schema", n) ≡ label_row e) → ⊥
not_later One items submissions revision n high (e, inl same, is) = let one : n ≡ 1 = one_number _ (codes "schema") n 1 refl (is ∙ ap label_row same) in omega (arith, high, one)
not_later Two items submissions revision n high (e, inl same, is) = let two : n ≡ 2 = one_number _ (codes "schema") n 2 refl (is ∙ ap label_row same) in omega (arith, high, two)
not_later version items submissions revision n high (e, inr (inl same), is) = let bad = label_texts n items (codes "items") (is ∙ ap label_row same) in cc
not_later version items submissions revision n high (e, inr (inr (inl same)), is) = let bad = label_texts n submissions (codes "submissions") (is ∙ ap label_row same) in cc
not_later One items submissions revision n high (e, inr (inr (inr none)), is) = none
not_later Two items submissions revision n high (e, inr (inr (inr (inl same))), is) = let bad = label_texts n revision (codes "revision") (is ∙ ap label_row same) in cc
not_later Two items submissions revision n high (e, inr (inr (inr (inr none))), is) = none

-- a registry has no later schema
pub no_later : (version : Version) (t : Rows) → AreOfRegistry version t → (n : ℕ) → IsNewer n t.meta → ⊥
no_later version t good n later = not_later version _ _ _ n later.0 (good.counts.labels.each _ later.1)

module _ (d : Database) (version : Version) (first : IsMadeFirst version d.schema) where
  newer_stored : (rows : List Row) (n : ℕ) → ShowsRows d (query_of Meta) rows → IsNewer n rows → IsNewer n (rows_in d.trees).meta
  newer_stored rows n shows newer =
      let p = stored 0 _ _ _ _ (meta_is (more_tables version ++ first.0) d.schema.indexes d.schema.views) d (as_six version d.schema first) rows shows in
      (newer.0, permuted rows _ _ (IsPermutation-sym _ _ p) newer.1)

  never : (e : TableFault) → Explains d e → IsRegistry version d → IsMemoryOrStore e
  never Memory h good = tt
  never Store h good = tt
  never (NewerSchema n) h good = no_later version (rows_in d.trees) good.rows n (newer_stored h.0 n h.1 h.2)
  never Damaged h good = never_damaged version d first good.rows (h.2 version good.tables)

  is_found : (found : Option Version) → FindsVersion d found → (found ≡ Some version) ↔ IsRegistry version d
  is_found None h = (λ same. absurd cc, λ good. absurd (h (each_some d.schema (tables_each version d.schema good.tables))))
  is_found (Some found) h = (
    λ same.
        let is : found ≡ version = cc in
        record { tables = subst (λ v. HasTables v d.schema) is h.0; rows = registry_stored version d first (subst (λ v. ShowsRegistry v d) is h.1) },
    λ good. ap Some (both found version d.schema h.0 good.tables),
  )

pub told_stored : (d : Database) (r : Result (Option Version) TableFault) → MatchResult r (FindsVersion d) (Explains d) → (version : Version) → IsMadeFirst version d.schema
    → MatchResult r (λ found. (found ≡ Some version) ↔ IsRegistry version d) (λ e. IsRegistry version d → IsMemoryOrStore e)
told_stored d (Ok found) h version first = is_found d version first found h
told_stored d (Err e) h version first = never d version first e h

pub off_on : (b : Bool) → b ≡ false → b ≡ true → ⊥
off_on true off on = cc
off_on false off on = cc
