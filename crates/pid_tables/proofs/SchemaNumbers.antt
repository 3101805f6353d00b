-- What the label of the schema tells.
use Rattle.std.proofs.Common.{◌≡◌, inl, inr, ℕ, Some, Ok, Err, Result, IfOk, IfErr, MatchResult, ◌<◌, ◌^◌, arith, true, codes, refl, sym, ap, subst, ◌∙◌}
use Rattle.std.proofs.lemmas.Bool.{eqb-true}
use Rattle.std.specs.Prelude.{◌==◌}
use Rattle.sqlite.specs.Effect.{Database}
use Rattle.sqlite.specs.Order.{Row, column}
use Rattle.sqlite.specs.State.{State, HasCleanDisk}
use Rattle.sqlite.specs.declared.types.Value.TheVariants.{Text}
use Rattle.pid_moderation.specs.Views.{Views}
use Rattle.pid_tables.specs.declared.rows.schema_version.Version.{Version}
use Rattle.pid_tables.specs.declared.rows.schema_version.Version.TheVariants.{One, Two}
use Rattle.pid_tables.specs.declared.rows.fault.TableFault.{TableFault}
use Rattle.pid_tables.specs.declared.rows.fault.TableFault.TheVariants.{Memory, Store, NewerSchema, Damaged}
use Rattle.pid_tables.specs.Rows.Causes.{IsCaused}
use Rattle.pid_tables.specs.Rows.Faults.{IsMemoryOrStore}
use Rattle.pid_tables.specs.Rows.Leaves.{OnlyReads}
use Rattle.pid_tables.specs.Rows.LabelRows.{HasLabel, IsDamageOf, LacksNumber, ExplainsNumber, ShowsNumber}
use Rattle.pid_tables.specs.Rows.PairRows.{IsPairRow}
use Rattle.pid_tables.specs.Rows.Schema.{version_number}
use Rattle.pid_tables.specs.Rows.Shows.{Counts, Numbers, ShowsKeeping, labels_of}
use Rattle.pid_tables.specs.Rows.TableRows.{number, meta_row}
use Rattle.pid_tables.proofs.OfRows.Keys.{pos_same}
use Rattle.pid_tables.proofs.OfCheck.Asking.{IsSame, caused_then}
use Rattle.pid_tables.specs.Steps.Bringing.{is_latest}

small : (version : Version) → version_number version < 2 ^ 32
small One = omega arith
small Two = omega arith

module _ {version : Version} {c : Counts} {numbers : Numbers} (db : Database) (v : Views) (shows : ShowsKeeping version c numbers db v) where
  labelled : (r : Row) (pair : IsPairRow meta_row (labels_of version c numbers.revision) r) → column r 1 ≡ Text (codes "schema") → pair.value ≡ version_number version
  labelled r pair label =
      let text : Text pair.key ≡ Text (codes "schema") = ap (λ x. column x 1) (sym pair.is) ∙ label in
      let same : pair.key ≡ codes "schema" = cc in
      let found : Some (version_number version) ≡ Some pair.value = subst (λ k. labels_of version c numbers.revision k ≡ Some pair.value) same pair.maps in
      cc

  -- the number that meta has is that of the schema
  pub schema_told : (n : ℕ) → HasLabel db.trees (codes "schema") n → n ≡ version_number version
  schema_told n it =
      let pair = shows.meta.sound it.0 it.1 in
      let values : number pair.value ≡ number n = ap (λ x. column x 2) (sym pair.is) ∙ it.3 in
      let both = labelled it.0 pair it.2 in
      pos_same n (version_number version) (let same : number n ≡ number (version_number version) = sym values ∙ ap number both in cc)

  -- and it is there
  pub schema_there : LacksNumber db.trees (codes "schema") → ⊥
  schema_there (inl none) = let row = shows.meta.complete (codes "schema") (version_number version) refl in none (meta_row row.0 (codes "schema") (version_number version)) row.1 refl
  schema_there (inr it) =
      let pair = shows.meta.sound it.0 it.1 in
      it.3 (version_number version, small version, ap (λ x. column x 2) pair.is ∙ ap number (labelled it.0 pair it.2))

  -- so it is told, where no fault hinders
  pub number_told : (r : Result ℕ TableFault) → IfOk r (HasLabel db.trees (codes "schema")) → IfErr r (ExplainsNumber db.trees (codes "schema")) → MatchResult r (λ n. n ≡ version_number version) IsMemoryOrStore
  number_told (Ok n) label bad = schema_told n label
  number_told (Err Memory) label bad = tt
  number_told (Err Store) label bad = tt
  number_told (Err (NewerSchema n)) label bad = bad
  number_told (Err Damaged) label bad = schema_there bad

pub second_is_latest : (version : Version) (n : ℕ) → n ≡ version_number version → (n == 2) ≡ is_latest version
second_is_latest One n is = ap (λ m. m == 2) is
second_is_latest Two n is = ap (λ m. m == 2) is

-- a number that is compared with 2
pub shown_second : (db : Database) (n : ℕ) → (n == 2) ≡ true → ShowsNumber db (codes "schema") n → ShowsNumber db (codes "schema") 2
shown_second db n is shows = subst (ShowsNumber db (codes "schema")) (eqb-true n 2 is) shows

-- ---- what is told of the label, whatever the schema

pub only_store_damage : (This : Type 0) (e : TableFault) → IsMemoryOrStore e → IsDamageOf This e
only_store_damage This Memory h = tt
only_store_damage This Store h = tt
only_store_damage This (NewerSchema n) h = h
only_store_damage This Damaged h = absurd h

pub good_of : {X E : Type 0} (P : X → Type 0) (Q : E → Type 0) (r : Result X E) → MatchResult r P Q → IfOk r P
good_of P Q (Ok x) h = h
good_of P Q (Err e) h = tt

pub bad_of : {X E : Type 0} (P : X → Type 0) (Q : E → Type 0) (r : Result X E) → MatchResult r P Q → IfErr r Q
bad_of P Q (Ok x) h = tt
bad_of P Q (Err e) h = h

-- a cause of what came later is one of the whole
pub caused_all : (a b c : State) (Readable : Type 0) (P : ℕ → Type 0) (r : Result ℕ TableFault) → IsSame a b → OnlyReads b c → HasCleanDisk c → MatchResult r P (λ e. Readable → IsCaused b c e) → MatchResult r P (λ e. Readable → IsCaused a c e)
caused_all a b c Readable P (Ok n) one rests clean h = h
caused_all a b c Readable P (Err e) one rests clean h = λ readable. caused_then a b c e one rests clean (h readable)
