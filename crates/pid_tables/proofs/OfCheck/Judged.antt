-- All conditions of rows that were judged.
use Rattle.std.proofs.Common.{◌≡◌, Bool, true, false, not, refl, ℕ, ◌≤◌, List, length, IsTrue, sym, subst, subst₂}
use Rattle.sqlite.specs.Effect.{Database}
use Rattle.sqlite.specs.Order.{Row}
use Rattle.pid_moderation.specs.CheckTables.{most_revision}
use Rattle.pid_tables.specs.Rows.Faults.{IsMemoryOrStore}
use Rattle.pid_tables.specs.declared.rows.fault.TableFault.{TableFault}
use Rattle.pid_tables.specs.declared.rows.fault.TableFault.TheVariants.{Memory, Store, NewerSchema, Damaged}
use Rattle.pid_tables.specs.declared.rows.schema_version.Version.{Version}
use Rattle.pid_tables.specs.declared.rows.schema_version.Version.TheVariants.{One, Two}
use Rattle.pid_tables.specs.Check.Checking.{ShowsRegistry, ShowsDamage}
use Rattle.pid_tables.specs.Check.Conditions.{Rows, AreLabels, AreSinces, AreNumbered, AreCounted}
use Rattle.pid_tables.specs.Check.Steps.Keeping.{AreDated, ShowsJudged}
use Rattle.pid_tables.specs.Check.Queries.{query_of}
use Rattle.pid_tables.specs.Check.Steps.Reading.{TellsDamage}
use Rattle.pid_tables.specs.Check.Shapes.{ShowsRows}
use Rattle.pid_tables.specs.declared.check.schema.Table.TheVariants.{Meta}
use Rattle.pid_tables.specs.declared.check.tables.Judged.{Judged}

pub not_both : (b : Bool) → not b ≡ true → b ≡ true → ⊥
not_both true off on = cc
not_both false off on = cc

pub not_not : (b : Bool) → not b ≡ false → b ≡ true
not_not true off = refl
not_not false off = absurd cc

pub only_store_damage : (version : Version) (d : Database) (e : TableFault) → IsMemoryOrStore e → TellsDamage version d e
only_store_damage version d Memory h = tt
only_store_damage version d Store h = tt
only_store_damage version d (NewerSchema n) h = absurd h
only_store_damage version d Damaged h = absurd h

numbered : (version : Version) (n : ℕ) (t : Rows) → AreDated version n t.items t.sinces → AreNumbered version n t
numbered One n t good = tt
numbered Two n t good = good

-- what is told of the revision: the number of the labels, if they are those of schema 2
abbrev pub IsRevisionOf : ℕ → List Row → Type 0
IsRevisionOf n meta = (items submissions m : ℕ) → m ≤ most_revision → AreLabels Two items submissions m meta → n ≡ m

counts_of : (version : Version) (n : ℕ) (t : Rows) → IsRevisionOf n t.meta → AreCounted version t → AreDated version n t.items t.sinces × AreLabels version (length t.items) (length t.submissions) n t.meta
counts_of One n t told good = (tt, record { each = good.labels.each; there = good.labels.there })
counts_of Two n t told good =
    let same : good.revision ≡ n = sym (told (length t.items) (length t.submissions) good.revision good.limit good.labels) in
    (subst (λ m. AreSinces m t.items t.sinces) same good.sinces, subst (λ m. AreLabels Two (length t.items) (length t.submissions) m t.meta) same good.labels)

module _ (version : Version) (n : ℕ) (d : Database) (it : Judged) (meta : List Row) (shown : ShowsRows d (query_of Meta) meta) (all : ShowsJudged version n d it) where
  abbrev whole : Rows
  whole = record all.rows { meta = meta }

  pub registry_shown : n ≤ most_revision → IsTrue it.good → AreLabels version it.items it.submissions n meta → ShowsRegistry version d
  registry_shown limit on labels =
      let good = all.good.0 on in (
        whole,
        all.shows meta shown,
        record {
          counts = record { revision = n; limit = limit; labels = subst₂ (λ x y. AreLabels version x y n meta) all.items all.submissions labels; sinces = numbered version n whole good.sinces };
          accounts = good.accounts;
          items = good.items;
          submissions = good.submissions;
          remarks = good.remarks;
          receipts = good.receipts;
        },
      )

  pub damage_shown : IsRevisionOf n meta
      → (IsTrue it.good → AreLabels version it.items it.submissions n meta → ⊥) → ShowsDamage version d
  damage_shown told bad = (
    whole,
    all.shows meta shown,
    λ good.
        let counts = counts_of version n whole told good.counts in
        bad (all.good.1 (record { accounts = good.accounts; items = good.items; submissions = good.submissions; remarks = good.remarks; receipts = good.receipts; sinces = counts.0 }))
        (subst₂ (λ x y. AreLabels version x y n meta) (sym all.items) (sym all.submissions) counts.1),
  )
