-- Steps of Exports.
use Rattle.std.specs.Prelude.{◌≡◌, ℕ, List, ◌++◌, Option, Some, Result, Ok, Err, IfErr}
use Rattle.std.specs.Io.KnownBytes.{Appends}
use Rattle.pid_file.specs.declared.io.Output as outputs
use Rattle.pid_ident.specs.Sending.{SendsFront}
use Rattle.pid_moderation.specs.History.{History}
use Rattle.pid_moderation.specs.Items.{Items}
use Rattle.pid_moderation.specs.Views.{items_of}
use Rattle.pid_moderation.specs.Writes.{tree_of}
use Rattle.pid_file.specs.Printing.{print}
use Rattle.pid_service_laws.specs.declared.faults.ExportFault.{ExportFault}
use Rattle.pid_service_laws.specs.declared.faults.ExportFault.TheVariants.{Refused, Write}
use Rattle.pid_tables.specs.declared.database.Database.{Ghosts}
use Rattle.pid_service.specs.Histories.{IsMemoryOrStore}
use Rattle.pid_service.specs.ItemTexts.{text_of_items}
use Rattle.pid_file.specs.declared.io.WriteFault.{WriteFault}
use Rattle.pid_tables.specs.declared.lists.walk.EachEnd.{EachEnd}
use Rattle.pid_tables.specs.declared.lists.walk.EachEnd.TheVariants.{Tables, Fault}
use Rattle.pid_tables.specs.Lists.Clauses.{IsCausedEnd, OverViews}
use Rattle.pid_tables.specs.Rows.Causes.{IsReadable}
use Rattle.pid_tables.specs.Rows.Clauses.{OnlyReads}
use Rattle.pid_tables.specs.declared.tables.Tables.{Tables as RegistryTables}

-- whole lines: the header and all lines of some items, the first ones
abbrev pub TakesWholeLines : Option (List ℕ) → Option (List ℕ) → Items → Type 0
TakesWholeLines old new items = (front : Items) × (behind : Items) × (items ≡ front ++ behind)
    × Appends old new (text_of_items front)

-- the whole text; a prefix of it, and not all, if the writer failed; whole lines of it if the
-- tables did
abbrev pub WritesItems : {X : Type 0} → Result X (EachEnd WriteFault) → Option (List ℕ)
    → Option (List ℕ) → Items → Type 0
WritesItems (Ok x) old new items = Appends old new (text_of_items items)
WritesItems (Err (Fault fault)) old new items = SendsFront old new (text_of_items items)
WritesItems (Err (Tables fault)) old new items = TakesWholeLines old new items

-- the items of tables at rest were printed
pub record PrintsItems {S W : Type 0} (database : Ghosts S) (writer : outputs.Ghosts W)
    (old new : RegistryTables S database) (before after : W)
    (result : Result (Unit {0}) (EachEnd WriteFault)) : Type 0 where
  pub rests : OnlyReads database.state old.conn new.conn
  pub printed : OverViews database.state old.conn new.conn
      (λ v. WritesItems result (writer.taken before) (writer.taken after) v.items)
  pub fault : (f : WriteFault) → result ≡ Err (Fault f) → writer.write_fault after ≡ Some f
  pub caused : OverViews database.state old.conn new.conn
      (λ v. IsReadable v → IfErr result (IsCausedEnd database.state old.conn new.conn))

-- the same of a registry, whose refusal says why the tables failed
abbrev pub ExportsTree : {X : Type 0} → Result X ExportFault → Option (List ℕ) → Option (List ℕ)
    → History → Type 0
ExportsTree (Ok x) old new h = Appends old new (print (tree_of h))
ExportsTree (Err (Write fault)) old new h = SendsFront old new (print (tree_of h))
ExportsTree (Err (Refused e)) old new h = IsMemoryOrStore e × TakesWholeLines old new (items_of h)
