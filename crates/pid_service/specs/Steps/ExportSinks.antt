-- What a sink that prints does with an item: `taken` is what its writer took, `write_fault` the
-- fault that the writer keeps.
use Rattle.std.specs.Prelude.{◌≡◌, ℕ, List, [], ◌∷◌, Option, Some}
use Rattle.std.specs.Io.KnownBytes.{Appends}
use Rattle.pid_ident.specs.Sending.{SendsFront}
use Rattle.pid_file.specs.declared.io.WriteFault.{WriteFault}
use Rattle.pid_reader.specs.Numbered.{Numbered, item_in}
use Rattle.pid_file.specs.Printing.{ended, lines_after}
use Rattle.pid_file.specs.Steps.Printing.{text_or_none}
use Rattle.pid_service.specs.declared.export_sink.ExportSink.{ExportSink}

-- the lines of an entry, after those of the entry before
abbrev pub lines_of_entry : {W : Type 0} → ExportSink W → Numbered → List ℕ
lines_of_entry s entry = ended (lines_after (text_or_none s.before) (item_in entry ∷ []))

-- one entry is printed through the same borrow, and is now the one before
pub record PrintsItem {W : Type 0} (taken : W → Option (List ℕ)) (s : ExportSink W)
    (entry : Numbered) (t : ExportSink W) : Type 0 where
  pub same_reference : t.out.ghost_name ≡ s.out.ghost_name
  pub before : text_or_none t.before ≡ (item_in entry).0
  pub printed : Appends (taken s.out.now) (taken t.out.now) (lines_of_entry s entry)

-- the writer failed within the lines of an entry
pub record StopsWithin {W : Type 0} (taken : W → Option (List ℕ))
    (write_fault : W → Option WriteFault) (s : ExportSink W) (entry : Numbered) (fault : WriteFault)
    (t : ExportSink W) : Type 0 where
  pub same_reference : t.out.ghost_name ≡ s.out.ghost_name
  pub front : SendsFront (taken s.out.now) (taken t.out.now) (lines_of_entry s entry)
  pub told : write_fault t.out.now ≡ Some fault
