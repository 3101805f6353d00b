-- Which paths were seen, of those that can come again.
use Rattle.std.specs.Prelude.{ℕ, Bool, true, false, List}
use Rattle.std.specs.Prelude.{slice_index_or}
use Rattle.std.specs.Ordering.{nat_cmp}
use Rattle.pid_file.specs.declared.path.Path.{Path}
use Rattle.pid_file.specs.declared.path.Path.TheVariants.{Vendor, Device, Subsystem, Class, Subclass, ProgIf, Generic}
use Rattle.pid_file.specs.SeenItems.{IsRising, has_path, seen_items}
use Rattle.pid_file.specs.declared.seen_paths.SeenPaths.{SeenPaths}

-- the flag at a place; there is none past the end
abbrev pub has_flag : List Bool → ℕ → Bool
has_flag flags n = slice_index_or flags n false

-- whether a path is below a vendor or a class
abbrev pub is_nested : Path → Bool
is_nested (Vendor v) = false
is_nested (Device v d) = true
is_nested (Subsystem v d s e) = true
is_nested (Class c) = false
is_nested (Subclass c s) = true
is_nested (ProgIf c s p) = true
is_nested (Generic v d) = false

-- the vendor or the class that a path is or is below; a generic subsystem is below none
abbrev pub block_of : Path → Path
block_of (Vendor v) = Vendor v
block_of (Device v d) = Vendor v
block_of (Subsystem v d s e) = Vendor v
block_of (Class c) = Class c
block_of (Subclass c s) = Class c
block_of (ProgIf c s p) = Class c
block_of (Generic v d) = Generic v d

-- whether a path was seen, by the flags of vendors, the keys of classes and generic subsystems, and
-- the keys below the last vendor or class
abbrev pub seen_by : List Bool → List ℕ → List ℕ → Path → Bool
seen_by vendors others below (Vendor v) = has_flag vendors v
seen_by vendors others below (Device v d) = has_path below (Device v d)
seen_by vendors others below (Subsystem v d s e) = has_path below (Subsystem v d s e)
seen_by vendors others below (Class c) = has_path others (Class c)
seen_by vendors others below (Subclass c s) = has_path below (Subclass c s)
seen_by vendors others below (ProgIf c s p) = has_path below (ProgIf c s p)
seen_by vendors others below (Generic v d) = has_path others (Generic v d)

abbrev pub has_seen : SeenPaths → Path → Bool
has_seen s = seen_by s.vendors.items (seen_items s.others) (seen_items s.below)

-- the runs of both rise
pub record AreRising (s : SeenPaths) : Type 0 where
  pub others : IsRising nat_cmp s.others.run.items
  pub below : IsRising nat_cmp s.below.run.items
