-- What a path feeds a hasher: the letter of its kind, and its numbers.
use Rattle.std.specs.Prelude.{ℕ, List, [], ◌++◌}
use Rattle.std.specs.Option.{option_map_or}
use Rattle.std.specs.Hash.{HashWrites}
use Rattle.std.specs.Hash as fed
use Rattle.pid_file.specs.declared.path.Path.{Path}
use Rattle.pid_file.specs.declared.path.Path.TheVariants.{Vendor, Device, Subsystem, Class}
use Rattle.pid_file.specs.declared.path.Path.TheVariants.{Subclass, ProgIf, Generic}
use Rattle.pid_ident.specs.PathReading.{path_of}

abbrev pub fed_by : Path → HashWrites
fed_by (Vendor v) = fed.u8 67 ++ fed.u16 v
fed_by (Device v d) = fed.u8 67 ++ fed.u16 v ++ fed.u16 d
fed_by (Subsystem v d s e) = fed.u8 67 ++ fed.u16 v ++ fed.u16 d ++ fed.u16 s ++ fed.u16 e
fed_by (Class c) = fed.u8 68 ++ fed.u8 c
fed_by (Subclass c s) = fed.u8 68 ++ fed.u8 c ++ fed.u8 s
fed_by (ProgIf c s p) = fed.u8 68 ++ fed.u8 c ++ fed.u8 s ++ fed.u8 p
fed_by (Generic v d) = fed.u8 83 ++ fed.u16 v ++ fed.u16 d

-- what the path of a text feeds
abbrev pub fed_text : List ℕ → HashWrites
fed_text text = option_map_or fed_by (path_of text) []
