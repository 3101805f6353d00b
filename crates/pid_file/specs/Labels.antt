-- What comes before the name in the line of an item, by the kind of its path: tabs, `C` before a
-- class, and the last digits of the path, as in pci.ids(5) (9 is a tab, 32 a space).
use Rattle.std.specs.Prelude.{ℕ, List, ◌∷◌, ◌++◌, codes}
use Rattle.pid_file.specs.declared.path.Path.{Path}
use Rattle.pid_file.specs.declared.path.Path.TheVariants.{Vendor, Device, Subsystem, Class, Subclass, ProgIf, Generic}
use Rattle.pid_file.specs.Identifiers.{hex4, hex2}

abbrev pub label : Path → List ℕ
label (Vendor v) = hex4 v
label (Device v d) = 9 ∷ hex4 d
label (Subsystem v d s e) = 9 ∷ 9 ∷ hex4 s ++ 32 ∷ hex4 e
label (Class c) = codes "C " ++ hex2 c
label (Subclass c s) = 9 ∷ hex2 s
label (ProgIf c s p) = 9 ∷ 9 ∷ hex2 p
label (Generic v d) = 9 ∷ hex4 d
