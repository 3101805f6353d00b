-- The names that a look-up is about, as libpci's names.c finds them (id_lookup_subsys and the cases
-- of pci_lookup_name).
use Rattle.std.specs.Prelude.{ℕ, ◌/◌, ◌%◌, Bool, true, false, not, ◌&&◌, ◌==◌, nat_lt}
use Rattle.std.specs.Prelude.{if◌then◌else◌, List, [], ◌∷◌, ◌++◌, Option, Some, None, codes}
use Rattle.std.specs.List.{join_with_byte}
use Rattle.std.specs.FinMap.{get}
use Rattle.pid_file.specs.declared.path.Path.{Path}
use Rattle.pid_file.specs.declared.path.Path.TheVariants.{Device, Subsystem, Class}
use Rattle.pid_file.specs.declared.path.Path.TheVariants.{Subclass, ProgIf, Generic}
use Rattle.pid_file.specs.PathTexts.{path_text}
use Rattle.pid_file.specs.Trees.{TreeMap}
use Rattle.pid_lookup.specs.declared.args.Args.{Args}
use Rattle.pid_lookup.specs.Flags.{has_bits}

-- the name of a path in a map
abbrev pub name_in_map : TreeMap → Path → Option (List ℕ)
name_in_map t path = get t (path_text path)

-- the first name that is there
abbrev pub first_there : List (Option (List ℕ)) → Option (List ℕ)
first_there [] = None
first_there (None ∷ names) = first_there names
first_there (Some name ∷ names) = Some name

-- a name that counts only if a test holds
abbrev pub where_true : Bool → Option (List ℕ) → Option (List ℕ)
where_true true name = name
where_true false name = None

-- the subsystem's entry under its device, whose two numbers are above 0
abbrev pub under_device : (Path → Option (List ℕ)) → Args → Option (List ℕ)
under_device named a = where_true (nat_lt 0 a.vendor && nat_lt 0 a.device)
    (named (Subsystem a.vendor a.device a.subvendor a.subdevice))

-- the device, if it is its own subsystem
abbrev pub own_device : (Path → Option (List ℕ)) → Args → Option (List ℕ)
own_device named a = where_true (a.subvendor == a.vendor && a.subdevice == a.device)
    (named (Device a.vendor a.device))

-- The subsystem: its entry under the device; else the generic subsystem; else the device itself.
abbrev pub subsystem_name : (Path → Option (List ℕ)) → Args → Option (List ℕ)
subsystem_name named a = first_there (
    under_device named a ∷ named (Generic a.subvendor a.subdevice) ∷ own_device named a ∷ [])

-- the byte of the class, and that of the subclass
abbrev pub class_byte : Args → ℕ
class_byte a = a.class / 256

abbrev pub subclass_byte : Args → ℕ
subclass_byte a = a.class % 256

abbrev pub subclass_name : (Path → Option (List ℕ)) → Args → Option (List ℕ)
subclass_name named a = named (Subclass (class_byte a) (subclass_byte a))

abbrev pub class_name : (Path → Option (List ℕ)) → Args → Option (List ℕ)
class_name named a = named (Class (class_byte a))

-- a word in a list, if the bit is set
abbrev pub word_at : ℕ → ℕ → List ℕ → List (List ℕ)
word_at progif bit word = if has_bits progif bit then word ∷ [] else []

-- The programming interface of an IDE controller in words: who masters the bus, and the modes of
-- both channels.
abbrev pub ide_words : ℕ → List ℕ
ide_words progif = join_with_byte 32 (
    word_at progif 0x80 (codes "Master")
    ++ word_at progif 0x08 (codes "SecP")
    ++ word_at progif 0x04 (codes "SecO")
    ++ word_at progif 0x02 (codes "PriP")
    ++ word_at progif 0x01 (codes "PriO"))

-- The programming interface: its entry; else, of an IDE controller (class 0101) with none of the
-- bits 70 set, its words, which may be none.
abbrev pub progif_name : (Path → Option (List ℕ)) → Args → Option (List ℕ)
progif_name named a = first_there (
    named (ProgIf (class_byte a) (subclass_byte a) a.progif)
    ∷ where_true (a.class == 0x101 && not (has_bits a.progif 0x70)) (Some (ide_words a.progif))
    ∷ [])
