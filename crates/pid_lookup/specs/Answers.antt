-- The answer of a look-up: libpci's pci_lookup_name over a map of names.
use Rattle.std.specs.Prelude.{◌≡◌, ℕ, not, ◌||◌, List, ◌++◌, Option, Some, None, codes}
use Rattle.pid_file.specs.declared.path.Path.{Path}
use Rattle.pid_file.specs.declared.path.Path.TheVariants.{Vendor, Device}
use Rattle.pid_file.specs.Identifiers.{hex4, hex2}
use Rattle.pid_file.specs.Trees.{TreeMap}
use Rattle.pid_lookup.specs.declared.args.Args.{Args}
use Rattle.pid_lookup.specs.declared.flags.Request.{Request}
use Rattle.pid_lookup.specs.declared.flags.Request.TheVariants as requests
use Rattle.pid_lookup.specs.declared.answer.Answer.{Answer}
use Rattle.pid_lookup.specs.declared.answer.Answer.TheVariants.{Text, NoAnswer}
use Rattle.pid_lookup.specs.Flags.{Switches, switches_of, request_of}
use Rattle.pid_lookup.specs.Found.{name_in_map, subsystem_name, progif_name}
use Rattle.pid_lookup.specs.Found.{subclass_name, class_name}
use Rattle.pid_lookup.specs.Layouts.{bracketed, one_text, pair_text}
use Rattle.pid_lookup.specs.Cut.{cut}

-- two numbers of a pair
abbrev pub joined : ℕ → ℕ → List ℕ
joined v d = hex4 v ++ codes ":" ++ hex4 d

-- the number that a request shows
abbrev pub request_number : Request → Args → List ℕ
request_number requests.Vendor a = hex4 a.vendor
request_number requests.Device a = hex4 a.device
request_number requests.VendorAndDevice a = joined a.vendor a.device
request_number requests.Subvendor a = hex4 a.subvendor
request_number requests.Subsystem a = hex4 a.subdevice
request_number requests.SubvendorAndSubsystem a = joined a.subvendor a.subdevice
request_number requests.Class a = hex4 a.class
request_number requests.ProgIf a = hex2 a.progif

-- the word that stands for an unknown name; in a pair the device's
abbrev pub request_word : Request → List ℕ
request_word requests.Vendor = codes "Vendor"
request_word requests.Device = codes "Device"
request_word requests.VendorAndDevice = codes "Device"
request_word requests.Subvendor = codes "Unknown vendor"
request_word requests.Subsystem = codes "Device"
request_word requests.SubvendorAndSubsystem = codes "Device"
request_word requests.Class = codes "Class"
request_word requests.ProgIf = codes "ProgIf"

-- one name with the number and the word of its request
abbrev pub one_shown : Switches → Request → Args → Option (List ℕ) → Option (List ℕ)
one_shown s request a name = one_text s (request_number request a) (request_word request) name

-- two names with the number of their request
abbrev pub pair_shown : Switches → Request → Args → Option (List ℕ) → Option (List ℕ)
    → Option (List ℕ)
pair_shown s request a v d = pair_text s (request_number request a) v d

-- MIXED, unless only numbers are wanted
abbrev pub with_numbers : Switches → Switches
with_numbers s = record s { mixed = s.mixed || not s.numeric }

-- a class without the subclass's name shows that of the class, and then the number too
abbrev pub class_shown : Switches → Args → Option (List ℕ) → Option (List ℕ) → Option (List ℕ)
class_shown s a (Some subclass) class = one_shown s requests.Class a (Some subclass)
class_shown s a None None = one_shown s requests.Class a None
class_shown s a None (Some class) = one_shown (with_numbers s) requests.Class a (Some class)

-- what a request shows of the names that are looked for
abbrev pub request_text : (Path → Option (List ℕ)) → Switches → Request → Args → Option (List ℕ)
request_text named s requests.Vendor a = one_shown s requests.Vendor a (named (Vendor a.vendor))
request_text named s requests.Device a =
    one_shown s requests.Device a (named (Device a.vendor a.device))
request_text named s requests.Subvendor a =
    one_shown s requests.Subvendor a (named (Vendor a.subvendor))
request_text named s requests.Subsystem a =
    one_shown s requests.Subsystem a (subsystem_name named a)
request_text named s requests.Class a = class_shown s a (subclass_name named a) (class_name named a)
request_text named s requests.ProgIf a = one_shown s requests.ProgIf a (progif_name named a)
request_text named s requests.VendorAndDevice a =
    pair_shown s requests.VendorAndDevice a (named (Vendor a.vendor))
    (named (Device a.vendor a.device))
request_text named s requests.SubvendorAndSubsystem a =
    pair_shown s requests.SubvendorAndSubsystem a (named (Vendor a.subvendor))
    (subsystem_name named a)

abbrev pub invalid_request : List ℕ
invalid_request = codes "<pci_lookup_name: invalid request>"

abbrev pub cut_answer : Option (List ℕ) → ℕ → Answer
cut_answer None size = NoAnswer
cut_answer (Some text) size = Text (cut text size)

-- a request that is none is answered whole, whatever the buffer
abbrev pub requested : (Path → Option (List ℕ)) → Switches → Option Request → Args → ℕ → Answer
requested named s None a size = Text invalid_request
requested named s (Some request) a size = cut_answer (request_text named s request a) size

-- the answer to flags that are not bad
abbrev pub answer_of : TreeMap → ℕ → Args → ℕ → Answer
answer_of t flags a size = requested (name_in_map t) (switches_of flags) (request_of flags) a size

-- a text is something before the number in brackets, cut to a buffer
pub record EndsWithNumber (number : List ℕ) (size : ℕ) (text : List ℕ) : Type 0 where
  pub front : List ℕ
  pub shown : text ≡ cut (front ++ bracketed number) size
