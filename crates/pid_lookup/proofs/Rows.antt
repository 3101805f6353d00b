-- Worked look-ups, by computation: each holds over any holder whose names at the paths asked for are these.
use Rattle.std.proofs.Common.{◌≡◌, ℕ, ◌==◌, true, false, cond, List, Option, Some, None, Ok, Err, codes, refl}
use mathlib.Core.Bool.{false≢true}
use Rattle.pid_file.specs.declared.path.Path.{Path}
use Rattle.pid_file.specs.declared.path.Path.TheVariants.{Vendor, Device, Subsystem, Class, Subclass, ProgIf, Generic}
use Rattle.pid_lookup.specs.declared.args.Args.{Args}
use Rattle.pid_lookup.specs.declared.answer.Answer.{Answer}
use Rattle.pid_lookup.specs.declared.answer.Answer.TheVariants.{Text, NoAnswer}
use Rattle.pid_lookup.specs.Flags.{request_of, switches_of, is_bad}
use Rattle.pid_lookup.specs.Answers.{requested}
use Rattle.pid_lookup.specs.declared.answering.LookupRefusal.TheVariants.{Memory}
use Rattle.pid_lookup.specs.Told.{IsToldBy, NeedsNames}

-- names at vendors, at devices and so on
abbrev Named : Type 0
Named = Path → Option (List ℕ)

abbrev answer : Named → ℕ → Args → ℕ → Answer
answer named flags a size = requested named (switches_of flags) (request_of flags) a size

abbrev at : ℕ → ℕ → List ℕ → Option (List ℕ)
at n wanted name = cond (n == wanted) (Some name) None

-- one vendor
abbrev intel : Named
intel (Vendor v) = at v 0x8086 (codes "Intel Corporation")
intel (Device v d) = None
intel (Subsystem v d s e) = None
intel (Class c) = None
intel (Subclass c s) = None
intel (ProgIf c s p) = None
intel (Generic v d) = None

abbrev device : ℕ → ℕ → Args
device v d = record { vendor = v; device = d; subvendor = 0; subdevice = 0; class = 0; progif = 0 }

unknown_device : answer intel 0x3 (device 0x8086 0xffff) 1024 ≡ Text (codes "Intel Corporation Device ffff")
unknown_device = refl

unknown_device_mixed : answer intel 0x40003 (device 0x8086 0xffff) 1024 ≡ Text (codes "Intel Corporation Device [8086:ffff]")
unknown_device_mixed = refl

unknown_device_without_numbers : answer intel 0x20003 (device 0x8086 0xffff) 1024 ≡ NoAnswer
unknown_device_without_numbers = refl

device_numbers : answer intel 0x10003 (device 0x8086 0xffff) 1024 ≡ Text (codes "8086:ffff")
device_numbers = refl

unknown_pair : answer intel 0x3 (device 0x1234 0x1111) 1024 ≡ Text (codes "Device 1234:1111")
unknown_pair = refl

unknown_vendor : answer intel 0x1 (device 0x1234 0) 1024 ≡ Text (codes "Vendor 1234")
unknown_vendor = refl

mixed_clears_numeric : answer intel 0x70001 (device 0x8086 0) 1024 ≡ Text (codes "Intel Corporation [8086]")
mixed_clears_numeric = refl

cut_at_17 : answer intel 0x1 (device 0x8086 0) 17 ≡ Text (codes "Intel Corpora...")
cut_at_17 = refl

cut_at_4 : answer intel 0x1 (device 0x8086 0) 4 ≡ Text (codes "...")
cut_at_4 = refl

cut_at_3 : answer intel 0x1 (device 0x8086 0) 3 ≡ Text (codes "<pci_lookup_name: buffer too small>")
cut_at_3 = refl

whole_at_18 : answer intel 0x1 (device 0x8086 0) 18 ≡ Text (codes "Intel Corporation")
whole_at_18 = refl

no_request : answer intel 0x5 (device 0x8086 0) 0 ≡ Text (codes "<pci_lookup_name: invalid request>")
no_request = refl

-- a class without its subclasses
abbrev unassigned : Named
unassigned (Vendor v) = None
unassigned (Device v d) = None
unassigned (Subsystem v d s e) = None
unassigned (Class c) = at c 0xff (codes "Unassigned class")
unassigned (Subclass c s) = None
unassigned (ProgIf c s p) = None
unassigned (Generic v d) = None

abbrev interface : ℕ → ℕ → Args
interface c p = record { vendor = 0; device = 0; subvendor = 0; subdevice = 0; class = c; progif = p }

class_in_place_of_subclass : answer unassigned 0x4 (interface 0xff00 0) 1024 ≡ Text (codes "Unassigned class [ff00]")
class_in_place_of_subclass = refl

class_number : answer unassigned 0x10004 (interface 0xff00 0) 1024 ≡ Text (codes "ff00")
class_number = refl

class_without_numbers : answer unassigned 0x20004 (interface 0xff00 0) 1024 ≡ Text (codes "Unassigned class [ff00]")
class_without_numbers = refl

unknown_class : answer unassigned 0x20004 (interface 0x1234 0) 1024 ≡ NoAnswer
unknown_class = refl

-- an IDE controller's interface
ide : answer unassigned 0x10 (interface 0x101 0x8a) 1024 ≡ Text (codes "Master SecP PriP")
ide = refl

ide_without_bits : answer unassigned 0x40010 (interface 0x101 0) 1024 ≡ Text (codes " [00]")
ide_without_bits = refl

not_ide : answer unassigned 0x10 (interface 0x102 0x8a) 1024 ≡ Text (codes "ProgIf 8a")
not_ide = refl

reserved_bits : answer unassigned 0x10 (interface 0x101 0x10) 1024 ≡ Text (codes "ProgIf 10")
reserved_bits = refl

-- generic subsystems, and a device that is its own subsystem
abbrev red_hat : Named
red_hat (Vendor v) = at v 0x1af4 (codes "Red Hat")
red_hat (Device v d) = at d 0 (codes "Zero")
red_hat (Subsystem v d s e) = Some (codes "Per device")
red_hat (Class c) = None
red_hat (Subclass c s) = None
red_hat (ProgIf c s p) = None
red_hat (Generic v d) = at d 0x1100 (codes "Generic")

abbrev subsystem : ℕ → ℕ → Args
subsystem d e = record { vendor = 0x1af4; device = d; subvendor = 0x1af4; subdevice = e; class = 0; progif = 0 }

no_device_number : answer red_hat 0xa (subsystem 0 0x1100) 1024 ≡ Text (codes "Generic")
no_device_number = refl

under_device : answer red_hat 0xb (subsystem 0x1000 0x1100) 1024 ≡ Text (codes "Red Hat Per device")
under_device = refl

own_device : answer red_hat 0xa (subsystem 0 0) 1024 ≡ Text (codes "Zero")
own_device = refl

-- bad flags
numeric_without_numbers : is_bad 0x30001 ≡ true
numeric_without_numbers = refl

unknown_bit : is_bad 0x80001 ≡ true
unknown_bit = refl

mixed_with_both : is_bad 0x70001 ≡ false
mixed_with_both = refl

-- of which holders the ends come
vendor_needs_names : NeedsNames 0x1
vendor_needs_names = (refl, refl)

no_request_needs_no_names : NeedsNames 0x5 → ⊥
no_request_needs_no_names needs = false≢true needs.1

no_answer_is_told_too : (F : Type 0) → IsToldBy {F = F} ⊥ 0x20001 (Ok NoAnswer) → ⊥
no_answer_is_told_too F told = told (refl, refl)

memory_is_told_too : (F : Type 0) → IsToldBy {A = Answer} {F = F} ⊥ 0x1 (Err Memory) → ⊥
memory_is_told_too F told = told (refl, refl)
