-- The flags of a look-up: libpci's PCI_LOOKUP_* constants (pci.h) as pci_lookup_name reads them.
use Rattle.std.specs.Prelude.{ℕ, Bool, not, ◌&&◌, ◌||◌, ◌==◌, List, [], ◌∷◌, Option, find, bit_and}
use Rattle.pid_lookup.specs.declared.flags.Request.{Request}
use Rattle.pid_lookup.specs.declared.flags.Request.TheVariants as requests

-- PCI_LOOKUP_VENDOR 1, _DEVICE 2, _CLASS 4, _SUBSYSTEM 8 and _PROGIF 10, as the requests join them
abbrev pub bits_of : Request → ℕ
bits_of requests.Vendor = 0x1
bits_of requests.Device = 0x2
bits_of requests.VendorAndDevice = 0x3
bits_of requests.Subvendor = 0x9
bits_of requests.Subsystem = 0xa
bits_of requests.SubvendorAndSubsystem = 0xb
bits_of requests.Class = 0x4
bits_of requests.ProgIf = 0x10

abbrev pub all_requests : List Request
all_requests =
    requests.Vendor ∷ requests.Device ∷ requests.VendorAndDevice ∷ requests.Subvendor
    ∷ requests.Subsystem
    ∷ requests.SubvendorAndSubsystem ∷ requests.Class ∷ requests.ProgIf ∷ []

-- what the low 16 bits ask for
abbrev pub request_of : ℕ → Option Request
request_of flags = find (λ request. bits_of request == bit_and flags 0xffff) all_requests

-- how names and numbers are shown: PCI_LOOKUP_NUMERIC 10000, _NO_NUMBERS 20000, _MIXED 40000
pub record Switches : Type 0 where
  pub numeric : Bool
  pub no_numbers : Bool
  pub mixed : Bool

abbrev pub has_bits : ℕ → ℕ → Bool
has_bits number bits = not (bit_and number bits == 0)

-- MIXED clears NUMERIC
abbrev pub switches_of : ℕ → Switches
switches_of flags = record {
  numeric = has_bits flags 0x10000 && not (has_bits flags 0x40000);
  no_numbers = has_bits flags 0x20000;
  mixed = has_bits flags 0x40000;
}

-- Numbers alone and no numbers together ask for nothing, and no other bit above the low 16 is
-- known: a choice of this project.
abbrev pub is_bad : ℕ → Bool
is_bad flags = ((switches_of flags).numeric && (switches_of flags).no_numbers)
    || has_bits flags 0xfff80000
