-- The fields of a look-up, pairs of a name and a value, by their bytes: a choice of this project.
use Rattle.std.specs.Prelude.{ℕ, Bool, not, ◌||◌, if◌then◌else◌, List, [], ◌∷◌}
use Rattle.std.specs.Prelude.{Option, Some, None, is_none, unwrap_or, codes}
use Rattle.std.specs.List.{list_all, list_any}
use Rattle.std.specs.Str.{bytes_eq}
pub use Rattle.pid_form.specs.FormFields.{bytes_of}
use Rattle.pid_form.specs.Fields.{Fields, is_twice, value}
use Rattle.pid_form.specs.Numbers.{numeral}
use Rattle.pid_lookup.specs.declared.args.Args.{Args}

-- a value by its rule, and what is said if there is none
abbrev pub by_rule : (List ℕ → Option ℕ) → Option ℕ → Option (List ℕ) → Option ℕ
by_rule rule missing None = missing
by_rule rule missing (Some value) = rule value

-- what a field says: nothing if it is there more than once
abbrev pub said : (List ℕ → Option ℕ) → Option ℕ → List ℕ → Fields → Option ℕ
said rule missing name fields = if is_twice name fields then None
    else by_rule rule missing (value name fields)

-- the flags: 1 to 8 hex digits, which must be there
abbrev pub flags_said : Fields → Option ℕ
flags_said fields = said (numeral 16 1 8) None (codes "flags") fields

-- the size: 1 to 9 decimal digits, 1024 if it is missing
abbrev pub size_said : Fields → Option ℕ
size_said fields = said (numeral 10 1 9) (Some 1024) (codes "size") fields

-- vendor, device, subvendor, subdevice and class: 4 hex digits, 0000 if it is missing
abbrev pub number_said : List ℕ → Fields → Option ℕ
number_said name fields = said (numeral 16 4 4) (Some 0) name fields

-- the programming interface: 2 hex digits, 00 if it is missing
abbrev pub progif_said : Fields → Option ℕ
progif_said fields = said (numeral 16 2 2) (Some 0) (codes "progif") fields

-- a name of one of the eight fields
abbrev pub is_known : List ℕ → Bool
is_known name =
    bytes_eq name (codes "flags") || bytes_eq name (codes "size") || bytes_eq name
    (codes "vendor") || bytes_eq name (codes "device")
    || bytes_eq name (codes "subvendor") || bytes_eq name (codes "subdevice") || bytes_eq name
    (codes "class") || bytes_eq name (codes "progif")

-- all fields have a known name
abbrev pub are_known : Fields → Bool
are_known fields = list_all (λ field. is_known field.0) fields

-- Bad fields: one is unknown, or one of the eight says nothing: it breaks its rule, is there twice,
-- or is missing though it must be there.
abbrev pub are_bad : Fields → Bool
are_bad fields = not (are_known fields) || list_any is_none (
    flags_said fields ∷ size_said fields
    ∷ number_said (codes "vendor") fields ∷ number_said (codes "device") fields
    ∷ number_said (codes "subvendor") fields ∷ number_said (codes "subdevice") fields
    ∷ number_said (codes "class") fields ∷ progif_said fields ∷ [])

-- the number that a field says which is not bad
abbrev pub number_at : List ℕ → Fields → ℕ
number_at name fields = unwrap_or (number_said name fields) 0

-- a look-up: its flags, what is looked up, and the size of the buffer
pub record Lookup : Type 0 where
  pub flags : ℕ
  pub args : Args
  pub size : ℕ

-- the look-up that fields say which are not bad
abbrev pub lookup_said : Fields → Lookup
lookup_said fields = record {
  flags = unwrap_or (flags_said fields) 0;
  args = record {
    vendor = number_at (codes "vendor") fields;
    device = number_at (codes "device") fields;
    subvendor = number_at (codes "subvendor") fields;
    subdevice = number_at (codes "subdevice") fields;
    class = number_at (codes "class") fields;
    progif = unwrap_or (progif_said fields) 0;
  };
  size = unwrap_or (size_said fields) 0;
}

-- or none if they are bad
unfoldable pub lookup_from : Fields → Option Lookup
lookup_from fields = if are_bad fields then None else Some (lookup_said fields)

-- flags, arguments and size as a look-up
abbrev pub as_lookup : ℕ × Args × ℕ → Lookup
as_lookup lookup = record { flags = lookup.0; args = lookup.1; size = lookup.2 }
