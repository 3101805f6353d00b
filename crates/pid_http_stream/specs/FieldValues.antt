-- The fields of a head by their names, which are compared without regard to case (RFC 9110, section
-- 5.1).
use Rattle.std.specs.Prelude.{ℕ, Bool, List, [], ◌∷◌, Option, Some, None, map, filter}
use Rattle.std.specs.Str.{str_eq_ignore_ascii_case}

-- a field's name and its value, without the blanks around that
abbrev pub NamedValue : Type 0
NamedValue = List ℕ × List ℕ

-- the field has this name
abbrev pub is_named : List ℕ → NamedValue → Bool
is_named name field = str_eq_ignore_ascii_case field.0 name

-- the values of the fields with this name, in order
abbrev pub values_of : List ℕ → List NamedValue → List (List ℕ)
values_of name fields = map (λ (field : NamedValue). field.1) (filter (is_named name) fields)

-- the first of some values
abbrev pub first_value : List (List ℕ) → Option (List ℕ)
first_value [] = None
first_value (value ∷ values) = Some value
