-- Fields by their names: pairs of a name and a value, as a form has them (the URL Standard,
-- section 5.1).
use Rattle.std.specs.Prelude.{ℕ, Bool, ◌&&◌, ◌||◌, ◌==◌, nat_lt, List, [], Option}
use Rattle.std.specs.Prelude.{find, count_by, unwrap_or}
use Rattle.std.specs.Option.{option_map}
use Rattle.std.specs.Str.{bytes_eq}

-- names and values, by their bytes
abbrev pub Fields : Type 0
Fields = List (List ℕ × List ℕ)

-- how often a field is there
abbrev pub times : List ℕ → Fields → ℕ
times name fields = count_by (λ f. bytes_eq f.0 name) fields

abbrev pub is_once : List ℕ → Fields → Bool
is_once name fields = times name fields == 1

-- more than once
abbrev pub is_twice : List ℕ → Fields → Bool
is_twice name fields = nat_lt 1 (times name fields)

-- one of two fields, once, and not the other
abbrev pub is_one_of : List ℕ → List ℕ → Fields → Bool
is_one_of name other fields = (is_once name fields && times other fields == 0)
    || (times name fields == 0 && is_once other fields)

-- the value of the first field of this name
abbrev pub value : List ℕ → Fields → Option (List ℕ)
value name fields = option_map (λ f. f.1) (find (λ f. bytes_eq f.0 name) fields)

-- and the empty text if it is missing
abbrev pub text_at : List ℕ → Fields → List ℕ
text_at name fields = unwrap_or (value name fields) []
