-- The fields of a form, by the application/x-www-form-urlencoded parser of the URL Standard
-- (section 5.1).
use Rattle.std.specs.Prelude.{ℕ, List, map, String, string_bytes}
use Rattle.std.specs.Str.Lossy.{utf8_lossy}
use Rattle.form_urlencoded.specs.Form.{decode, raw_pairs}

-- a name or a value as text: `+` and `%` are decoded, and what is no UTF-8 becomes U+FFFD
abbrev pub decoded : List ℕ → List ℕ
decoded bytes = utf8_lossy (decode bytes)

-- a pair of a name and a value, both as text
abbrev pub field : List ℕ × List ℕ → List ℕ × List ℕ
field pair = (decoded pair.0, decoded pair.1)

-- the names and the values between the `&`, in their order
abbrev pub fields_in : List ℕ → List (List ℕ × List ℕ)
fields_in form = map field (raw_pairs form)

-- fields by their bytes
abbrev pub bytes_of : {A : Type 0} → List (String A × String A) → List (List ℕ × List ℕ)
bytes_of fields = map (λ f. (string_bytes f.0, string_bytes f.1)) fields
