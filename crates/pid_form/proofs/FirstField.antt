-- The first field of a name, as a loop over strings finds it.
use Rattle.std.proofs.Common.{◌≡◌, ℕ, ◌+◌, ◌<◌, Bool, true, false, cond, List, ◌∷◌, length, drop, get_or, Some, ap, ◌∙◌, String}
use Rattle.std.specs.Prelude.{find, string_bytes}
use Rattle.std.specs.Option.{option_map}
use Rattle.std.specs.Str.{bytes_eq}
use Rattle.std.proofs.lemmas.List.{at_drop_more}
use Rattle.pid_form.specs.FormFields.{bytes_of}
use Rattle.pid_form.specs.Fields.{value}

first : {A : Type 0} (name : List ℕ) (f : String A × String A) (fields : List (String A × String A)) (b : Bool) → bytes_eq (string_bytes f.0) name ≡ b
    → value name (bytes_of (f ∷ fields)) ≡ option_map (λ g. g.1) (cond b (Some (string_bytes f.0, string_bytes f.1)) (find (λ g. bytes_eq g.0 name) (bytes_of fields)))
first name f fields b e = ap (λ c. option_map (λ g. g.1) (cond c (Some (string_bytes f.0, string_bytes f.1)) (find (λ g. bytes_eq g.0 name) (bytes_of fields)))) e

pub skips : {A : Type 0} (name : List ℕ) (fields : List (String A × String A)) (i : ℕ) (d : String A × String A) → i < length fields → bytes_eq (string_bytes (get_or fields i d).0) name ≡ false
    → value name (bytes_of fields) ≡ value name (bytes_of (drop i fields)) → value name (bytes_of fields) ≡ value name (bytes_of (drop (i + 1) fields))
skips name fields i d within e h =
    h ∙ at_drop_more (λ l. value name (bytes_of l)) fields i d within ∙ first name (get_or fields i d) (drop (i + 1) fields) false e

pub stops : {A : Type 0} (name : List ℕ) (fields : List (String A × String A)) (i : ℕ) (d : String A × String A) → i < length fields → bytes_eq (string_bytes (get_or fields i d).0) name ≡ true
    → value name (bytes_of fields) ≡ value name (bytes_of (drop i fields)) → value name (bytes_of fields) ≡ Some (string_bytes (get_or fields i d).1)
stops name fields i d within e h =
    h ∙ at_drop_more (λ l. value name (bytes_of l)) fields i d within ∙ first name (get_or fields i d) (drop (i + 1) fields) true e
