-- Fields of strings and of their bytes.
use Rattle.std.proofs.Common.{◌≡◌, ℕ, Bool, true, false, cond, List, [], ◌∷◌, Option, Some, None, refl, ap, ◌∙◌, String}
use Rattle.std.specs.Prelude.{find, string_bytes}
use Rattle.std.specs.Option.{option_map}
use Rattle.std.specs.Str.{bytes_eq}
use Rattle.pid_form.specs.FormFields.{bytes_of}
use Rattle.pid_form.specs.Fields.{value}

one_found : {A : Type 0} (b : Bool) (f : String A × String A) (o : Option (String A × String A)) (p : Option (List ℕ × List ℕ)) → p ≡ option_map (λ g. (string_bytes g.0, string_bytes g.1)) o
    → cond b (Some (string_bytes f.0, string_bytes f.1)) p ≡ option_map (λ g. (string_bytes g.0, string_bytes g.1)) (cond b (Some f) o)
one_found true f o p e = refl
one_found false f o p e = e

found_texts : {A : Type 0} (name : List ℕ) (fields : List (String A × String A)) → find (λ f. bytes_eq f.0 name) (bytes_of fields)
    ≡ option_map (λ g. (string_bytes g.0, string_bytes g.1)) (find (λ f. bytes_eq (string_bytes f.0) name) fields)
found_texts name [] = refl
found_texts name (f ∷ fields) = one_found (bytes_eq (string_bytes f.0) name) f _ _ (found_texts name fields)

pub value_found : {A : Type 0} (name : List ℕ) (fields : List (String A × String A)) (f : String A × String A) → find (λ f. bytes_eq (string_bytes f.0) name) fields ≡ Some f
    → value name (bytes_of fields) ≡ Some (string_bytes f.1)
value_found name fields f e = ap (option_map (λ g. g.1)) (found_texts name fields ∙ ap (option_map (λ g. (string_bytes g.0, string_bytes g.1))) e)

pub value_missing : {A : Type 0} (name : List ℕ) (fields : List (String A × String A)) → find (λ f. bytes_eq (string_bytes f.0) name) fields ≡ None → value name (bytes_of fields) ≡ None
value_missing name fields e = ap (option_map (λ g. g.1)) (found_texts name fields ∙ ap (option_map (λ g. (string_bytes g.0, string_bytes g.1))) e)
