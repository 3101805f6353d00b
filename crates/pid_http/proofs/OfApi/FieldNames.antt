-- The names of fields, as strings and as their bytes.
use Rattle.std.proofs.Common.{◌≡◌, ℕ, List, [], ◌∷◌, map, refl, sym, ap, String}
use Rattle.std.specs.Prelude.{string_bytes, not, ◌&&◌, ◌||◌}
use Rattle.std.specs.Borrow.{Bor}
use Rattle.std.specs.List.{list_all, list_any}
use Rattle.std.specs.Str.{bytes_eq}
use Rattle.std.proofs.lemmas.List.Folds.{list_all-map}
use Rattle.pid_form.specs.Fields.{is_twice}
use Rattle.pid_form.specs.FormFields.{bytes_of}
use Rattle.pid_http.specs.Api.Questions.{are_of}

-- a name among others
among : (text : List ℕ) (names : List (Bor (List ℕ))) → list_any (λ other. bytes_eq text other.now) names ≡ list_any (λ name. bytes_eq text name) (map (λ name. name.now) names)
among text [] = refl
among text (name ∷ names) = ap (λ b. bytes_eq text name.now || b) (among text names)

none_other : {A : Type 0} (fields : List (String A × String A)) (names : List (Bor (List ℕ))) → list_all (λ field. list_any (λ name. bytes_eq (string_bytes field.0) name.now) names) fields
    ≡ list_all (λ field. list_any (λ name. bytes_eq field.0 name) (map (λ name. name.now) names)) (bytes_of fields)
none_other [] names = refl
none_other (field ∷ fields) names = λ i. among (string_bytes field.0) names i && none_other fields names i

-- both tests of fields
pub of_names : {A : Type 0} (fields : List (String A × String A)) (names : List (Bor (List ℕ))) → (list_all (λ field. list_any (λ name. bytes_eq (string_bytes field.0) name.now) names) fields
    && list_all (λ name. not (is_twice name.now (bytes_of fields))) names) ≡ are_of (map (λ name. name.now) names) (bytes_of fields)
of_names fields names = λ i. none_other fields names i && sym (list_all-map (λ name. not (is_twice name (bytes_of fields))) (λ (name : Bor (List ℕ)). name.now) names) i
