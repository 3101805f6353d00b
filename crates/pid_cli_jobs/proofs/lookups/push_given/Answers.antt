use Rattle.std.specs.Prelude.{◌≡◌, ℕ, List, [], ◌∷◌, ◌++◌, Option, Some, String, string_bytes}
use Rattle.std.proofs.Common.{ap, sym, ◌∙◌}
use Rattle.std.proofs.lemmas.List.{map-append}
use Rattle.pid_lookup.specs.Fields.{bytes_of}
use Rattle.pid_cli_args.specs.Jobs.{text_given}
use Rattle.pid_cli_jobs.specs.Jobs.{field_given}
use Rattle.pid_cli_jobs.proofs.lookups.push_given.Goals as goal

-- the field of a name and a value is added
pushed : {A : Type 0} (old new : List (String A × String A)) (name value : String A)
    (name_text text : List ℕ) (given : Option (List ℕ)) → new ≡ old ++ (name, value) ∷ []
    → string_bytes name ≡ name_text → string_bytes value ≡ text → given ≡ Some text
    → bytes_of new ≡ bytes_of old ++ field_given name_text given
pushed old new name value name_text text given added is_name is_value is = ap bytes_of added
    ∙ map-append (λ f. (string_bytes f.0, string_bytes f.1)) old ((name, value) ∷ [])
    ∙ ap (λ (n : List ℕ). bytes_of old ++ (n, string_bytes value) ∷ []) is_name
    ∙ ap (λ (v : List ℕ). bytes_of old ++ (name_text, v) ∷ []) is_value
    ∙ sym (ap (λ g. bytes_of old ++ field_given name_text g) is)

pub returns : goal.returns
returns c = pushed c.args.fields.now.items c.push.new.self.items
    c.in_ok-name.name c.in_ok-value.value
    c.args.name.now c.in-Some.value.now (text_given c.args.value) c.in_ok-push.ensures.items
    c.in_ok-name.ensures.ok c.in_ok-value.ensures.ok (ap text_given c.in-Some.is)
