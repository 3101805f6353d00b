-- Fields of strings and of their bytes, and the look-up that they say.
use Rattle.std.proofs.Common.{◌≡◌, ℕ, Bool, true, false, cond, List, [], ◌∷◌, ◌++◌, Option, Some, None, refl, sym, ap, ◌∙◌, String}
use Rattle.std.specs.Prelude.{string_bytes, codes, unwrap_or, not, ◌||◌, ◌&&◌, is_none}
use Rattle.std.specs.List.{list_all, list_any}
use Rattle.pid_form.specs.FormFields.{bytes_of}
use Rattle.pid_form.specs.Fields.{Fields}
use Rattle.pid_lookup.specs.Fields.{is_known, are_known, are_bad, flags_said, size_said, number_said, progif_said, lookup_from, lookup_said, Lookup, as_lookup}

pub known_texts : {A : Type 0} (fields : List (String A × String A)) → list_all (λ f. is_known (string_bytes f.0)) fields ≡ are_known (bytes_of fields)
known_texts [] = refl
known_texts (f ∷ fields) = ap (λ b. is_known (string_bytes f.0) && b) (known_texts fields)

pub unknown : (fields : Fields) → are_known fields ≡ false → are_bad fields ≡ true
unknown fields k = ap (λ b. not b || list_any is_none (
    flags_said fields ∷ size_said fields
    ∷ number_said (codes "vendor") fields ∷ number_said (codes "device") fields
    ∷ number_said (codes "subvendor") fields ∷ number_said (codes "subdevice") fields
    ∷ number_said (codes "class") fields ∷ progif_said fields ∷ [])) k

-- what the eight fields say, in their order
abbrev pub all_said : Fields → List (Option ℕ)
all_said fields = flags_said fields ∷ size_said fields
    ∷ number_said (codes "vendor") fields ∷ number_said (codes "device") fields
    ∷ number_said (codes "subvendor") fields ∷ number_said (codes "subdevice") fields
    ∷ number_said (codes "class") fields ∷ progif_said fields ∷ []

true_later : (a b : Bool) → b ≡ true → (a || b) ≡ true
true_later true b is = refl
true_later false b is = is

none_among : (before after : List (Option ℕ)) → list_any is_none (before ++ (None ∷ after)) ≡ true
none_among [] after = refl
none_among (o ∷ before) after = true_later (is_none o) (list_any is_none (before ++ (None ∷ after))) (none_among before after)

-- one of them says nothing
pub one_missing : (fields : Fields) (before after : List (Option ℕ)) (o : Option ℕ) → are_known fields ≡ true → all_said fields ≡ before ++ (o ∷ after) → o ≡ None → are_bad fields ≡ true
one_missing fields before after o known is none =
    ap (λ b. not b || list_any is_none (all_said fields)) known
    ∙ (ap (list_any is_none) is ∙ (ap (λ x. list_any is_none (before ++ (x ∷ after))) none ∙ none_among before after))

-- the look-up of fields that are known and of which each says something
pub said_by : (fields : Fields) (flags size vendor device subvendor subdevice class progif : ℕ) → are_known fields ≡ true → flags_said fields ≡ Some flags → size_said fields ≡ Some size
    → number_said (codes "vendor") fields ≡ Some vendor → number_said (codes "device") fields ≡ Some device
    → number_said (codes "subvendor") fields ≡ Some subvendor → number_said (codes "subdevice") fields ≡ Some subdevice
    → number_said (codes "class") fields ≡ Some class → progif_said fields ≡ Some progif
    → lookup_from fields ≡ Some (as_lookup (flags, record { vendor = vendor; device = device; subvendor = subvendor; subdevice = subdevice; class = class; progif = progif }, size))
unfolding lookup_from
said_by fields flags size vendor device subvendor subdevice class progif k f s v d sv sd c p = λ i. cond (not (k i) || list_any is_none (
    f i ∷ s i ∷ v i ∷ d i ∷ sv i ∷ sd i ∷ c i ∷ p i ∷ [])) None (Some (record {
      flags = unwrap_or (f i) 0;
      args = record {
        vendor = unwrap_or (v i) 0;
        device = unwrap_or (d i) 0;
        subvendor = unwrap_or (sv i) 0;
        subdevice = unwrap_or (sd i) 0;
        class = unwrap_or (c i) 0;
        progif = unwrap_or (p i) 0;
      };
      size = unwrap_or (s i) 0;
    }))

pub not_bad : (fields : Fields) (lookup : Lookup) → lookup_from fields ≡ Some lookup → are_bad fields ≡ true → ⊥
unfolding lookup_from
not_bad fields lookup said bad =
    let none : None ≡ Some lookup = sym (ap (λ b. cond b None (Some (lookup_said fields))) bad) ∙ said in
    absurd cc
