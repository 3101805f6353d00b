-- What parse reads of decimal digits without a zero in front.
use Rattle.std.proofs.Common.{◌≡◌, ℕ, Bool, true, false, cond, List, [], ◌∷◌, Some, None, refl, sym, ap, subst, ◌∙◌, arith}
use Rattle.std.specs.Prelude.{◌&&◌, nat_le, ◌<◌, ◌^◌, drop, ◌==◌}
use Rattle.std.specs.List.{list_all}
use Rattle.std.specs.Str.Parse.{IsNumeral, AllDigits, digits_value, without_leading_plus}
use Rattle.std.specs.Char.{is_ascii_digit, digit_value}
use Rattle.std.proofs.lemmas.Bool.Decides.{nat_tests}
use Rattle.pid_form.specs.Numbers.{is_plain_number, number_up_to}

both : (a b : Bool) → (a && b) ≡ true → (a ≡ true) × (b ≡ true)
both true b h = (refl, h)
both false b h = absurd cc

digit_below : (c : ℕ) → is_ascii_digit c ≡ true → (digit_value c < 10) × ((c == 43) ≡ false)
digit_below c h = (grind (arith, nat_tests), grind (arith, nat_tests))

all_digits : (t : List ℕ) → list_all is_ascii_digit t ≡ true → AllDigits 10 t
all_digits [] h = tt
all_digits (c ∷ cs) h = let p = both (is_ascii_digit c) (list_all is_ascii_digit cs) h in ((digit_below c p.0).0, all_digits cs p.1)

plain_numeral : (digits : ℕ) (t : List ℕ) → is_plain_number digits t ≡ true → IsNumeral 10 (without_leading_plus t) × (without_leading_plus t ≡ t)
plain_numeral digits [] h = absurd cc
plain_numeral digits (c ∷ cs) h =
    let all : list_all is_ascii_digit (c ∷ cs) ≡ true = (both _ _ (both _ _ h).0).1 in
    let first : (c == 43) ≡ false = (digit_below c (both (is_ascii_digit c) (list_all is_ascii_digit cs) all).0).1 in
    let same : without_leading_plus (c ∷ cs) ≡ c ∷ cs = ap (λ b. drop (cond b 1 0) (c ∷ cs)) first in
    (subst (λ (t : List ℕ). IsNumeral 10 t) (sym same) (omega arith, all_digits (c ∷ cs) all), same)

too_great : (most limit : ℕ) (t : List ℕ) (b : Bool) → most < limit → nat_le (digits_value 10 t) most ≡ b → (digits_value 10 t < limit → ⊥) → None ≡ cond b (Some (digits_value 10 t)) None
too_great most limit t true fits e h = absurd (h (grind (arith, nat_tests)))
too_great most limit t false fits e h = refl

-- what is not read is no number within the bound
pub number_missing : (digits most limit : ℕ) (t : List ℕ) → most < limit → is_plain_number digits t ≡ true → (IsNumeral 10 (without_leading_plus t) × (digits_value 10 (without_leading_plus t) < limit) → ⊥) → None ≡ number_up_to most digits t
number_missing digits most limit t fits plain none =
    let p = plain_numeral digits t plain in
    too_great most limit t (nat_le (digits_value 10 t) most) fits refl (λ below. none (p.0, subst (λ (s : List ℕ). digits_value 10 s < limit) (sym p.1) below)) ∙ ap (λ b. cond (b && nat_le (digits_value 10 t) most) (Some (digits_value 10 t)) None) (sym plain)
