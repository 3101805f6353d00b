-- What the getters make of the values that were given.
use Rattle.std.proofs.Common.{◌≡◌, ◌&&◌, ◌^◌, ℕ, Bool, true, false, List, [], ◌∷◌, length, Option, Some, None, Result, Ok, Err, refl, sym, ap}
use mathlib.Core.Bool.{true≢false}
use Rattle.std.proofs.lemmas.Bool.{lt-ltb, ltb-true}
use Rattle.std.specs.Borrow.{Bor}
use Rattle.std.specs.Char.{digit_value}
use Rattle.std.specs.List.{list_all}
use Rattle.std.specs.Option.{option_map, option_map_or, unwrap_or}
use Rattle.std.specs.Prelude.{is_some, nat_lt}
use Rattle.std.specs.Str.Parse.{AllDigits, ParsesUnsigned, ExplainsUnsignedError, HasUnsignedDigitsIfOk, digits_value, without_leading_plus}
use Rattle.std.specs.declared.num.ParseIntError.{ParseIntError}
use Rattle.clap.specs.Matches.{ReadsOne}
use Rattle.clap.specs.Walk.{Text}
use Rattle.pid_cli_args.specs.Jobs.{number_written}

pub unwrapped : (o : Option (Bor Text)) (other : Bor Text) → (unwrap_or o other).now ≡ unwrap_or (option_map (λ s. s.now) o) other.now
unwrapped None other = refl
unwrapped (Some text) other = refl

digits_pass : (ds : List ℕ) → AllDigits 10 ds → list_all (λ d. nat_lt (digit_value d) 10) ds ≡ true
digits_pass [] h = refl
digits_pass (d ∷ ds) h = rw (lt-ltb (digit_value d) 10 h.0) (digits_pass ds h.1)

both : (a b : Bool) → (a && b) ≡ true → (a ≡ true) × (b ≡ true)
both true b e = (refl, e)
both false b e = absurd (true≢false (sym e))

digits_from : (ds : List ℕ) → list_all (λ d. nat_lt (digit_value d) 10) ds ≡ true → AllDigits 10 ds
digits_from [] e = tt
digits_from (d ∷ ds) e =
    let parts = both _ _ e in
    (ltb-true _ _ parts.0, digits_from ds parts.1)

abbrev is_number : ℕ → List ℕ → Bool
is_number bits ds = nat_lt 0 (length ds) && list_all (λ d. nat_lt (digit_value d) 10) ds && nat_lt (digits_value 10 ds) (2 ^ bits)

-- a number that was read is the one that is written
number_read : (E : Type 0) (bits : ℕ) (text : Text) (n : ℕ) → ParsesUnsigned {E = E} bits 10 text (Ok n) → n ≡ number_written bits text
number_read E bits text n h =
    let ds = without_leading_plus text in
    rw (lt-ltb 0 (length ds) h.0.0.0, digits_pass ds h.0.0.1, lt-ltb (digits_value 10 ds) (2 ^ bits) h.0.1) h.1

-- where none was read, none is written
none_read : {E : Type 0} (bits : ℕ) (text : Text) (e : E) → ParsesUnsigned bits 10 text (Err e) → 0 ≡ number_written bits text
none_read bits text e h = go (is_number bits (without_leading_plus text)) refl
  where
    go : (b : Bool) → is_number bits (without_leading_plus text) ≡ b → 0 ≡ number_written bits text
    go false t = rw t refl
    go true t =
        let outer = both _ _ t in
        let inner = both _ _ outer.0 in
        absurd (h ((ltb-true _ _ inner.0, digits_from (without_leading_plus text) inner.1), ltb-true _ _ outer.1))

-- what the text of a number is read as, by std
abbrev reads : ℕ → List ℕ → Result ℕ ParseIntError → Type 0
reads bits t r = ParsesUnsigned bits 10 t r × ExplainsUnsignedError 10 t r × HasUnsignedDigitsIfOk t r

pub number_got : (bits : ℕ) (text : Option Text) (o : Option ℕ) → (text ≡ None → o ≡ None) → ((t : List ℕ) → text ≡ Some t → ReadsOne (reads bits) t o) → unwrap_or o 0 ≡ option_map_or (number_written bits) text 0
number_got bits None o none value = rw (none refl) refl
number_got bits (Some t) (Some v) none value =
    let read : reads bits t (Ok v) = value t refl in
    number_read ParseIntError bits t v read.0
number_got bits (Some t) None none value =
    let read : (e : ParseIntError) × reads bits t (Err e) = value t refl in
    none_read bits t read.0 read.1.0

-- a name and rows that a pair has, one by one
pub pairs : {X A B : Type 0} (f : X → A) (g : X → B) (o : Option X) (a : A) (b : B) → Some a ≡ option_map f o → Some b ≡ option_map (λ (p : A × B). p.1) (option_map {T = X} {U = A × B} (λ x. (f x, g x)) o)
    → option_map {T = X} {U = A × B} (λ x. (f x, g x)) o ≡ Some (a, b)
pairs f g None a b name rows = absurd (true≢false (ap is_some name))
pairs f g (Some x) a b name rows =
    let first : a ≡ f x = ap (λ o. unwrap_or o a) name in
    let second : b ≡ g x = ap (λ o. unwrap_or o b) rows in
    λ i. Some (sym first i, sym second i)
