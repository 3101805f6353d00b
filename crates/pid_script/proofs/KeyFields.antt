-- The field of the key among the fields of a command.
use Rattle.std.proofs.Common.{◌≡◌, ℕ, zero, suc, ◌<◌, ◌≤◌, Bool, true, false, cond, List, [], ◌∷◌, length, Some, None, refl, sym, ap, ◌∙◌, arith, String, Vec, get_or, drop, subst}
use Rattle.std.specs.Prelude.{string_bytes, vec_len, nat_lt, codes, slice_get, ◌+◌, not}
use Rattle.std.specs.List.{position, position_or_len, remove}
use Rattle.std.specs.Str.{bytes_eq}
use Rattle.std.proofs.lemmas.Bool.Decides.{nat_tests}
use Rattle.std.proofs.lemmas.List.Folds.{find_at}
use Rattle.pid_moderation.specs.Fields.{texts_of, value}
use Rattle.pid_form.proofs.FieldTexts.{value_found, value_missing}
use Rattle.pid_script.specs.Asking.{is_key_field, other_fields}

abbrev pub is_key : {A : Type 0} → String A × String A → Bool
is_key f = bytes_eq (string_bytes f.0) (codes "key")

place_same : {A : Type 0} (fs : List (String A × String A)) → position_or_len is_key_field (texts_of fs) ≡ position_or_len is_key fs
place_same [] = refl
place_same (f ∷ fs) = ap (λ n. cond (not (is_key f)) (1 + n) 0) (place_same fs)

texts_removed : {A : Type 0} (fs : List (String A × String A)) (i : ℕ) → texts_of (remove fs i) ≡ remove (texts_of fs) i
texts_removed [] zero = refl
texts_removed [] (suc i) = refl
texts_removed (f ∷ fs) zero = refl
texts_removed (f ∷ fs) (suc i) = ap (λ l. (string_bytes f.0, string_bytes f.1) ∷ l) (texts_removed fs i)

none_removed : {X : Type 0} (xs : List X) (i : ℕ) → length xs ≤ i → remove xs i ≡ xs
none_removed [] zero h = refl
none_removed [] (suc i) h = refl
none_removed (x ∷ xs) zero h = absurd (omega arith)
none_removed (x ∷ xs) (suc i) h = ap (λ l. x ∷ l) (none_removed xs i (omega arith))

some_place : (n m i : ℕ) (b : Bool) → nat_lt n m ≡ b → cond b (Some n) None ≡ Some i → (n ≡ i) × (n < m)
some_place n m i true e h = (cc, grind (arith, nat_tests))
some_place n m i false e h = absurd cc

no_place : (n m : ℕ) (b : Bool) → nat_lt n m ≡ b → cond b (Some n) None ≡ None → m ≤ n
no_place n m true e h = absurd cc
no_place n m false e h = grind (arith, nat_tests)

pub others_at : {A : Type 0} (fs : List (String A × String A)) (i : ℕ) → position is_key fs ≡ Some i → texts_of (remove fs i) ≡ other_fields (texts_of fs)
others_at fs i h = texts_removed fs i ∙ ap (remove (texts_of fs)) (sym (some_place _ _ i _ refl h).0 ∙ sym (place_same fs))

pub others_all : {A : Type 0} (fs : List (String A × String A)) → position is_key fs ≡ None → texts_of fs ≡ other_fields (texts_of fs)
others_all fs h = ap texts_of (sym (none_removed fs (position_or_len is_key fs) (no_place _ _ _ refl h))) ∙ texts_removed fs _ ∙ ap (remove (texts_of fs)) (sym (place_same fs))

pub key_none : {A : Type 0} (fs : List (String A × String A)) → position is_key fs ≡ None → value (codes "key") (texts_of fs) ≡ None
key_none fs h = value_missing (codes "key") fs (find_at is_key fs ∙ beyond fs _ (no_place _ _ _ refl h))
  where
    beyond : {X : Type 0} (xs : List X) (i : ℕ) → length xs ≤ i → slice_get xs i ≡ None
    beyond [] i h = refl
    beyond (x ∷ xs) zero h = absurd (omega arith)
    beyond (x ∷ xs) (suc i) h = beyond xs i (omega arith)

got : {X : Type 0} (xs : List X) (i : ℕ) (x : X) → i < length xs → x ≡ get_or xs i x → slice_get xs i ≡ Some x
got [] i x h e = absurd (omega arith)
got (y ∷ ys) zero x h e = ap Some (sym e)
got (y ∷ ys) (suc i) x h e = got ys i x (omega arith) e

pub key_at : {A : Type 0} (fs : List (String A × String A)) (f : String A × String A) (i : ℕ) → position is_key fs ≡ Some i → f ≡ get_or fs i f → value (codes "key") (texts_of fs) ≡ Some (string_bytes f.1)
key_at fs f i h is =
    let place = some_place _ _ i _ refl h in
    value_found (codes "key") fs f (find_at is_key fs ∙ ap (slice_get fs) place.0 ∙ got fs i f (subst (λ n. n < length fs) place.0 place.1) is)

-- THE WALK THAT FINDS IT

here : {A : Type 0} (fs : List (String A × String A)) (i : ℕ) (f : String A × String A) → i < length fs → f ≡ get_or fs i f → is_key f ≡ true → position_or_len is_key (drop i fs) ≡ 0
here [] i f h e k = absurd (omega arith)
here (g ∷ gs) zero f h e k = ap (λ b. cond (not b) (1 + position_or_len is_key gs) 0) (ap is_key (sym e) ∙ k)
here (g ∷ gs) (suc i) f h e k = here gs i f (omega arith) e k

behind_all : {A : Type 0} (fs : List (String A × String A)) (i : ℕ) → length fs ≤ i → position_or_len is_key (drop i fs) ≡ 0
behind_all [] zero h = refl
behind_all [] (suc i) h = refl
behind_all (g ∷ gs) zero h = absurd (omega arith)
behind_all (g ∷ gs) (suc i) h = behind_all gs i (omega arith)

next : {A : Type 0} (fs : List (String A × String A)) (i : ℕ) (f : String A × String A) → i < length fs → f ≡ get_or fs i f → is_key f ≡ false → position_or_len is_key (drop i fs) ≡ 1 + position_or_len is_key (drop (i + 1) fs)
next [] i f h e k = absurd (omega arith)
next (g ∷ gs) zero f h e k = ap (λ b. cond (not b) (1 + position_or_len is_key gs) 0) (ap is_key (sym e) ∙ k)
next (g ∷ gs) (suc i) f h e k =
    let more : suc (i + 1) ≡ suc i + 1 = omega arith in
    subst (λ n. position_or_len is_key (drop i gs) ≡ 1 + position_or_len is_key (drop n (g ∷ gs))) more (next gs i f (omega arith) e k)

pub none_yet : (n : ℕ) → n ≡ 0 + n
none_yet n = omega arith

one_on : (p i j k : ℕ) → p ≡ i + j → j ≡ 1 + k → p ≡ (i + 1) + k
one_on p i j k e z = omega arith

place_is : (p n i : ℕ) → p ≡ i → i < n → cond (nat_lt p n) (Some p) None ≡ Some i
place_is p n i e h = let less : nat_lt p n ≡ true = grind (arith, nat_tests, e, h) in ap (λ b. cond b (Some p) None) less ∙ ap Some e

no_place_is : (p n : ℕ) → n ≤ p → cond (nat_lt p n) (Some p) None ≡ None
no_place_is p n h = let not_less : nat_lt p n ≡ false = grind (arith, nat_tests, h) in ap (λ b. cond b (Some p) None) not_less

added_none : (p i k : ℕ) → p ≡ i + k → k ≡ 0 → p ≡ i
added_none p i k e z = omega arith

in_vec : {X A : Type 0} (v : Vec X A) (i n : ℕ) → n ≡ vec_len v → i < n → i < length v.items
in_vec v i n e h = omega arith

all_of : {X A : Type 0} (v : Vec X A) (i n : ℕ) → n ≡ vec_len v → n ≤ i → length v.items ≤ i
all_of v i n e h = omega arith

pub key_place : {A : Type 0} (v : Vec (String A × String A) A) (i n : ℕ) (f : String A × String A) (word : List ℕ) → n ≡ vec_len v → i < n → position_or_len is_key v.items ≡ i + position_or_len is_key (drop i v.items) → f ≡ get_or v.items i f → word ≡ string_bytes f.0 → true ≡ bytes_eq word (codes "key") → position is_key v.items ≡ Some i
key_place v i n f word e h so_far is named key =
    let less = in_vec v i n e h in
    place_is (position_or_len is_key v.items) (length v.items) i (added_none _ i _ so_far (here v.items i f less is (ap (λ w. bytes_eq w (codes "key")) (sym named) ∙ sym key))) less

pub no_key : {A : Type 0} (v : Vec (String A × String A) A) (i n : ℕ) → n ≡ vec_len v → n ≤ i → position_or_len is_key v.items ≡ i + position_or_len is_key (drop i v.items) → position is_key v.items ≡ None
no_key v i n e h so_far =
    let all = all_of v i n e h in
    no_place_is (position_or_len is_key v.items) (length v.items) (from_all (added_none _ i _ so_far (behind_all v.items i all)) all)
  where
    from_all : {p n i : ℕ} → p ≡ i → n ≤ i → n ≤ p
    from_all e h = omega (arith, e, h)

pub key_on : {A : Type 0} (v : Vec (String A × String A) A) (i n : ℕ) (f : String A × String A) (word : List ℕ) → n ≡ vec_len v → i < n → position_or_len is_key v.items ≡ i + position_or_len is_key (drop i v.items) → f ≡ get_or v.items i f → word ≡ string_bytes f.0 → false ≡ bytes_eq word (codes "key") → position_or_len is_key v.items ≡ (i + 1) + position_or_len is_key (drop (i + 1) v.items)
key_on v i n f word e h so_far is named key =
    one_on _ i _ _ so_far (next v.items i f (in_vec v i n e h) is (ap (λ w. bytes_eq w (codes "key")) (sym named) ∙ sym key))
