-- Lists without repetitions, and their lengths.
use Rattle.std.proofs.Common.{◌≡◌, ◌≢◌, inl, inr, suc, ◌≤◌, List, [], ◌∷◌, length, map, true, Option, Some, None, refl, sym, ap, subst, ◌∙◌, arith}
use Rattle.std.specs.Prelude.{is_some}
use Rattle.std.specs.List.{AllByRecursion}
use Rattle.std.proofs.lemmas.List.{length-map}
use Rattle.sqlite.specs.Tree.{IsAscending}
use Rattle.sqlite_rules.specs.Lists.{Has}

pub some_there : {X : Type 0} (o : Option X) → is_some o ≡ true → (x : X) × (o ≡ Some x)
some_there None h = absurd cc
some_there (Some x) h = (x, refl)

-- the list without one of its elements
pub taken : {X : Type 0} (ys : List X) (x : X) → Has ys x → (rest : List X) × (length ys ≡ suc (length rest)) × ((z : X) → Has ys z → z ≢ x → Has rest z)
taken [] x h = absurd h
taken (y ∷ ys) x (inl same) = (ys, refl, λ z h other. elim h [ inl e ↦ absurd (other (e ∙ sym same)) | inr later ↦ later ])
taken (y ∷ ys) x (inr later) =
    let it = taken ys x later in
    (y ∷ it.0, ap suc it.1, λ z h other. elim h [ inl e ↦ inl e | inr after ↦ inr (it.2 z after other) ])

abbrev pub IsDistinct : {X : Type 0} → List X → Type 0
IsDistinct xs = IsAscending ◌≢◌ xs

not_in : {X : Type 0} (x : X) (xs : List X) → AllByRecursion (λ y. x ≢ y) xs → Has xs x → ⊥
not_in x [] all h = h
not_in x (y ∷ xs) all (inl same) = all.0 same
not_in x (y ∷ xs) all (inr later) = not_in x xs all.1 later

pub shorter : {X : Type 0} (xs ys : List X) → IsDistinct xs → ((x : X) → Has xs x → Has ys x) → length xs ≤ length ys
shorter [] ys once sub = omega arith
shorter (x ∷ xs) ys once sub =
    let it = taken ys x (sub x (inl refl)) in
    let rest = shorter xs it.0 once.1 (λ z h. it.2 z (sub z (inr h)) (λ same. not_in x xs once.0 (subst (Has xs) same h))) in
    omega (arith, it.1, rest)

pub mapped : {X Y : Type 0} (f : X → Y) (xs : List X) (x : X) → Has xs x → Has (map f xs) (f x)
mapped f [] x h = h
mapped f (y ∷ xs) x (inl same) = inl (ap f same)
mapped f (y ∷ xs) x (inr later) = inr (mapped f xs x later)

pub unmapped : {X Y : Type 0} (f : X → Y) (xs : List X) (y : Y) → Has (map f xs) y → (x : X) × Has xs x × (y ≡ f x)
unmapped f [] y h = absurd h
unmapped f (x ∷ xs) y (inl same) = (x, inl refl, same)
unmapped f (x ∷ xs) y (inr later) = let it = unmapped f xs y later in (it.0, inr it.1, it.2)

-- lists without repetitions whose elements have the same keys are of one length
pub same_length : {X Y K : Type 0} (f : X → K) (g : Y → K) (xs : List X) (ys : List Y) → IsDistinct (map f xs) → IsDistinct (map g ys)
    → ((x : X) → Has xs x → Has (map g ys) (f x)) → ((y : Y) → Has ys y → Has (map f xs) (g y)) → length xs ≡ length ys
same_length f g xs ys one two there back =
    let first = shorter (map f xs) (map g ys) one (λ k h. let it = unmapped f xs k h in subst (Has (map g ys)) (sym it.2) (there it.0 it.1)) in
    let second = shorter (map g ys) (map f xs) two (λ k h. let it = unmapped g ys k h in subst (Has (map f xs)) (sym it.2) (back it.0 it.1)) in
    omega (arith, first, second, length-map xs f, length-map ys g)
