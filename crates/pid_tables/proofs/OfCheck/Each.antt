-- Rows by their places in a list, and as members of it.
use Rattle.std.proofs.Common.{◌≡◌, inl, inr, ℕ, zero, suc, ◌+◌, ◌<◌, List, [], ◌∷◌, length, get_or, Ok, Err, Result, IfOk, refl, sym, subst, ◌∙◌, arith}
use Rattle.std.specs.List.{Any}
use Rattle.sqlite_rules.specs.Lists.{Has}
use Rattle.pid_tables.proofs.OfRows.Keys.{numbers_decided}

-- the place of a member
pub placed : {X : Type 0} (xs : List X) (x : X) → Has xs x → (i : ℕ) × (i < length xs) × (get_or xs i x ≡ x)
placed [] x h = absurd h
placed (y ∷ xs) x (inl same) = (0, omega arith, sym same)
placed (y ∷ xs) x (inr later) = let it = placed xs x later in (suc it.0, omega (arith, it.1), it.2)

pub at_place : {X : Type 0} (xs : List X) (i : ℕ) (d : X) → i < length xs → Has xs (get_or xs i d)
at_place [] i d less = absurd (omega (arith, less))
at_place (x ∷ xs) zero d less = inl refl
at_place (x ∷ xs) (suc i) d less = inr (at_place xs i d (omega (arith, less)))

pub some_member : {X : Type 0} (P : X → Type 0) (xs : List X) → Any P xs → (x : X) × Has xs x × P x
some_member P xs any = (any.1, subst (Has xs) any.3 (at_place xs any.0 any.1 any.2), any.4)

pub some_place : {X : Type 0} (P : X → Type 0) (xs : List X) (x : X) → Has xs x → P x → Any P xs
some_place P xs x h p = let it = placed xs x h in (it.0, x, it.1, it.2, p)

pub same_there : {X : Type 0} (xs : List X) (i : ℕ) (d e : X) → i < length xs → get_or xs i d ≡ get_or xs i e
same_there [] i d e less = absurd (omega (arith, less))
same_there (x ∷ xs) zero d e less = refl
same_there (x ∷ xs) (suc i) d e less = same_there xs i d e (omega (arith, less))

-- what holds of each place up to one holds with the next
pub one_more : {X : Type 0} (P : ℕ → X → Type 0) (xs : List X) (at : ℕ) (x : X) → at < length xs → x ≡ get_or xs at x → P at x → ((k : ℕ) (d : X) → k < at → P k (get_or xs k d)) → (k : ℕ) (d : X) → k < at + 1 → P k (get_or xs k d)
one_more P xs at x less is here before k d most = elim (numbers_decided k at) [
  | inl same ↦ subst (λ n. P n (get_or xs n d)) (sym same) (subst (P at) (is ∙ same_there xs at x d less) here)
  | inr other ↦ before k d (omega (arith, most, other))
]

pub if_ok : {X E : Type 0} {P Q : X → Type 0} (r : Result X E) → ((x : X) → P x → Q x) → IfOk r P → IfOk r Q
if_ok (Ok x) f h = f x h
if_ok (Err e) f h = tt
