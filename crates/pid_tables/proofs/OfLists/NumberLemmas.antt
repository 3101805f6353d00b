-- Submissions that are read by their numbers.
use Rattle.std.proofs.Common.{◌≡◌, inl, inr, ℕ, zero, suc, ◌+◌, ◌<◌, List, Option, [], ◌∷◌, ◌++◌, length, map, take, get_or, Some, Ok, Err, Result, MatchResult, OnOk, IfErr, refl, sym, ap, subst, ◌∙◌, arith, add-one}
use Rattle.std.specs.Prelude.{option_map}
use Rattle.std.specs.List.{filter_map, cons_option}
use Rattle.std.proofs.lemmas.List.{map-append}
use Rattle.std.proofs.lemmas.List.Elements.{filter_map-append}
use Rattle.sqlite.specs.State.{State}
use Rattle.sqlite_rules.specs.Lists.{Has}
use Rattle.pid_moderation.specs.Submissions.{Standing, standing_in}
use Rattle.pid_moderation.specs.Views.{Views}
use Rattle.pid_tables.specs.Rows.Causes.{IsCaused, IsReadable}
use Rattle.pid_tables.specs.Rows.Steps.Unread.{IsDamagedRow}
use Rattle.pid_tables.specs.declared.rows.fault.TableFault.{TableFault}
use Rattle.pid_tables.specs.declared.rows.fault.TableFault.TheVariants.{Memory}
use Rattle.pid_tables.specs.Lists.ByNumber.{standing_at, standings_at}

pub nothing_left : {X : Type 0} (l : List X) → length l ≡ 0 → l ≡ []
nothing_left [] h = refl
nothing_left (x ∷ xs) h = absurd (omega arith)

taken_more : (numbers : List ℕ) (i d : ℕ) → i < length numbers → take (suc i) numbers ≡ take i numbers ++ get_or numbers i d ∷ []
taken_more [] i d low = absurd (omega (arith, low))
taken_more (n ∷ numbers) zero d low = refl
taken_more (n ∷ numbers) (suc i) d low = ap (λ l. n ∷ l) (taken_more numbers i d (omega (arith, low)))

-- those with one number more
one_more : (v : Views) (numbers : List ℕ) (i number d : ℕ) → number ≡ get_or numbers i d → i < length numbers
    → standings_at (take i numbers) v ++ standings_at (number ∷ []) v ≡ standings_at (take (i + 1) numbers) v
one_more v numbers i number d is low =
    sym (filter_map-append (standing_at v) (take i numbers) (number ∷ []))
    ∙ ap (filter_map (standing_at v)) (ap (λ n. take i numbers ++ n ∷ []) is ∙ sym (taken_more numbers i d low) ∙ ap (λ k. take k numbers) (sym (add-one i)))

pub more_there : (v : Views) (numbers : List ℕ) (i number d : ℕ) (old new : List (ℕ × Standing)) → number ≡ get_or numbers i d → i < length numbers
    → new ≡ old ++ standings_at (number ∷ []) v → old ≡ standings_at (take i numbers) v → new ≡ standings_at (take (i + 1) numbers) v
more_there v numbers i number d old new is low one before =
    one ∙ ap (λ l. l ++ standings_at (number ∷ []) v) before ∙ one_more v numbers i number d is low

-- ---- what a call answers

-- an element was added, or there was no memory
pub kept_one : {X Y : Type 0} (f : X → Y) (was now : List X) (x : X) (more : List Y) (r : Result (Unit {0}) TableFault) (old new : State) (v : Views) → OnOk r (now ≡ was ++ x ∷ []) → IfErr r (λ fault. fault ≡ Memory) → f x ∷ [] ≡ more
    → MatchResult r (λ _. map f now ≡ map f was ++ more) (λ fault. IsReadable v → IsCaused old new fault)
kept_one f was now x more (Ok u) old new v added full same = ap (map f) added ∙ map-append f was (x ∷ []) ∙ ap (λ l. map f was ++ l) same
kept_one f was now x more (Err e) old new v added full same = λ readable. subst (IsCaused old new) (sym full) tt

-- the same of an element that a row stands for
pub kept_row : {X Y : Type 0} (Written : Type 0) (f : X → Y) (was now : List X) (x : X) (y : Y) (r : Result (Unit {0}) TableFault) → OnOk r (now ≡ was ++ x ∷ []) → IfErr r (λ fault. fault ≡ Memory) → f x ≡ y
    → MatchResult r (λ _. map f now ≡ map f was ++ y ∷ []) (IsDamagedRow Written)
kept_row Written f was now x y (Ok u) added full same = ap (map f) added ∙ map-append f was (x ∷ []) ∙ ap (λ z. map f was ++ z ∷ []) same
kept_row Written f was now x y (Err e) added full same = subst (IsDamagedRow Written) (sym full) tt

-- what there is by one number
pub by_number : (v : Views) (number : ℕ) (found : Option Standing) → found ≡ standing_in v number → cons_option (option_map (λ (s : Standing). (number, s)) found) [] ≡ standings_at (number ∷ []) v
by_number v number found is = ap (λ o. cons_option (option_map (λ (s : Standing). (number, s)) o) []) is

-- those that are there, read by their numbers
pub read_again : (v : Views) (all : List (ℕ × Standing)) → ((e : ℕ × Standing) → Has all e → standing_in v e.0 ≡ Some e.1) → standings_at (map (λ (e : ℕ × Standing). e.0) all) v ≡ all
read_again v [] there = refl
read_again v (x ∷ all) there =
    ap (λ o. cons_option (option_map (λ (s : Standing). (x.0, s)) o) (standings_at (map (λ (e : ℕ × Standing). e.0) all) v)) (there x (inl refl))
    ∙ ap (λ l. x ∷ l) (read_again v all (λ e h. there e (inr h)))
