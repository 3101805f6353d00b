-- Rows that are read one after the other.
use Rattle.std.proofs.Common.{◌≡◌, inl, inr, ℕ, zero, suc, ◌+◌, ◌<◌, List, [], ◌∷◌, ◌++◌, length, map, take, get_or, Ok, Err, Result, IsErrAnd, MatchResult, refl, ap, ◌∙◌, arith, add-one}
use Rattle.sqlite.specs.State.{State}
use Rattle.pid_moderation.specs.Views.{Views}
use Rattle.pid_tables.specs.declared.rows.fault.TableFault.{TableFault}
use Rattle.pid_tables.specs.Rows.Causes.{IsCaused, IsReadable}
use Rattle.pid_tables.specs.Rows.Steps.Unread.{IsDamagedRow}
use Rattle.pid_tables.proofs.OfRows.UnreadLemmas.{caused_unread}
use Rattle.sqlite.specs.Order.{Row}
use Rattle.sqlite_rules.specs.Lists.{Has}

module _ {X : Type 0} (f : X → Row) where
  pub record IsNext (xs : List X) (row : Row) (i : ℕ) : Type 0 where
    pub it : X
    pub there : Has xs it
    pub is : row ≡ f it
    pub more : take (i + 1) xs ≡ take i xs ++ it ∷ []

  found : (xs : List X) (rows : List Row) (i : ℕ) (d : Row) → rows ≡ map f xs → i < length rows → (x : X) × Has xs x × (get_or rows i d ≡ f x) × (take (suc i) xs ≡ take i xs ++ x ∷ [])
  found xs [] i d is low = absurd (omega (arith, low))
  found [] (r ∷ rows) i d is low = absurd (let bad : ⊥ = cc in bad)
  found (x ∷ xs) (r ∷ rows) zero d is low = (x, inl refl, head r (f x) rows (map f xs) is, refl)
    where
      head : (a b : Row) (more rest : List Row) → a ∷ more ≡ b ∷ rest → a ≡ b
      head a b more rest e = cc
  found (x ∷ xs) (r ∷ rows) (suc i) d is low =
      let it = found xs rows i d (tail r (f x) rows (map f xs) is) (omega (arith, low)) in
      (it.0, inr it.1, it.2, ap (λ l. x ∷ l) it.3)
    where
      tail : (a b : Row) (more rest : List Row) → a ∷ more ≡ b ∷ rest → more ≡ rest
      tail a b more rest e = cc

  -- the row at a place stands for the element there
  pub next_of : (xs : List X) (rows : List Row) (i : ℕ) (d : Row) → rows ≡ map f xs → i < length rows → IsNext xs (get_or rows i d) i
  next_of xs rows i d is low = let h = found xs rows i d is low in record { it = h.0; there = h.1; is = h.2; more = ap (λ k. take k xs) (add-one i) ∙ h.3 }

-- what rows that can be read do not tell, has a cause
pub read_or_caused : {X W : Type 0} (old new : State) (v : Views) (r : Result X TableFault) (P Q : X → Type 0) → (IsReadable v → W) → ((x : X) → P x → Q x) → MatchResult r P (IsDamagedRow W) → MatchResult r Q (λ fault. IsReadable v → IsCaused old new fault)
read_or_caused old new v (Ok x) P Q written more h = more x h
read_or_caused old new v (Err e) P Q written more h = λ readable. caused_unread old new e (written readable) h

-- ---- a second clause over the same read

-- what a value implies is so where the value is
pub on_value : {X : Type 0} (r : Result X TableFault) (P Q : X → Type 0) (R : TableFault → Type 0) → ((x : X) → P x → Q x) → MatchResult r P R → MatchResult r Q R
on_value (Ok x) P Q R says h = says x h
on_value (Err e) P Q R says h = h

-- a fault that is passed on is why, whatever a value would say
pub on_fault : {X : Type 0} (r : Result X TableFault) (e : TableFault) (P Q : X → Type 0) (R : TableFault → Type 0) → IsErrAnd r (λ y. y ≡ e) → MatchResult r P R → MatchResult r Q R
on_fault (Ok x) e P Q R bad h = absurd bad
on_fault (Err y) e P Q R bad h = h
