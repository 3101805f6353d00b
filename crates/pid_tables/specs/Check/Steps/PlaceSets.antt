-- The places of remarks as a set, and what makes a row a remark's.
use Rattle.std.specs.Prelude.{◌≡◌, ◌↔◌, ◌≤◌, ℕ, suc, true, false, List, [], ◌∷◌}
use Rattle.std.specs.declared.cmp.Ordering.{Ordering}
use Rattle.std.specs.Ordering.{nat_cmp, ordering_then}
use Rattle.std.specs.BTreeSet.{BTreeSet, contains}
use Rattle.sqlite.specs.declared.types.Value.TheVariants.{Text}
use Rattle.sqlite.specs.Order.{Row}
use Rattle.pid_ident.specs.Bytes.{is_empty}
use Rattle.pid_ident.specs.Words.{is_text}
use Rattle.pid_moderation.specs.CheckTables.{most_remarks}
use Rattle.pid_tables.specs.Rows.TableRows.{number}
use Rattle.pid_tables.specs.Check.Conditions.{HasRemark}

-- pairs of numbers, by the first and then by the second
abbrev pub pair_cmp : ℕ × ℕ → ℕ × ℕ → Ordering
pair_cmp x y = ordering_then (nat_cmp x.0 y.0) (nat_cmp x.1 y.1)

-- the set has exactly the numbers and places of the rows
abbrev pub ArePlacesOf : BTreeSet (ℕ × ℕ) → List Row → Type 0
ArePlacesOf places rows = (num place : ℕ)
    → (contains pair_cmp places (num, place) ≡ true) ↔ HasRemark rows num place

-- the place is the first, or the one before it is in the set
abbrev pub FollowsPlace : BTreeSet (ℕ × ℕ) → ℕ → ℕ → Type 0
FollowsPlace places num place = (1 ≤ place) × (place ≤ most_remarks)
    × ((earlier : ℕ) → 1 ≤ earlier → place ≡ suc earlier
    → contains pair_cmp places (num, earlier) ≡ true)

-- each place of the set follows another one there, or is the first
abbrev pub FollowEach : BTreeSet (ℕ × ℕ) → Type 0
FollowEach places = (at : ℕ × ℕ) → contains pair_cmp places at ≡ true
    → FollowsPlace places at.0 at.1

-- a remark, whatever its place
pub record IsRemark (r : Row) : Type 0 where
  pub num : ℕ
  pub place : ℕ
  pub author : List ℕ
  pub body : List ℕ
  pub is : r ≡ number num ∷ number place ∷ Text author ∷ Text body ∷ []
  pub text : is_text body ≡ true
  pub filled : is_empty body ≡ false
