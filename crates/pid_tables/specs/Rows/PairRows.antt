-- A table that keeps a finite map has one row for each pair of the map.
use Rattle.std.specs.Prelude.{◌≡◌, ℤ, List, Option, Some}
use Rattle.sqlite.specs.Order.{Row}
use Rattle.sqlite.specs.Tree.{IsTable}
use Rattle.sqlite_rules.specs.Lists.{Has}

-- a map by what it finds at a key
abbrev pub Map : Type 0 → Type 0 → Type 0
Map K V = K → Option V

module _ {K V : Type 0} (row : ℤ → K → V → Row) (map : Map K V) where
  -- the row is that of one pair
  pub record IsPairRow (r : Row) : Type 0 where
    pub id : ℤ
    pub key : K
    pub value : V
    pub is : r ≡ row id key value
    pub maps : map key ≡ Some value

  -- the rows are exactly the pairs; their rowids, which mean nothing else, rise
  pub record RowsAre (rows : List Row) : Type 0 where
    pub ordered : IsTable rows
    pub sound : (r : Row) → Has rows r → IsPairRow r
    pub complete : (key : K) (value : V) → map key ≡ Some value
        → (id : ℤ) × Has rows (row id key value)
