-- The authors of submissions by the places of their names, and what receipts say by them.
use Rattle.std.specs.Prelude.{◌≡◌, ◌⊎◌, ◌↔◌, ◌+◌, ◌≤◌, ◌<◌, ℕ, suc, true, cond, List, Some, IsUtf8, String}
use Rattle.std.specs.declared.alloc.Global.{Global}
use Rattle.std.specs.List.{slice_get}
use Rattle.std.specs.Ordering.{is_eq}
use Rattle.std.specs.BTreeSet.{BTreeSet, contains}
use Rattle.std.specs.BTreeMap.{BTreeMap, btree_map_len, get_by_text}
use Rattle.sqlite.specs.declared.types.Value.TheVariants.{Text}
use Rattle.sqlite.specs.Order.{Row, column}
use Rattle.sqlite_rules.specs.Lists.{Has}
use Rattle.pid_ident.specs.Trees.{text_cmp}
use Rattle.pid_moderation.specs.CheckTables.{most_items}
use Rattle.pid_moderation.specs.declared.command.Reply.{Reply}
use Rattle.pid_tables.specs.Rows.TableRows.{number, reply_kind, first_number, second_number}
use Rattle.pid_tables.specs.Rows.TableRows.{third_number}
use Rattle.pid_tables.specs.declared.check.authors.Authors.{Authors}
use Rattle.pid_tables.specs.Check.Steps.PlaceSets.{pair_cmp}
use Rattle.pid_tables.specs.Check.Conditions.{IsOwn}

-- ---- names and their places

abbrev pub Names : Type 0
Names = BTreeMap (String Global) ℕ

-- no two names have one place
pub record ArePlaces (names : Names) : Type 0 where
  pub bound : (text : List ℕ) (k : ℕ) → get_by_text names text ≡ Some k → k < btree_map_len names
  pub apart : (a b : List ℕ) (k : ℕ) → get_by_text names a ≡ Some k
      → get_by_text names b ≡ Some k → a ≡ b

-- a name is added
pub record AddsName (old new : Names) (name : List ℕ) (place : ℕ) : Type 0 where
  pub looked : (text : List ℕ) → get_by_text new text
      ≡ cond (is_eq (text_cmp text name)) (Some place) (get_by_text old text)
  pub longer : btree_map_len new ≡ suc (btree_map_len old)

-- the name has the place, and the others have what they had
pub record PlacesName (old new : Names) (name : List ℕ) (place : ℕ) : Type 0 where
  pub there : get_by_text new name ≡ Some place
  pub kept : (text : List ℕ) (k : ℕ) → get_by_text old text ≡ Some k → get_by_text new text ≡ Some k
  pub places : ArePlaces old → ArePlaces new

-- ---- submissions and the places of their authors

abbrev pub IsInTurn : List ℕ → ℕ → ℕ → Type 0
IsInTurn turn n k = (i : ℕ) × (n ≡ suc i) × (slice_get turn i ≡ Some k)

abbrev pub HasPlace : List ℕ → BTreeSet (ℕ × ℕ) → ℕ → ℕ → Type 0
HasPlace turn others n k = IsInTurn turn n k ⊎ (contains pair_cmp others (n, k) ≡ true)

-- some submission has the number and the author
abbrev pub IsByAuthor : List Row → ℕ → List ℕ → Type 0
IsByAuthor rows n author = (r : Row) × Has rows r × (column r 0 ≡ number n)
    × (column r 1 ≡ Text author)

-- a submission has the number, and the place of this name
abbrev pub IsKeptBy : Authors → ℕ → List ℕ → Type 0
IsKeptBy it n account = (k : ℕ) × (get_by_text it.names account ≡ Some k)
    × HasPlace it.turn.items it.others n k

-- these are exactly the numbers and authors of the rows
pub record AreAuthorsOf (it : Authors) (rows : List Row) : Type 0 where
  pub places : ArePlaces it.names
  pub known : (n k : ℕ) → HasPlace it.turn.items it.others n k
      → (text : List ℕ) × (get_by_text it.names text ≡ Some k)
  pub by : (n : ℕ) (account : List ℕ) → IsUtf8 account → IsKeptBy it n account
      ↔ IsByAuthor rows n account

-- the row has a reply that is the account's own
abbrev pub HasReply : List Row → Row → List ℕ → Type 0
HasReply submissions r account =
    (reply : Reply) × (column r 2 ≡ number (reply_kind reply))
    × (column r 3 ≡ number (first_number reply))
    × (column r 4 ≡ number (second_number reply)) × (column r 5 ≡ number (third_number reply))
    × IsOwn submissions account reply

-- the row has the number of a submission of the account
abbrev pub IsNumbered : List Row → Row → List ℕ → Type 0
IsNumbered submissions r account = (n : ℕ) × (column r 3 ≡ number n) × (column r 4 ≡ number 0)
    × (column r 5 ≡ number 0) × IsByAuthor submissions n account

-- the row has counts that a file may have
abbrev pub HasCounts : Row → Type 0
HasCounts r = (a : ℕ) × (b : ℕ) × (c : ℕ) × (column r 3 ≡ number a) × (column r 4 ≡ number b)
    × (column r 5 ≡ number c) × (a + b + c ≤ most_items)
