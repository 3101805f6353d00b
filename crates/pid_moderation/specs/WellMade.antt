-- What the parts of a command keep by their types, and what a file keeps by its reading.
use Rattle.std.specs.Prelude.{◌≡◌, ℕ, ◌≤◌, true, List, [], ◌∷◌, Option, Some, None, is_some, length}
use Rattle.pid_file.specs.PathTexts.{IsPath, IsTextOf}
use Rattle.pid_file.specs.Words.{is_name, is_text, is_account, is_key}
use Rattle.pid_file.specs.declared.path.Path.{Path}
use Rattle.pid_moderation.specs.declared.command.Proposal.{Proposal}
use Rattle.pid_moderation.specs.declared.command.Proposal.TheVariants.{Name, Removal}
use Rattle.pid_moderation.specs.History.{Reading, Deed, Ranks, Submits, Comments, Withdraws}
use Rattle.pid_moderation.specs.History.{Approves, Rejects, Imports, Asked}
use Rattle.pid_ident.specs.PathReading.{parent_text}
use Rattle.pid_moderation.specs.Items.{Items, name_at, holds_parent}
use Rattle.pid_moderation.specs.Views.{pairs_of}
use Rattle.pid_moderation.specs.CheckTables.{most_items}

-- a name at a path
abbrev pub IsItem : List ℕ → List ℕ → Type 0
IsItem path name = ((p : Path) × IsTextOf path p) × (is_name name ≡ true)

abbrev pub AllItems : Items → Type 0
AllItems [] = Unit {0}
AllItems (e ∷ items) = IsItem e.0 e.1 × AllItems items

-- the parent of each path is there
pub record HoldsParents (items : Items) : Type 0 where
  pub parents : (path : List ℕ) → is_some (name_at path items) ≡ true
      → holds_parent (parent_text path) items ≡ true

-- no path comes twice
abbrev pub AreApart : Items → Type 0
AreApart [] = Unit {0}
AreApart (e ∷ pairs) = (name_at e.0 pairs ≡ None) × AreApart pairs

-- what a file reads to: names at paths, each path once, with the parent of each path, and not too
-- many
pub record IsFile (pairs : Items) : Type 0 where
  pub items : AllItems pairs
  pub apart : AreApart pairs
  pub tree : HoldsParents pairs
  pub limit : length pairs ≤ most_items

abbrev pub ProposesName : Proposal → Type 0
ProposesName (Name name) = is_name name ≡ true
ProposesName Removal = Unit {0}

abbrev pub HasGoodFile : Reading → Type 0
HasGoodFile reading = IsFile (pairs_of reading)

abbrev pub IsWellMadeDeed : Deed → Type 0
IsWellMadeDeed (Ranks who rank) = is_account who ≡ true
IsWellMadeDeed (Submits path proposal note) = IsPath path × ProposesName proposal
    × (is_text note ≡ true)
IsWellMadeDeed (Comments number text) = is_text text ≡ true
IsWellMadeDeed (Withdraws number) = Unit {0}
IsWellMadeDeed (Approves number expected) = Unit {0}
IsWellMadeDeed (Rejects number reason) = is_text reason ≡ true
IsWellMadeDeed (Imports reading) = HasGoodFile reading

abbrev pub IsGoodKey : Option (List ℕ) → Type 0
IsGoodKey None = Unit {0}
IsGoodKey (Some key) = is_key key ≡ true

abbrev pub IsWellMade : Asked → Type 0
IsWellMade c = (is_account c.account ≡ true) × IsGoodKey c.key × IsWellMadeDeed c.deed

abbrev pub AreWellMade : List Asked → Type 0
AreWellMade [] = Unit {0}
AreWellMade (c ∷ cs) = IsWellMade c × AreWellMade cs
