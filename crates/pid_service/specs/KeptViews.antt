-- What a registry keeps in memory of what is asked for again and again.
use Rattle.std.specs.Prelude.{◌≡◌, ◌<◌, ℕ, length, List, [], Option, None, IfSome, Vec, map}
use Rattle.std.specs.declared.alloc.Global.{Global}
use Rattle.pid_moderation.specs.ChangePages.{changed_after, changed_of}
use Rattle.pid_moderation.specs.Children.{children_of}
use Rattle.pid_moderation.specs.History.{History}
use Rattle.pid_moderation.specs.ItemPairs.{pair_of}
use Rattle.pid_moderation.specs.Items.{Items, name_at}
use Rattle.pid_moderation.specs.PendingPages.{pending_above}
use Rattle.pid_moderation.specs.Submissions.{Standing}
use Rattle.pid_moderation.specs.Views.{Views, views_of}
use Rattle.pid_moderation.specs.declared.lists.Item.{Item}
use Rattle.pid_moderation.specs.declared.lists.TheConstants.{PAGE}
use Rattle.pid_lookup.specs.CacheAgreement.{Agrees}
use Rattle.pid_tables.specs.Rows.Accounts.{HasAccounts}
use Rattle.pid_tables.specs.declared.database.Database.{Ghosts}
use Rattle.pid_service.specs.declared.changes.KeptChanges.{KeptChanges}
use Rattle.pid_service.specs.declared.kept_text.Extent.{Extent}
use Rattle.pid_service.specs.declared.kept_text.KeptText.{KeptText}
use Rattle.pid_service.specs.declared.kept_views.KeptItems.{KeptItems}
use Rattle.pid_service.specs.declared.kept_views.KeptViews.{KeptViews}
use Rattle.pid_service.specs.declared.registry.Registry.{Registry}
use Rattle.pid_tables.specs.declared.searches.numbers.Searches.TheVariants.{Unread}
use Rattle.pid_service.specs.ItemTexts.{extents_after, text_of_items}
use Rattle.pid_file.specs.PathTexts.{path_text}
use Rattle.pid_tables.specs.Searches.KeptNumbers.{HoldsNumbers}
use Rattle.pid_service.specs.Registries.{HasCleanDisk}

-- what it keeps
abbrev pub kept_views : {S : Type 0} {database : Ghosts S} → Registry S database → KeptViews
kept_views r = r.kept

-- what it keeps of the items
abbrev pub kept_by : {S : Type 0} {database : Ghosts S} → Registry S database → KeptItems
kept_by r = r.kept.items

-- no name and no text
abbrev pub nothing : KeptItems
nothing = record { names = []; text = None }

-- the text of a path with the length of its lines
abbrev pub extent_in : Extent → List ℕ × ℕ
extent_in extent = (path_text extent.path, extent.length)

-- this is the canonical text of the items, with the place of each
pub record IsKeptText (kept : KeptText) (items : Items) : Type 0 where
  pub text : kept.bytes.items ≡ text_of_items items
  pub extents : map extent_in kept.extents.items ≡ extents_after [] items

-- it is, if one is kept
abbrev pub HoldsText : Option KeptText → Items → Type 0
HoldsText text items = IfSome text (λ kept. IsKeptText kept items)

-- nothing is kept
pub record KeepsNothing (k : KeptViews) : Type 0 where
  pub items : k.items ≡ nothing
  pub top : k.top ≡ None
  pub changes : k.changes ≡ None
  pub pending : k.pending ≡ None
  pub numbers : k.numbers ≡ Unread
  pub accounts : k.accounts ≡ None

-- the numbers of what is pending, rising
abbrev pub numbers_pending : Views → List ℕ
numbers_pending v = map (λ (s : ℕ × Standing). s.0) (pending_above 0 v)

-- these are they, if they are kept
abbrev pub HoldsPending : Option (Vec ℕ Global) → Views → Type 0
HoldsPending numbers v = IfSome numbers (λ kept. kept.items ≡ numbers_pending v)

-- the vendors and the classes
abbrev pub top_of : Views → Items
top_of v = children_of None v.items

-- these are they, if they are kept
abbrev pub HoldsTop : Option (Vec Item Global) → Views → Type 0
HoldsTop top v = IfSome top (λ kept. map pair_of kept.items ≡ top_of v)

-- these are all items that were changed after their number, fewer than a page
pub record AreChanged (kept : KeptChanges) (v : Views) : Type 0 where
  pub items : map changed_of kept.items.items ≡ changed_after kept.since [] v
  pub few : length kept.items.items < PAGE

-- if they are kept
abbrev pub HoldsChanges : Option KeptChanges → Views → Type 0
HoldsChanges changes v = IfSome changes (λ kept. AreChanged kept v)

-- so many accounts have a rank, if their number is kept
abbrev pub HoldsAccounts : Option ℕ → Views → Type 0
HoldsAccounts accounts v = IfSome accounts (λ n. HasAccounts v n)

-- Each part is right about the views.
pub record IsRightFor (k : KeptViews) (v : Views) : Type 0 where
  -- the paths that were asked for last, each with its name or the absence of one
  pub names : Agrees k.items.names (λ path. name_at path v.items)
  -- the canonical text of the items, if it is kept
  pub text : HoldsText k.items.text v.items
  -- the vendors and the classes with their names, if they are kept
  pub top : HoldsTop k.top v
  -- the items that were changed last, if they are kept
  pub changes : HoldsChanges k.changes v
  -- the numbers of what is pending, if they are kept
  pub pending : HoldsPending k.pending v
  -- the numbers of all submissions by path and by author, if they are kept
  pub numbers : HoldsNumbers k.numbers v
  -- how many accounts there are, if that is kept
  pub accounts : HoldsAccounts k.accounts v

-- while the disk returns what was written, what is kept is right about the history
abbrev pub KeepsRight : {S : Type 0} (database : Ghosts S) → Registry S database → History → Type 0
KeepsRight database r h = HasCleanDisk database r → IsRightFor (kept_views r) (views_of h)
