-- What clauses say of a connection before and after a list is read.
use Rattle.sqlite.specs.State.{State}
use Rattle.pid_moderation.specs.Views.{Views}
use Rattle.pid_tables.specs.Rows.Clauses.{AtRest, HasCleanDisk}
use Rattle.pid_tables.specs.Lists.EachItem as each
use Rattle.pid_tables.specs.declared.lists.walk.EachEnd.{EachEnd}

module _ {S : Type 0} (state : S → State) where
  abbrev pub IsCausedEnd : {F : Type 0} → S → S → EachEnd F → Type 0
  IsCausedEnd old new end = each.IsCausedEnd (state old) (state new) end

  -- while the disk returns what was written, this holds of the views that were at rest
  abbrev pub OverViews : S → S → (Views → Type 0) → Type 0
  OverViews old new Holds = HasCleanDisk state new → (v : Views) → AtRest state old v → Holds v
