-- Steps of Putting.
use Rattle.std.specs.Prelude.{◌≡◌, ℕ, [], ◌∷◌}
use Rattle.pid_moderation.specs.Items.{Items, name_at}
use Rattle.pid_moderation.specs.Views.{Views}
use Rattle.pid_tables.specs.Rows.Steps.Writes.{with_name}
use Rattle.sqlite.specs.State.{State, HasCleanDisk}
use Rattle.pid_reader.specs.LookingBack.{Item}
use Rattle.pid_tables.specs.Rows.Steps.Within.{KeepsCommitted, Within, Written}
use Rattle.pid_tables.specs.Rows.Shows.{Counts}
use Rattle.pid_tables.specs.declared.putting.Put.{Put}
use Rattle.pid_tables.specs.Steps.Puts.{put_over}

-- the pairs, put in turn with this number, of which the last is the first here
abbrev pub put_in_turn : ℕ → Items → Views → Views
put_in_turn n [] v = v
put_in_turn n (pair ∷ pairs) v = with_name n pair.0 pair.1 (put_in_turn n pairs v)

-- one entry is put with this number: the transaction shows the views with it, and it is said what
-- it was to these
pub record Puts (n : ℕ) (old new : State) (item : Item) (put : Put) : Type 0 where
  pub clean : HasCleanDisk new → HasCleanDisk old
  pub limit : new.step_limit ≡ old.step_limit
  pub written : (c : Counts) (v w : Views) → Within c old v w
      → Written c new v (with_name n item.0 item.1 w)
  pub told : HasCleanDisk new → (c : Counts) (v w : Views) → Within c old v w
      → put ≡ put_over item.1 (name_at item.0 w.items)

-- an entry is not put, and the transaction is given up
pub record GivesUp (old new : State) : Type 0 where
  pub clean : HasCleanDisk new → HasCleanDisk old
  pub limit : new.step_limit ≡ old.step_limit
  pub holds : (c : Counts) (v w : Views) → Within c old v w → KeepsCommitted new v
