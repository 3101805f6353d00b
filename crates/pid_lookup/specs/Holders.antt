-- What questions leave of a holder of names.
use Rattle.std.specs.Prelude.{◌↔◌}

-- What was shown is still shown, an honest holder was honest before, the faults that may come are
-- the same, it may answer exactly when it could before, and a holder that was only asked since
-- some start still is.
pub record KeepsHolder {X S F : Type 0} (shows : X → S → Type 0) (honest : X → Type 0)
    (may_give : X → F → Type 0) (may_tell : X → Type 0) (only_asked : X → X → Type 0)
    (old new : X) : Type 0 where
  pub shown : (s : S) → shows old s → shows new s
  pub was_honest : honest new → honest old
  pub faults : (f : F) → may_give old f ↔ may_give new f
  pub told : may_tell old ↔ may_tell new
  pub asked : (start : X) → only_asked start old → only_asked start new
