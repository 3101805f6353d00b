-- What a fault or a stop leaves of what was written last: choices of this project.
use Rattle.std.specs.Prelude.{◌≡◌, ◌⊎◌, ℕ, List, [], ◌++◌, take, Option, Some}
use Rattle.pid_moderation.specs.History.{Asked, History}
use Rattle.pid_moderation.specs.Judgement.{after}
use Rattle.pid_journal.specs.Journals.{counts_held, IsEntry, IsNote, JournalLeads}

-- after the leading bytes some first ones of the others are left, maybe all of them, maybe none
abbrev pub LeavesPart : Option (List ℕ) → (front behind : List ℕ) → Type 0
LeavesPart now front behind = (n : ℕ) × (now ≡ Some (front ++ take n behind))

-- What is safe is a journal that leads to the one history, and of more a prefix is left: of an entry, whose
-- command leads to the other history; or of a mark, or of nothing, if they are the same.
pub record IsInDoubt (start : History) (safe : Option (List ℕ)) (h next : History) : Type 0 where
  pub text : List ℕ
  pub leads : JournalLeads start text h
  pub more : List ℕ
  pub last : ((c : Asked) × IsEntry more (counts_held h) c × (next ≡ after h c))
      ⊎ (((more ≡ []) ⊎ IsNote more (counts_held h) []) × (next ≡ h))
  pub left : LeavesPart safe text more
