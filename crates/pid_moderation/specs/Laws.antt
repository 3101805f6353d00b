-- The laws that others cite: each is the contract of a public function that does nothing.
use Rattle.std.specs.Prelude.{◌≡◌, ◌↔◌, ℕ, ◌+◌, ◌≤◌, T, List, ◌++◌, length, take}
use Rattle.std.specs.FinMap.{entries}
use Rattle.std.specs.FinMap.Entries.{is_sorted}
use Rattle.pid_file.specs.Trees.{IsTree, TreeMap, text_cmp}
use Rattle.pid_moderation.specs.CheckTables.{most_items, most_revision}
use Rattle.pid_moderation.specs.History.{Asked, Begins, History}
use Rattle.pid_moderation.specs.Judgement.{after_all}
use Rattle.pid_moderation.specs.Keys.{times_under}
use Rattle.pid_moderation.specs.RegistryStatus.{RegistryStatus, IsStatusIn, status_of_registry}
use Rattle.pid_moderation.specs.RemarkPages.{placed_after}
use Rattle.pid_moderation.specs.Sound.{IsSound}
use Rattle.pid_moderation.specs.Views.{Remark, items_of, revision_of, views_of}
use Rattle.pid_moderation.specs.WellMade.{AreWellMade, IsFile}

-- what well made commands lead to, from any beginning, is sound
abbrev pub HistoriesAreSound : Type 0
HistoriesAreSound = (mark : ℕ) (commands : List Asked) → AreWellMade commands
    → IsSound (after_all (Begins mark) commands)

-- of the commands of an account under a key at most one is accepted
abbrev pub KeysStandOnce : Type 0
KeysStandOnce = (mark : ℕ) (commands : List Asked) (account key : List ℕ)
    → times_under account key (after_all (Begins mark) commands) ≤ 1

-- the items of a history are in the order of their paths
abbrev pub ItemsAreSorted : Type 0
ItemsAreSorted = (h : History) → T (is_sorted text_cmp (items_of h))

-- the revision stays within its limit, whatever is asked
abbrev pub RevisionsAreWithin : Type 0
RevisionsAreWithin = (h : History) (commands : List Asked) → revision_of h ≤ most_revision
    → revision_of (after_all h commands) ≤ most_revision

-- a tree of names, if it is not too large, is what a file may read to
abbrev pub TreesAreFiles : Type 0
TreesAreFiles = (t : TreeMap) → IsTree t → length (entries t) ≤ most_items → IsFile (entries t)

-- what the views of a history say of its status is its status, and nothing else
abbrev pub ViewsTellStatus : Type 0
ViewsTellStatus = (h : History) (status : RegistryStatus)
    → IsStatusIn (views_of h) status ↔ (status ≡ status_of_registry h)

-- so many remarks, and those after as many more, are all that there are
abbrev pub RemarksGoOn : Type 0
RemarksGoOn = (most after : ℕ) (remarks : List Remark)
    → take most (placed_after after remarks) ++ placed_after (after + most) remarks
    ≡ placed_after after remarks
