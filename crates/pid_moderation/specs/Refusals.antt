-- The number and the word of each refusal: choices of this project. Neither 6 nor 19 is used, and 20
-- to 29 are those of requests.
use Rattle.std.specs.Prelude.{ℕ, Bool, ◌||◌, nat_lt, List, codes}
use Rattle.pid_moderation.specs.declared.refusal.Refusal.{Refusal}
use Rattle.pid_moderation.specs.declared.refusal.Refusal.TheVariants.{BadPath, BadName, BadText}
use Rattle.pid_moderation.specs.declared.refusal.Refusal.TheVariants.{NoAccount, RankTooLow}
use Rattle.pid_moderation.specs.declared.refusal.Refusal.TheVariants.{NoSubmission, NotPending}
use Rattle.pid_moderation.specs.declared.refusal.Refusal.TheVariants.{NotAuthor, OwnDecision}
use Rattle.pid_moderation.specs.declared.refusal.Refusal.TheVariants.{ParentMissing, HasChildren}
use Rattle.pid_moderation.specs.declared.refusal.Refusal.TheVariants.{NothingToDo, FileFault}
use Rattle.pid_moderation.specs.declared.refusal.Refusal.TheVariants.{Full, Memory, Store, Failed}
use Rattle.pid_moderation.specs.declared.refusal.Refusal.TheVariants.{Changed}

abbrev pub refusal_number : Refusal → ℕ
refusal_number BadPath = 1
refusal_number BadName = 2
refusal_number BadText = 3
refusal_number NoAccount = 4
refusal_number RankTooLow = 5
refusal_number NoSubmission = 7
refusal_number NotPending = 8
refusal_number NotAuthor = 9
refusal_number OwnDecision = 10
refusal_number ParentMissing = 11
refusal_number HasChildren = 12
refusal_number NothingToDo = 13
refusal_number (FileFault fault) = 14
refusal_number Full = 15
refusal_number Memory = 16
refusal_number Store = 17
refusal_number Failed = 18
refusal_number Changed = 30

abbrev pub refusal_word : Refusal → List ℕ
refusal_word BadPath = codes "BadPath"
refusal_word BadName = codes "BadName"
refusal_word BadText = codes "BadText"
refusal_word NoAccount = codes "NoAccount"
refusal_word RankTooLow = codes "RankTooLow"
refusal_word NoSubmission = codes "NoSubmission"
refusal_word NotPending = codes "NotPending"
refusal_word NotAuthor = codes "NotAuthor"
refusal_word OwnDecision = codes "OwnDecision"
refusal_word ParentMissing = codes "ParentMissing"
refusal_word HasChildren = codes "HasChildren"
refusal_word NothingToDo = codes "NothingToDo"
refusal_word (FileFault fault) = codes "FileFault"
refusal_word Full = codes "Full"
refusal_word Memory = codes "Memory"
refusal_word Store = codes "Store"
refusal_word Failed = codes "Failed"
refusal_word Changed = codes "Changed"

-- What a command is refused for by judgement. The others are 16 and 17, faults of memory and of the
-- store, and 18, which a registry answers that has failed before.
abbrev pub is_judged_refusal : Refusal → Bool
is_judged_refusal refusal = nat_lt (refusal_number refusal) 16 || nat_lt 18 (refusal_number refusal)
