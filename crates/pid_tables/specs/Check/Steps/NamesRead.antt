-- The names of accounts as a set, and rows of submissions judged by it.
use Rattle.std.specs.Prelude.{◌≡◌, ◌≢◌, ◌≤◌, ℕ, true, false, ◌∷◌, List, IsUtf8, String}
use Rattle.std.specs.BTreeSet.{BTreeSet, contains_text}
use Rattle.std.specs.declared.alloc.Global.{Global}
use Rattle.sqlite.specs.declared.types.Value.TheVariants.{Text}
use Rattle.sqlite.specs.Order.{Row, column}
use Rattle.pid_ident.specs.Bytes.{is_empty}
use Rattle.pid_ident.specs.PathTexts.{IsPath}
use Rattle.pid_ident.specs.Words.{is_text}
use Rattle.pid_moderation.specs.WellMade.{ProposesName}
use Rattle.pid_moderation.specs.declared.facts.State.{State}
use Rattle.pid_moderation.specs.declared.facts.State.TheVariants.{Pending, Approved, Rejected}
use Rattle.pid_moderation.specs.declared.facts.State.TheVariants.{Withdrawn}
use Rattle.pid_tables.specs.Rows.TableRows.{number, state_number}
use Rattle.pid_moderation.specs.Submissions.{Standing, decider_of, reason_of}
use Rattle.pid_tables.specs.Rows.Answers.{standing_row}

-- a name of the set
abbrev pub IsAmong : BTreeSet (String Global) → List ℕ → Type 0
IsAmong names name = IsUtf8 name × (contains_text names name ≡ true)

abbrev pub IsDecidedAmong : BTreeSet (String Global) → List ℕ → State → Type 0
IsDecidedAmong names author Pending = Unit {0}
IsDecidedAmong names author (Approved decider) = (decider ≢ author) × IsAmong names decider
IsDecidedAmong names author (Rejected decider reason) = (decider ≢ author) × IsAmong names decider
    × (is_text reason ≡ true) × (is_empty reason ≡ false)
IsDecidedAmong names author Withdrawn = Unit {0}

-- the row is as a submission of the author may be
abbrev pub StandsInRows : BTreeSet (String Global) → Row → List ℕ → Type 0
StandsInRows names r author = (s : State) × (column r 6 ≡ number (state_number s))
    × (column r 7 ≡ Text (decider_of author s)) × (column r 8 ≡ Text (reason_of s))
    × IsDecidedAmong names author s

-- a submission whose number is at most the count, with its author and decider in the set
pub record IsSubmissionAmong (names : BTreeSet (String Global)) (count : ℕ) (r : Row) : Type 0 where
  pub num : ℕ
  pub standing : Standing
  pub is : r ≡ number num ∷ standing_row standing
  pub within : (1 ≤ num) × (num ≤ count)
  pub author : IsAmong names standing.submitted.author
  pub path : IsPath standing.submitted.path
  pub proposal : ProposesName standing.submitted.proposal
  pub note : is_text standing.submitted.note ≡ true
  pub state : IsDecidedAmong names standing.submitted.author standing.state
