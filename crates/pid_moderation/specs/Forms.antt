-- The fields of each command and the rules that they keep: choices of this project.
use Rattle.std.specs.Prelude.{◌≡◌, ◌≢◌, ℕ, ◌+◌, Bool, true, not, ◌&&◌, ◌||◌, ◌==◌, nat_le}
use Rattle.std.specs.Prelude.{if◌then◌else◌, List, [], ◌∷◌, ◌++◌, length}
use Rattle.std.specs.Prelude.{Option, Some, None, is_none, codes, Result, MatchResult}
use Rattle.std.specs.Option.{option_map}
use Rattle.std.specs.Str.{bytes_eq}
use Rattle.pid_file.specs.Bytes.{is_empty}
use Rattle.pid_file.specs.Words.{is_name, is_text, is_account, is_key}
use Rattle.pid_file.specs.declared.path.Path.{Path}
use Rattle.pid_moderation.specs.declared.rank.Rank.{Rank}
use Rattle.pid_moderation.specs.declared.rank.Rank.TheVariants.{Contributor, Moderator, Senior}
use Rattle.pid_moderation.specs.declared.rank.Rank.TheVariants.{Administrator}
use Rattle.pid_moderation.specs.declared.refusal.Refusal.{Refusal}
use Rattle.pid_moderation.specs.declared.refusal.Refusal.TheVariants.{BadPath, BadName, BadText}
use Rattle.pid_moderation.specs.declared.refusal.Refusal.TheVariants.{Memory}
use Rattle.pid_moderation.specs.declared.command.Expected.{Expected}
use Rattle.pid_moderation.specs.declared.command.Expected.TheVariants as expecteds
use Rattle.pid_moderation.specs.declared.command.Proposal.{Proposal}
use Rattle.pid_moderation.specs.declared.command.Proposal.TheVariants as proposals
use Rattle.pid_moderation.specs.declared.command.Act.{Act}
use Rattle.pid_moderation.specs.declared.command.Act.TheVariants as acts
use Rattle.pid_moderation.specs.declared.command.Command.{Command}
use Rattle.pid_moderation.specs.declared.verb.Verb.{Verb}
use Rattle.pid_moderation.specs.declared.verb.Verb.TheVariants.{Account, Submit, Comment, Withdraw}
use Rattle.pid_moderation.specs.declared.verb.Verb.TheVariants.{Approve, Confirm, Reject, Import}
use Rattle.pid_form.specs.Fields.{Fields, times, is_once, is_one_of, value, text_at}
use Rattle.pid_form.specs.Numbers as numbers
use Rattle.pid_ident.specs.PathReading.{path_of}
use Rattle.pid_moderation.specs.CheckTables.{Checks, first_failing, most_submissions}
use Rattle.pid_moderation.specs.CheckTables.{most_file_bytes}

-- each field of the verb once, and nothing else; a note may be missing, and a proposal is a name or
-- a removal
abbrev pub has_fields : Verb → Fields → Bool
has_fields Account fields = is_once (codes "who") fields && is_once
    (codes "rank") fields && length fields == 2
has_fields Submit fields =
    is_once (codes "path") fields
    && is_one_of (codes "name") (codes "remove") fields
    && nat_le (times (codes "note") fields) 1
    && length fields == 2 + times (codes "note") fields
has_fields Comment fields = is_once (codes "num") fields && is_once
    (codes "text") fields && length fields == 2
has_fields Withdraw fields = is_once (codes "num") fields && length fields == 1
has_fields Approve fields = is_once (codes "num") fields && length fields == 1
has_fields Confirm fields = is_once (codes "num") fields && is_once
    (codes "was") fields && length fields == 2
has_fields Reject fields = is_once (codes "num") fields && is_once
    (codes "reason") fields && length fields == 2
has_fields Import fields = is_once (codes "file") fields && length fields == 1

-- `0` to `3`
abbrev pub rank_in : List ℕ → Option Rank
rank_in text =
    if bytes_eq text (codes "0") then Some Contributor
    else if bytes_eq text (codes "1") then Some Moderator
    else if bytes_eq text (codes "2") then Some Senior
    else if bytes_eq text (codes "3") then Some Administrator
    else None

-- the number of a submission, 1 to 2,000,000,000
abbrev pub number_in : List ℕ → Option ℕ
number_in text = numbers.number_up_to most_submissions 10 text

-- a name if there is one, else a removal
abbrev pub proposal_in : Option (List ℕ) → Proposal
proposal_in (Some name) = proposals.Name name
proposal_in None = proposals.Removal

abbrev pub is_none_or : (List ℕ → Bool) → Option (List ℕ) → Bool
is_none_or test None = true
is_none_or test (Some text) = test text

-- no text expects no item, and any other an item of that name
abbrev pub expected_in : List ℕ → Expected
expected_in text = if is_empty text then expecteds.Absent else expecteds.Named text

abbrev pub is_name_or_empty : List ℕ → Bool
is_name_or_empty text = is_empty text || is_name text

-- a comment or a reason
abbrev pub is_remark : List ℕ → Bool
is_remark text = is_text text && not (is_empty text)

-- what each verb's values are checked for, in order
abbrev pub value_checks : Verb → Fields → Checks
value_checks Account fields =
    (not (is_account (text_at (codes "who") fields)), BadText)
    ∷ (is_none (rank_in (text_at (codes "rank") fields)), BadText)
    ∷ []
value_checks Submit fields =
    (is_none (path_of (text_at (codes "path") fields)), BadPath)
    ∷ (not (is_none_or is_name (value (codes "name") fields)), BadName)
    ∷ (not (is_none_or (bytes_eq (codes "yes")) (value (codes "remove") fields)), BadText)
    ∷ (not (is_text (text_at (codes "note") fields)), BadText)
    ∷ []
value_checks Comment fields =
    (is_none (number_in (text_at (codes "num") fields)), BadText)
    ∷ (not (is_remark (text_at (codes "text") fields)), BadText)
    ∷ []
value_checks Withdraw fields = (is_none (number_in (text_at (codes "num") fields)), BadText) ∷ []
value_checks Approve fields = (is_none (number_in (text_at (codes "num") fields)), BadText) ∷ []
value_checks Confirm fields =
    (is_none (number_in (text_at (codes "num") fields)), BadText)
    ∷ (not (is_name_or_empty (text_at (codes "was") fields)), BadText)
    ∷ []
value_checks Reject fields =
    (is_none (number_in (text_at (codes "num") fields)), BadText)
    ∷ (not (is_remark (text_at (codes "reason") fields)), BadText)
    ∷ []
value_checks Import fields = (
  not (nat_le
      (length (text_at (codes "file") fields)) most_file_bytes),
  BadText,
) ∷ []

-- who sends a command: the account and the key
abbrev pub sender_checks : List ℕ → Option (List ℕ) → Checks
sender_checks account key =
    (not (is_account account), BadText)
    ∷ (not (is_none_or is_key key), BadText)
    ∷ []

-- the fields, then their values, then the account and the key
abbrev pub form_checks : Verb → List ℕ → Option (List ℕ) → Fields → Checks
form_checks verb account key fields =
    (not (has_fields verb fields), BadText)
    ∷ value_checks verb fields
    ++ sender_checks account key

-- what a proposal says: a name if there is one, else a removal
abbrev pub submission_said : Fields → Path → Act
submission_said fields path = acts.Submit path (proposal_in (value (codes "name") fields))
    (text_at (codes "note") fields)

-- what the fields say, if they pass the checks
abbrev pub act_said : Verb → Fields → Option Act
act_said Account fields =
    option_map (λ rank. acts.Account (text_at (codes "who") fields) rank)
    (rank_in (text_at (codes "rank") fields))
act_said Submit fields = option_map (submission_said fields)
    (path_of (text_at (codes "path") fields))
act_said Comment fields = option_map (λ n. acts.Comment n (text_at (codes "text") fields))
    (number_in (text_at (codes "num") fields))
act_said Withdraw fields = option_map (λ n. acts.Withdraw n)
    (number_in (text_at (codes "num") fields))
act_said Approve fields = option_map (λ n. acts.Approve n expecteds.Anything)
    (number_in (text_at (codes "num") fields))
act_said Confirm fields = option_map
    (λ n. acts.Approve n (expected_in (text_at (codes "was") fields)))
    (number_in (text_at (codes "num") fields))
act_said Reject fields = option_map (λ n. acts.Reject n (text_at (codes "reason") fields))
    (number_in (text_at (codes "num") fields))
act_said Import fields = Some (acts.Import (text_at (codes "file") fields))

abbrev pub command_said : Verb → List ℕ → Option (List ℕ) → Fields → Option Command
command_said verb account key fields = option_map
    (λ act. record { account = account; key = key; act = act }) (act_said verb fields)

-- what is said, or the first check that fails; or out of memory
abbrev pub SaysByChecks : {X : Type 0} → Checks → Option X → Result X Refusal → Type 0
SaysByChecks cs said result = MatchResult result (λ x. (first_failing cs ≡ None) × (said ≡ Some x))
    (λ e. e ≢ Memory → first_failing cs ≡ Some e)
