-- When a row does not read to a value: choices of this project.
use Rattle.std.specs.Prelude.{◌≡◌, ℕ, Bool, true, List, ◌++◌}
use Rattle.sqlite.specs.declared.types.Value.{Value}
use Rattle.sqlite.specs.declared.types.Value.TheVariants.{Text}
use Rattle.sqlite.specs.Order.{Row, column}
use Rattle.pid_ident.specs.PathTexts.{IsPath, path_text}
use Rattle.pid_file.specs.declared.path.Path.{Path}
use Rattle.pid_moderation.specs.declared.command.Proposal.{Proposal}
use Rattle.pid_moderation.specs.declared.command.Reply.{Reply}
use Rattle.pid_moderation.specs.declared.facts.State.{State}
use Rattle.pid_moderation.specs.WellMade.{ProposesName}
use Rattle.pid_tables.specs.Rows.Causes.{IsReadableState, IsReadableReply}
use Rattle.pid_tables.specs.Rows.TableRows.{number, form_of, name_of, state_number, reply_kind}
use Rattle.pid_tables.specs.Rows.TableRows.{first_number, second_number, third_number}
use Rattle.pid_moderation.specs.Submissions.{decider_of, reason_of}
use Rattle.pid_moderation.specs.Views.{Remark}
use Rattle.pid_moderation.specs.WellMade.{IsItem}
use Rattle.pid_tables.specs.declared.rows.fault.TableFault.{TableFault}
use Rattle.pid_tables.specs.declared.rows.fault.TableFault.TheVariants.{Memory, Store, NewerSchema}
use Rattle.pid_tables.specs.declared.rows.fault.TableFault.TheVariants.{Damaged}
use Rattle.pid_tables.specs.Rows.Answers.{standing_row}
use Rattle.pid_tables.specs.Rows.Causes.{IsReadableSubmission, IsReadableRemark}
use Rattle.pid_moderation.specs.Submissions.{Standing}

-- a text that keeps a rule
abbrev pub IsWord : (List ℕ → Bool) → Value → Type 0
IsWord rule value = (word : List ℕ) × (rule word ≡ true) × (value ≡ Text word)

-- the text of a path
abbrev pub IsPathText : Value → Type 0
IsPathText value = (path : Path) × IsPath path × (value ≡ Text (path_text path))

-- a proposal, by its form and its name
abbrev pub IsProposalOf : Value → Value → Proposal → Type 0
IsProposalOf form name proposal = (form ≡ number (form_of proposal))
    × (name ≡ Text (name_of proposal))

abbrev pub IsProposal : Value → Value → Type 0
IsProposal form name = (proposal : Proposal) × ProposesName proposal
    × IsProposalOf form name proposal

-- a state of a submission of this author, by its number, its decider and its reason
abbrev pub IsStateOf : List ℕ → Value → Value → Value → State → Type 0
IsStateOf author told decider reason state = (told ≡ number (state_number state))
    × (decider ≡ Text (decider_of author state)) × (reason ≡ Text (reason_of state))

abbrev pub IsState : List ℕ → Value → Value → Value → Type 0
IsState author told decider reason = (state : State) × IsReadableState state
    × IsStateOf author told decider reason state

-- the row of a reply
abbrev pub IsReplyIn : Row → Reply → Type 0
IsReplyIn row reply = (column row 0 ≡ number (reply_kind reply))
    × (column row 1 ≡ number (first_number reply))
    × (column row 2 ≡ number (second_number reply)) × (column row 3 ≡ number (third_number reply))

abbrev pub IsReplyRow : Row → Type 0
IsReplyRow row = (reply : Reply) × IsReadableReply reply × IsReplyIn row reply

-- There was no memory, or the row is not written as one of these is.
abbrev pub IsDamagedRow : Type 0 → TableFault → Type 0
IsDamagedRow Written Memory = Unit {0}
IsDamagedRow Written Store = ⊥
IsDamagedRow Written (NewerSchema n) = ⊥
IsDamagedRow Written Damaged = ¬ Written

-- the row is not written as one of these is
abbrev pub IsWrongText : Type 0 → TableFault → Type 0
IsWrongText Written fault = (fault ≡ Damaged) × ¬ Written

-- a whole number, however large
abbrev pub IsWholeNumber : Value → Type 0
IsWholeNumber value = (n : ℕ) × (value ≡ number n)

-- the row of a submission as it stands, and what follows
abbrev pub ReadsAsStanding : Row → Type 0
ReadsAsStanding row = (s : Standing) × IsReadableSubmission s.submitted × IsReadableState s.state
    × (rest : Row) × (row ≡ standing_row s ++ rest)

-- the row of an item
abbrev pub ReadsAsItem : Row → Type 0
ReadsAsItem row = (path : List ℕ) × (name : List ℕ) × IsItem path name × (column row 0 ≡ Text path)
    × (column row 1 ≡ Text name)

-- the row of a remark
abbrev pub ReadsAsRemark : Row → Type 0
ReadsAsRemark row = (r : Remark) × IsReadableRemark r × (column row 0 ≡ Text r.author)
    × (column row 1 ≡ Text r.text)
