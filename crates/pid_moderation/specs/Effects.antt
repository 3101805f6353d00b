-- What is answered and changed if all checks pass, by the facts.
use Rattle.std.specs.Prelude.{◌≡◌, ◌≢◌, ℕ, ◌+◌, ◌-◌, is_none, List, [], Option, Some, None, Result}
use Rattle.std.specs.Prelude.{Ok, Err, IfOk, IfErr, MatchResult}
use Rattle.std.specs.Option.{option_map}
use Rattle.pid_moderation.specs.declared.command.Reply.{Reply}
use Rattle.pid_moderation.specs.declared.command.Proposal.{Proposal}
use Rattle.pid_moderation.specs.declared.command.Proposal.TheVariants.{Name, Removal}
use Rattle.pid_moderation.specs.declared.facts.Facts.{Facts}
use Rattle.pid_moderation.specs.declared.facts.NamedSubmission.{NamedSubmission}
use Rattle.pid_moderation.specs.declared.facts.State.TheVariants.{Approved, Rejected, Withdrawn}
use Rattle.pid_moderation.specs.declared.facts.Verdict.{Verdict}
use Rattle.pid_moderation.specs.declared.facts.Verdict.TheVariants as verdicts
use Rattle.pid_moderation.specs.declared.refusal.Refusal.{Refusal}
use Rattle.pid_moderation.specs.declared.refusal.Refusal.TheVariants.{Memory}
use Rattle.pid_moderation.specs.declared.change.Change.{Change}
use Rattle.pid_moderation.specs.declared.change.Edit.{Edit}
use Rattle.pid_moderation.specs.declared.change.Edit.TheVariants.{Add, Rename, Remove}
use Rattle.pid_moderation.specs.declared.change.Write.{Write}
use Rattle.pid_moderation.specs.declared.change.Receipt.{Receipt}
use Rattle.pid_moderation.specs.declared.change.Effect.{Effect}
use Rattle.pid_moderation.specs.declared.change.Effect.TheVariants.{Nothing, Ranked, Submitted}
use Rattle.pid_moderation.specs.declared.change.Effect.TheVariants.{Remarked, Decided, Imported}
use Rattle.pid_moderation.specs.History.{Deed, Ranks, Submits, Comments, Withdraws, Approves}
use Rattle.pid_moderation.specs.History.{Rejects, Imports, Asked, History}
use Rattle.pid_moderation.specs.Items.{Items}
use Rattle.pid_moderation.specs.Views.{Views, views_of, pairs_of}
use Rattle.pid_moderation.specs.Changes.{changed, with_pairs, FitsViews}
use Rattle.pid_moderation.specs.Judgement.{Outcome, Refused, Repeated, Accepts, judge, judged}
use Rattle.pid_moderation.specs.Judgement.{answer, after}

-- what an import does: nothing if its file is not imported, as one that is too long (`None`)
abbrev pub import_effect : Option Verdict → Effect
import_effect (Some (verdicts.Good added renamed same items)) = Imported items
import_effect (Some (verdicts.Faulty fault)) = Nothing
import_effect None = Nothing

abbrev pub edit_of : Proposal → Option (List ℕ) → Edit
edit_of (Name name) None = Add name
edit_of (Name name) (Some old) = Rename name
edit_of Removal present = Remove

-- how many items there are afterwards
abbrev pub items_after : Edit → ℕ → ℕ
items_after (Add name) items = items + 1
items_after (Rename name) items = items
items_after Remove items = items - 1

abbrev pub write_of : Facts → NamedSubmission → Write
write_of f s = record {
  path = s.path;
  edit = edit_of s.proposal f.present;
  items = items_after
      (edit_of s.proposal f.present) f.items;
}

abbrev pub effect_of : List ℕ → Facts → Deed → Effect
effect_of account f (Ranks who rank) = Ranked who rank (is_none f.who)
effect_of account f (Submits path proposal note) = Submitted
    (f.submissions + 1) account path proposal note
effect_of account f (Comments n text) = Remarked n (f.remarks + 1) account text
effect_of account f (Withdraws n) = Decided n Withdrawn None
effect_of account f (Approves n expected) =
    Decided n (Approved account) (option_map (write_of f) f.named)
effect_of account f (Rejects n reason) = Decided n (Rejected account reason) None
effect_of account f (Imports reading) = import_effect f.file

abbrev pub receipt_of : List ℕ → Option (List ℕ) → Reply → Option Receipt
receipt_of account None reply = None
receipt_of account (Some key) reply = Some (record { account = account; key = key; reply = reply })

abbrev pub change_of : Facts → Asked → Reply → Change
change_of f c reply = record {
  effect = effect_of c.account f c.deed;
  receipt = receipt_of c.account c.key reply;
  revision = f.revision + 1;
}

abbrev pub no_change : Facts → Change
no_change f = record { effect = Nothing; receipt = None; revision = f.revision }

-- what a file names
abbrev pub file_pairs : Deed → Items
file_pairs (Imports reading) = pairs_of reading
file_pairs deed = []

-- what is written of a file
abbrev pub new_pairs : Outcome → Deed → Items
new_pairs (Accepts reply) deed = file_pairs deed
new_pairs (Refused refusal) deed = []
new_pairs (Repeated reply) deed = []

-- a refusal and a kept reply change nothing
abbrev pub change_by : Facts → Asked → Outcome → Change
change_by f c (Accepts reply) = change_of f c reply
change_by f c (Refused refusal) = no_change f
change_by f c (Repeated reply) = no_change f

-- the outcome by the facts, with its change; or out of memory
abbrev pub Decides : Facts → Asked → Result (Change × Reply) Refusal → Type 0
Decides f c result = MatchResult result (λ d. (answer (judged f c) ≡ Ok d.1)
    × (d.0 ≡ change_by f c (judged f c))) (λ e. e ≢ Memory → answer (judged f c) ≡ Err e)

-- the result is what the judgement over these views answers: its reply, or its refusal unless
-- it is out of memory
pub record AnswersByJudgement (v : Views) (c : Asked) (result : Result (Change × Reply) Refusal)
    : Type 0 where
  pub reply : IfOk result (λ d. answer (judge v c) ≡ Ok d.1)
  pub refusal : IfErr result (λ e. e ≢ Memory → answer (judge v c) ≡ Err e)

-- the change leads from what h shows to what it shows after c
abbrev pub LeadsOn : History → Asked → Change → Type 0
LeadsOn h c change = views_of (after h c)
    ≡ changed change (with_pairs (new_pairs (judge (views_of h) c) c.deed) (views_of h))

-- the numbers of the change are those of what h shows, with the pairs of a file written
abbrev pub FitsHistory : History → Asked → Change → Type 0
FitsHistory h c change = FitsViews change (with_pairs (new_pairs (judge (views_of h) c) c.deed)
    (views_of h))
