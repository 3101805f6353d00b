-- Which refusals the judgement gives, whatever the facts are: none of 16 to 18.
use Rattle.std.proofs.Common.{◌≡◌, ℕ, Bool, true, false, cond, List, [], ◌∷◌, ◌++◌, Option, Some, None, Result, Ok, Err, refl, sym, subst}
use Rattle.std.specs.Prelude.{◌≢◌, find, is_none, nat_le, IfErr, IfSome}
use Rattle.std.specs.Option.{option_map}
use Rattle.std.specs.List.{AllByRecursion}
use Rattle.pid_moderation.specs.declared.change.Change.{Change}
use Rattle.pid_moderation.specs.declared.command.Reply.{Reply}
use Rattle.pid_moderation.specs.declared.command.Reply.TheVariants.{Done}
use Rattle.pid_moderation.specs.declared.facts.Facts.{Facts}
use Rattle.pid_moderation.specs.declared.facts.NamedSubmission.{NamedSubmission}
use Rattle.pid_moderation.specs.declared.facts.Verdict.{Verdict}
use Rattle.pid_moderation.specs.declared.facts.Verdict.TheVariants as verdicts
use Rattle.pid_moderation.specs.declared.refusal.Refusal.{Refusal}
use Rattle.pid_moderation.specs.declared.refusal.Refusal.TheVariants.{BadText, Failed, Memory, NoAccount}
use Rattle.pid_moderation.specs.Refusals.{is_judged_refusal}
use Rattle.pid_moderation.specs.CheckTables.{Checks, command_checks, revision_checks, checks, comment_checks, decision_checks, approval_checks, withdraw_checks, file_checks, first_failing, if_named, import_checks, is_ill_formed, reply_by_facts}
use Rattle.pid_moderation.specs.Effects.{Decides}
use Rattle.pid_moderation.specs.History.{Deed, Ranks, Submits, Comments, Withdraws, Approves, Rejects, Imports, Asked}
use Rattle.pid_moderation.specs.Judgement.{Outcome, Refused, unless, unless_kept, answer, judged}

-- a reply, or a refusal with such a number
abbrev pub is_judged : Result Reply Refusal → Bool
is_judged (Ok reply) = true
is_judged (Err refusal) = is_judged_refusal refusal

abbrev asks : List ℕ → Option (List ℕ) → Deed → Asked
asks account key deed = record { account = account; key = key; deed = deed }

abbrev shown : Bool → Option Reply → Option Refusal → Reply → Outcome
shown ill kept failing reply = cond ill (Refused BadText) (unless_kept kept (unless failing reply))

abbrev Judges : Bool × Refusal → Type 0
Judges check = is_judged_refusal check.1 ≡ true

abbrev AllJudge : Checks → Type 0
AllJudge cs = AllByRecursion Judges cs

named_judge : (o : Option NamedSubmission) (cs : NamedSubmission → Checks) → ((s : NamedSubmission) → AllJudge (cs s)) → AllJudge (if_named o cs)
named_judge None cs all = (refl, tt)
named_judge (Some s) cs all = all s

file_judge : (o : Option Verdict) → AllJudge (file_checks o)
file_judge None = (refl, tt)
file_judge (Some (verdicts.Faulty fault)) = (refl, tt)
file_judge (Some (verdicts.Good added renamed same items)) = (refl, tt)

command_judges : (f : Facts) (account : List ℕ) (key : Option (List ℕ)) (deed : Deed) → AllJudge (command_checks f (asks account key deed))
command_judges f account key (Ranks who rank) = (refl, (refl, (refl, (refl, tt))))
command_judges f account key (Submits path proposal note) = (refl, (refl, tt))
command_judges f account key (Comments n text) = (refl, named_judge f.named (comment_checks f) (λ s. (refl, tt)))
command_judges f account key (Withdraws n) = (refl, named_judge f.named (withdraw_checks account) (λ s. (refl, (refl, tt))))
command_judges f account key (Approves n e) = (refl, named_judge f.named (approval_checks account f e) (λ s. (refl, (refl, (refl, (refl, (refl, (refl, (refl, (refl, tt))))))))))
command_judges f account key (Rejects n reason) = (refl, named_judge f.named (decision_checks account f.rank) (λ s. (refl, (refl, (refl, tt)))))
command_judges f account key (Imports reading) = (refl, (refl, file_judge f.file))

joined : (cs ds : Checks) → AllJudge cs → AllJudge ds → AllJudge (cs ++ ds)
joined [] ds h k = k
joined (c ∷ cs) ds h k = (h.0, joined cs ds h.1 k)

checks_judge : (f : Facts) (c : Asked) → AllJudge (checks f c)
checks_judge f c = joined (command_checks f c) (revision_checks f) (command_judges f c.account c.key c.deed) (refl, tt)

one_judges : (b : Bool) (r : Refusal) (cs : Checks) (reply : Reply) → is_judged_refusal r ≡ true → is_judged (answer (unless (first_failing cs) reply)) ≡ true
    → is_judged (answer (unless (option_map (λ (x : Bool × Refusal). x.1) (cond b (Some (b, r)) (find (λ x. x.0) cs))) reply)) ≡ true
one_judges true r cs reply here rest = here
one_judges false r cs reply here rest = rest

first_judges : (cs : Checks) (reply : Reply) → AllJudge cs → is_judged (answer (unless (first_failing cs) reply)) ≡ true
first_judges [] reply all = refl
first_judges (c ∷ cs) reply all = one_judges c.0 c.1 cs reply all.0 (first_judges cs reply all.1)

shown_judges : (ill : Bool) (kept : Option Reply) (failing : Option Refusal) (reply : Reply) → is_judged (answer (unless failing reply)) ≡ true → is_judged (answer (shown ill kept failing reply)) ≡ true
shown_judges true kept failing reply h = refl
shown_judges false None failing reply h = h
shown_judges false (Some k) failing reply h = refl

pub judged_answer : (f : Facts) (c : Asked) → is_judged (answer (judged f c)) ≡ true
judged_answer f c =
    shown_judges (is_ill_formed f c.deed) f.kept (first_failing (checks f c)) (reply_by_facts f c.deed)
    (first_judges (checks f c) (reply_by_facts f c.deed) (checks_judge f c))

not_failed : (r : Refusal) → is_judged_refusal r ≡ true → r ≡ Failed → ⊥
not_failed r judges is = let off : false ≡ true = subst (λ (x : Refusal). is_judged_refusal x ≡ true) is judges in let no : ⊥ = cc in no

no_want : (e : Refusal) → e ≡ Failed → e ≡ Memory → ⊥
no_want e is other = let no : ⊥ = cc in no

-- what is decided by any facts is never told as of a registry that has failed
pub decides_live : (f : Facts) (c : Asked) (result : Result (Change × Reply) Refusal) → Decides f c result → IfErr result (λ e. e ≢ Failed)
decides_live f c (Ok d) told = tt
decides_live f c (Err e) told = λ is. not_failed e (subst (λ (r : Result Reply Refusal). is_judged r ≡ true) (told (no_want e is)) (judged_answer f c)) is

-- nor is an import that is refused before its file is read
pub early_live : (f : Facts) (o : Option Refusal) → o ≡ first_failing ((is_none f.rank, NoAccount) ∷ import_checks f) → IfSome o (λ e. e ≢ Failed)
early_live f None is = tt
early_live f (Some r) is =
    not_failed r (subst (λ (o : Option Refusal). is_judged (answer (unless o Done)) ≡ true) (sym is) (first_judges ((is_none f.rank, NoAccount) ∷ import_checks f) Done (refl, (refl, tt))))
