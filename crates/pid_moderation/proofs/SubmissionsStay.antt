-- Submissions, their decisions and their remarks stay good.
use Rattle.std.proofs.Common.{◌≡◌, ℕ, ◌+◌, ◌≤◌, zero, suc, Bool, true, false, cond, eqb, List, [], ◌∷◌, ◌++◌, length, length-append, Option, Some, None, refl, sym, subst, arith}
use Rattle.std.specs.Prelude.{nat_le, slice_get}
use Rattle.std.specs.Option.{option_map}
use Rattle.std.proofs.lemmas.Bool.Decides.{nat_tests, Decides-eqb}
use Rattle.pid_file.specs.Bytes.{is_empty}
use Rattle.pid_file.specs.Words.{is_text}
use Rattle.pid_moderation.specs.declared.command.Expected.{Expected}
use Rattle.pid_moderation.specs.declared.facts.Facts.{Facts}
use Rattle.pid_moderation.specs.declared.facts.State.{State}
use Rattle.pid_moderation.specs.declared.facts.State.TheVariants.{Pending, Approved, Rejected, Withdrawn}
use Rattle.pid_moderation.specs.declared.rank.Rank.{Rank}
use Rattle.pid_moderation.specs.History.{Deed, Submits, Comments, Withdraws, Approves, Rejects, Begins, More, History}
use Rattle.pid_moderation.specs.Views.{Views, Submitted, Remark, views_of, rank_of, submits_of, submitted, submission_at, state_of, decided, remarks_of, remarked}
use Rattle.pid_moderation.specs.FactsOfViews.{with_item_facts, known}
use Rattle.pid_moderation.specs.CheckTables.{command_checks, if_named, comment_checks, decision_checks, withdraw_checks, is_ill_formed, most_submissions, most_remarks}
use Rattle.pid_moderation.specs.Sound.{IsRegistered, IsGoodSubmission, AreGoodSubmissions, IsDecidedByOther, IsDecidedWell, IsGoodRemark, AreGoodRemarks, IsRemarkedWell}
use Rattle.pid_moderation.specs.WellMade.{IsWellMade}
use Rattle.pid_moderation.proofs.Changing.{asks, entry, seen}
use Rattle.pid_moderation.proofs.Knowing.{to_deed, approving, caller_known, known_stays}
use Rattle.pid_moderation.proofs.Passing.{AllPass}
use Rattle.pid_moderation.proofs.Reaching.{Stays}

-- what is known stays known
abbrev pub StillKnown : History → History → Type 0
StillKnown h next = (a : List ℕ) → IsRegistered a h → IsRegistered a next

-- most_submissions

abbrev pub AllSubmitted : History → Type 0
AllSubmitted h = AreGoodSubmissions h (submits_of h)

still_submitted : (h next : History) (ss : List Submitted) → StillKnown h next → AreGoodSubmissions h ss → AreGoodSubmissions next ss
still_submitted h next [] still old = tt
still_submitted h next (s ∷ ss) still old = (record { author = still s.author old.0.author; path = old.0.path; proposal = old.0.proposal; note = old.0.note }, still_submitted h next ss still old.1)

one_more : (h : History) (ss : List Submitted) (s : Submitted) → AreGoodSubmissions h ss → IsGoodSubmission h s → AreGoodSubmissions h (ss ++ s ∷ [])
one_more h [] s old new = (new, tt)
one_more h (x ∷ ss) s old new = (old.0, one_more h ss s old.1 new)

submitted_well : (h next : History) (account : List ℕ) (key : Option (List ℕ)) (deed : Deed) (ss : List Submitted) → StillKnown h next → IsRegistered account h → IsWellMade (asks account key deed) → AreGoodSubmissions h ss → AreGoodSubmissions next (submitted account deed ss)
submitted_well h next account key (Submits path proposal note) ss still caller made old = one_more next ss _ (still_submitted h next ss still old) (record { author = still account caller; path = made.2.0; proposal = made.2.1; note = made.2.2 })
submitted_well h next account key deed ss still caller made old = still_submitted h next ss still old

pub submissions_stay : Stays AllSubmitted
submissions_stay h account key deed reply made passed old = submitted_well h (More (entry (asks account key deed) reply) h) account key deed (submits_of h) (known_stays h account key deed reply) (caller_known h account key deed passed.all) made old

abbrev pub FewSubmitted : History → Type 0
FewSubmitted h = length (submits_of h) ≤ most_submissions

one_within : (ss : List Submitted) (s : Submitted) → nat_le most_submissions (length ss) ≡ false → length (ss ++ s ∷ []) ≤ most_submissions
one_within ss s h = rw (length-append ss (s ∷ [])) (within (length ss) h)
  where
    within : (n : ℕ) → nat_le most_submissions n ≡ false → n + 1 ≤ most_submissions
    within n h = grind (arith, nat_tests)

few_stay : (h : History) (account : List ℕ) (key : Option (List ℕ)) (deed : Deed) → FewSubmitted h → AllPass (command_checks (to_deed h account key deed) (asks account key deed)) → length (submitted account deed (submits_of h)) ≤ most_submissions
few_stay h account key (Submits path proposal note) old passed = one_within (submits_of h) _ passed.1.0
few_stay h account key deed old passed = old

pub few_submissions_stay : Stays FewSubmitted
few_submissions_stay h account key deed reply made passed old = few_stay h account key deed old passed.all

-- DECIDERS

abbrev pub AreDecided : History → Type 0
AreDecided h = (n : ℕ) → IsDecidedWell h (submission_at n (submits_of h)) (state_of n h)

still_decided : (h next : History) (author : List ℕ) (state : State) → StillKnown h next → IsDecidedByOther h author state → IsDecidedByOther next author state
still_decided h next author Pending still old = tt
still_decided h next author (Approved decider) still old = (old.0, still decider old.1)
still_decided h next author (Rejected decider reason) still old = (old.0, still decider old.1, old.2, old.3)
still_decided h next author Withdrawn still old = tt

still_well : (h next : History) (o : Option Submitted) (state : State) → StillKnown h next → IsDecidedWell h o state → IsDecidedWell next o state
still_well h next None state still old = old
still_well h next (Some s) state still old = still_decided h next s.author state still old

push_at : (h : History) (n : ℕ) (xs : List Submitted) (s : Submitted) (state : State) → IsDecidedWell h (slice_get xs n) state → IsDecidedWell h (slice_get (xs ++ s ∷ []) n) state
push_at h zero [] s state old = subst (IsDecidedByOther h s.author) (sym old) tt
push_at h (suc n) [] s state old = old
push_at h zero (x ∷ xs) s state old = old
push_at h (suc n) (x ∷ xs) s state old = push_at h n xs s state old

push_well : (h : History) (n : ℕ) (xs : List Submitted) (s : Submitted) (state : State) → IsDecidedWell h (submission_at n xs) state → IsDecidedWell h (submission_at n (xs ++ s ∷ [])) state
push_well h zero xs s state old = old
push_well h (suc n) xs s state old = push_at h n xs s state old

well_if : (h : History) (n m : ℕ) (xs : List Submitted) (new old : State) → IsDecidedWell h (submission_at m xs) new → IsDecidedWell h (submission_at n xs) old → IsDecidedWell h (submission_at n xs) (cond (eqb n m) new old)
well_if h n m xs new old here before = chosen (eqb n m) refl
  where
    chosen : (b : Bool) → eqb n m ≡ b → IsDecidedWell h (submission_at n xs) (cond b new old)
    chosen true e = subst (λ (k : ℕ). IsDecidedWell h (submission_at k xs) new) (sym ((Decides-eqb n m).0 e)) here
    chosen false e = before

approved_well : (h : History) (o : Option Submitted) (v : Views) (n : ℕ) (e : Expected) (account : List ℕ) (key : Option (List ℕ)) → IsRegistered account h → AllPass (approving (with_item_facts v (option_map (seen v n) o) (known v account key)) e account) → IsDecidedWell h o (Approved account)
approved_well h None v n e account key caller passed = let bad = passed.1.0 in absurd cc
approved_well h (Some s) v n e account key caller passed = (passed.1.1.1.0, caller)

rejected_well : (h : History) (o : Option Submitted) (v : Views) (n : ℕ) (account reason : List ℕ) (rank : Option Rank) → IsRegistered account h → is_text reason ≡ true → is_empty reason ≡ false → AllPass (if_named (option_map (seen v n) o) (decision_checks account rank)) → IsDecidedWell h o (Rejected account reason)
rejected_well h None v n account reason rank caller text filled passed = let bad = passed.0 in absurd cc
rejected_well h (Some s) v n account reason rank caller text filled passed = (passed.1.1.0, caller, text, filled)

withdrawn_well : (h : History) (o : Option Submitted) (v : Views) (n : ℕ) (account : List ℕ) → AllPass (if_named (option_map (seen v n) o) (withdraw_checks account)) → IsDecidedWell h o Withdrawn
withdrawn_well h None v n account passed = let bad = passed.0 in absurd cc
withdrawn_well h (Some s) v n account passed = tt

decided_well : (h : History) (account : List ℕ) (key : Option (List ℕ)) (deed : Deed) → IsRegistered account h → IsWellMade (asks account key deed) → is_ill_formed (to_deed h account key deed) deed ≡ false → AreDecided h → AllPass (command_checks (to_deed h account key deed) (asks account key deed)) → (n : ℕ) → IsDecidedWell h (submission_at n (submitted account deed (submits_of h))) (decided n account deed (state_of n h))
decided_well h account key (Submits path proposal note) caller made formed old passed n = push_well h n (submits_of h) _ (state_of n h) (old n)
decided_well h account key (Approves m e) caller made formed old passed n = well_if h n m (submits_of h) (Approved account) (state_of n h) (approved_well h (submission_at m (submits_of h)) (views_of h) m e account key caller passed) (old n)
decided_well h account key (Rejects m reason) caller made formed old passed n = well_if h n m (submits_of h) (Rejected account reason) (state_of n h) (rejected_well h (submission_at m (submits_of h)) (views_of h) m account reason (rank_of account h) caller made.2 formed passed.1) (old n)
decided_well h account key (Withdraws m) caller made formed old passed n = well_if h n m (submits_of h) Withdrawn (state_of n h) (withdrawn_well h (submission_at m (submits_of h)) (views_of h) m account passed.1) (old n)
decided_well h account key deed caller made formed old passed n = old n

pub deciders_stay : Stays AreDecided
deciders_stay h account key deed reply made passed old = λ n. still_well h (More (entry (asks account key deed) reply) h) _ _ (known_stays h account key deed reply) (decided_well h account key deed (caller_known h account key deed passed.all) made passed.well_formed old passed.all n)

pub none_decided : (mark : ℕ) → AreDecided (Begins mark)
none_decided mark zero = refl
none_decided mark (suc n) = refl

-- most_remarks

abbrev pub AreRemarked : History → Type 0
AreRemarked h = (n : ℕ) → IsRemarkedWell h (submission_at n (submits_of h)) (remarks_of n h)

still_remarks : (h next : History) (rs : List Remark) → StillKnown h next → AreGoodRemarks h rs → AreGoodRemarks next rs
still_remarks h next [] still old = tt
still_remarks h next (r ∷ rs) still old = (record { author = still r.author old.0.author; text = old.0.text; filled = old.0.filled }, still_remarks h next rs still old.1)

still_remarked : (h next : History) (o : Option Submitted) (rs : List Remark) → StillKnown h next → IsRemarkedWell h o rs → IsRemarkedWell next o rs
still_remarked h next None rs still old = old
still_remarked h next (Some s) rs still old = (still_remarks h next rs still old.0, old.1)

no_remarks : (h : History) (rs : List Remark) → rs ≡ [] → AreGoodRemarks h rs × (length rs ≤ most_remarks)
no_remarks h rs e = subst (λ (l : List Remark). AreGoodRemarks h l × (length l ≤ most_remarks)) (sym e) (tt, omega arith)

push_remarked_at : (h : History) (n : ℕ) (xs : List Submitted) (s : Submitted) (rs : List Remark) → IsRemarkedWell h (slice_get xs n) rs → IsRemarkedWell h (slice_get (xs ++ s ∷ []) n) rs
push_remarked_at h zero [] s rs old = no_remarks h rs old
push_remarked_at h (suc n) [] s rs old = old
push_remarked_at h zero (x ∷ xs) s rs old = old
push_remarked_at h (suc n) (x ∷ xs) s rs old = push_remarked_at h n xs s rs old

push_remarked : (h : History) (n : ℕ) (xs : List Submitted) (s : Submitted) (rs : List Remark) → IsRemarkedWell h (submission_at n xs) rs → IsRemarkedWell h (submission_at n (xs ++ s ∷ [])) rs
push_remarked h zero xs s rs old = old
push_remarked h (suc n) xs s rs old = push_remarked_at h n xs s rs old

more_remarks : (h : History) (rs : List Remark) (r : Remark) → AreGoodRemarks h rs → IsGoodRemark h r → AreGoodRemarks h (rs ++ r ∷ [])
more_remarks h [] r old new = (new, tt)
more_remarks h (x ∷ rs) r old new = (old.0, more_remarks h rs r old.1 new)

one_remark_more : (rs : List Remark) (r : Remark) → nat_le most_remarks (length rs) ≡ false → length (rs ++ r ∷ []) ≤ most_remarks
one_remark_more rs r h = rw (length-append rs (r ∷ [])) (within (length rs) h)
  where
    within : (n : ℕ) → nat_le most_remarks n ≡ false → n + 1 ≤ most_remarks
    within n h = grind (arith, nat_tests)

commented_well : (h : History) (o : Option Submitted) (v : Views) (n : ℕ) (f : Facts) (rs : List Remark) (r : Remark) → f.remarks ≡ length rs → IsGoodRemark h r → IsRemarkedWell h o rs → AllPass (if_named (option_map (seen v n) o) (comment_checks f)) → IsRemarkedWell h o (rs ++ r ∷ [])
commented_well h None v n f rs r same good old passed = let bad = passed.0 in absurd cc
commented_well h (Some s) v n f rs r same good old passed = (more_remarks h rs r old.0 good, one_remark_more rs r (subst (λ (k : ℕ). nat_le most_remarks k ≡ false) same passed.0))

remarked_if : (h : History) (n m : ℕ) (xs : List Submitted) (r : Remark) → IsRemarkedWell h (submission_at m xs) (remarks_of m h ++ r ∷ []) → IsRemarkedWell h (submission_at n xs) (remarks_of n h) → IsRemarkedWell h (submission_at n xs) (cond (eqb n m) (remarks_of n h ++ r ∷ []) (remarks_of n h))
remarked_if h n m xs r here before = chosen (eqb n m) refl
  where
    chosen : (b : Bool) → eqb n m ≡ b → IsRemarkedWell h (submission_at n xs) (cond b (remarks_of n h ++ r ∷ []) (remarks_of n h))
    chosen true e = subst (λ (k : ℕ). IsRemarkedWell h (submission_at k xs) (remarks_of k h ++ r ∷ [])) (sym ((Decides-eqb n m).0 e)) here
    chosen false e = before

remarked_well : (h : History) (account : List ℕ) (key : Option (List ℕ)) (deed : Deed) → IsRegistered account h → IsWellMade (asks account key deed) → is_ill_formed (to_deed h account key deed) deed ≡ false → AreRemarked h → AllPass (command_checks (to_deed h account key deed) (asks account key deed)) → (n : ℕ) → IsRemarkedWell h (submission_at n (submitted account deed (submits_of h))) (remarked n account deed (remarks_of n h))
remarked_well h account key (Submits path proposal note) caller made formed old passed n = push_remarked h n (submits_of h) _ (remarks_of n h) (old n)
remarked_well h account key (Comments m text) caller made formed old passed n = remarked_if h n m (submits_of h) (record { author = account; text = text }) (commented_well h (submission_at m (submits_of h)) (views_of h) m (to_deed h account key (Comments m text)) (remarks_of m h) _ refl (record { author = caller; text = made.2; filled = formed }) (old m) passed.1) (old n)
remarked_well h account key deed caller made formed old passed n = old n

pub remarks_stay : Stays AreRemarked
remarks_stay h account key deed reply made passed old = λ n. still_remarked h (More (entry (asks account key deed) reply) h) _ _ (known_stays h account key deed reply) (remarked_well h account key deed (caller_known h account key deed passed.all) made passed.well_formed old passed.all n)

pub none_remarked : (mark : ℕ) → AreRemarked (Begins mark)
none_remarked mark zero = refl
none_remarked mark (suc n) = refl
