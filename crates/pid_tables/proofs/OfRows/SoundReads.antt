-- What a sound history shows can be read.
use Rattle.std.proofs.Common.{◌≡◌, ℕ, zero, suc, ◌<◌, ◌≤◌, ◌^◌, List, [], ◌∷◌, length, Option, Some, None, slice_get, refl, sym, subst, arith}
use Rattle.std.specs.List.{AllByRecursion}
use Rattle.std.specs.FinMap.{entries}
use Rattle.std.proofs.lemmas.Option.{slice_get_within}
use Rattle.pid_moderation.specs.declared.command.Reply.{Reply}
use Rattle.pid_moderation.specs.declared.command.Reply.TheVariants.{Done, Numbered, Counts}
use Rattle.pid_moderation.specs.declared.facts.State.{State}
use Rattle.pid_moderation.specs.declared.facts.State.TheVariants.{Pending, Approved, Rejected, Withdrawn}
use Rattle.pid_moderation.specs.History.{History}
use Rattle.pid_moderation.specs.Sound.{IsSound, AreGoodSubmissions, IsDecidedByOther, IsDecidedWell, AreGoodRemarks, IsRemarkedWell, IsSubmissionBy, IsOwnReply}
use Rattle.pid_moderation.specs.Views.{Submitted, Remark, submits_of, submission_at, state_of, remarks_of, items_of, views_of}
use Rattle.pid_moderation.specs.WellMade.{AllItems}
use Rattle.pid_moderation.specs.Writes.{tree_of}
use Rattle.pid_moderation.specs.Laws.{TreesAreFiles}
use Rattle.pid_tables.specs.Rows.Causes.{IsReadable, IsReadableSubmission, IsReadableState, IsReadableRemark, IsReadableReply}

module _ (files : TreesAreFiles) (h : History) (same : entries (tree_of h) ≡ items_of h) (sound : IsSound h) where
  items_good : AllItems (items_of h)
  items_good = subst AllItems same (files (tree_of h) sound.tree (subst (λ es. length es ≤ 100000) (sym same) sound.item_limit)).items

  submissions_good : (ss : List Submitted) → AreGoodSubmissions h ss → AllByRecursion IsReadableSubmission ss
  submissions_good [] good = tt
  submissions_good (s ∷ ss) good =
      (record { author = sound.accounts s.author good.0.author; path = good.0.path; proposal = good.0.proposal; note = good.0.note }, submissions_good ss good.1)

  decision_good : (author : List ℕ) (state : State) → IsDecidedByOther h author state → IsReadableState state
  decision_good author Pending d = tt
  decision_good author (Approved decider) d = sound.accounts decider d.1
  decision_good author (Rejected decider reason) d = (sound.accounts decider d.1, d.2)
  decision_good author Withdrawn d = tt

  state_good : (o : Option Submitted) (state : State) → IsDecidedWell h o state → IsReadableState state
  state_good None state d = subst IsReadableState (sym d) tt
  state_good (Some s) state d = decision_good s.author state d

  remarks_good : (rs : List Remark) → AreGoodRemarks h rs → AllByRecursion IsReadableRemark rs
  remarks_good [] good = tt
  remarks_good (r ∷ rs) good = (record { author = sound.accounts r.author good.0.author; text = good.0.text }, remarks_good rs good.1)

  remarked_good : (o : Option Submitted) (rs : List Remark) → IsRemarkedWell h o rs → AllByRecursion IsReadableRemark rs × (length rs < 2 ^ 32)
  remarked_good None rs none = subst (λ xs. AllByRecursion IsReadableRemark xs × (length xs < 2 ^ 32)) (sym none) (tt, omega arith)
  remarked_good (Some s) rs good = (remarks_good rs good.0, omega (arith, good.1))

  numbered_low : (n : ℕ) (account : List ℕ) (ss : List Submitted) → IsSubmissionBy account (submission_at n ss) → n ≤ length ss
  numbered_low zero account ss mine = omega arith
  numbered_low (suc n) account ss mine = low (slice_get ss n) refl mine
    where
      low : (o : Option Submitted) → slice_get ss n ≡ o → IsSubmissionBy account o → suc n ≤ length ss
      low None e mine = absurd mine
      low (Some s) e mine = let within = slice_get_within ss n s e in omega (arith, within)

  reply_good : (account : List ℕ) (reply : Reply) → IsOwnReply h account reply → IsReadableReply reply
  reply_good account Done mine = tt
  reply_good account (Numbered n) mine = let low = numbered_low n account (submits_of h) mine in omega (arith, low, sound.submission_limit)
  reply_good account (Counts added renamed same) mine = (omega (arith, mine), omega (arith, mine), omega (arith, mine))

  pub sound_reads : IsReadable (views_of h)
  sound_reads = record {
    items = items_good;
    item_count = omega (arith, sound.item_limit);
    submissions = submissions_good (submits_of h) sound.submissions;
    submission_count = omega (arith, sound.submission_limit);
    states = λ n. state_good (submission_at n (submits_of h)) (state_of n h) (sound.deciders n);
    remarks = λ n. (remarked_good (submission_at n (submits_of h)) (remarks_of n h) (sound.remarks n)).0;
    remark_count = λ n. (remarked_good (submission_at n (submits_of h)) (remarks_of n h) (sound.remarks n)).1;
    replies = λ account key reply kept. reply_good account reply (sound.kept account key reply kept).reply;
  }
