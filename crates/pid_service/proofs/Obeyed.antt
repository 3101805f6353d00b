-- What a registry shows after a command, by how far it came.
use Rattle.std.proofs.Common.{◌≡◌, ◌⊎◌, inl, inr, Bool, true, false, Result, Ok, Err, IfErr, MatchResult, refl, sym, subst, ap, ◌∙◌, arith}
use Rattle.pid_tables.proofs.Refused.{refused_stays}
use Rattle.pid_moderation.specs.declared.refusal.Refusal.TheVariants.{Memory}
use Rattle.pid_moderation.specs.Judgement as Outcomes
use Rattle.pid_tables.specs.Rows.Clauses.{AtRest}
use Rattle.pid_service.specs.declared.judging.Judged.TheVariants.{Kept}
use Rattle.pid_service.specs.Histories.{IsMemoryOrStore}
use Rattle.pid_service.specs.Registries.{HasCleanDisk, OnlyReads}
use Rattle.pid_service.proofs.Words.{Accepted, Account, Act, after, answer, Approve, Asked, asked, BadText, Change, changed, Command, Comment, connection, Deed, deed_of, FitsViews, Ghosts, HasGoodFile, History, Import, is_import, is_live, IsAccepted, IsCausedAs, IsJudgedFor, IsReached, IsRefusedFor, IsRightFor, IsWellMade, judge, Judged, JudgesCommand, KeepsNothing, kept_views, KeptViews, LeavesEither, Obeys, Reading, Refusal, Registry, Reject, Reply, Shows, Submit, TooLong, Views, views_of, Withdraw}

module _ {S : Type 0} (database : Ghosts S) where
  pub only_read : (old new : Registry S database) (h : History) → is_live new ≡ is_live old → OnlyReads database old new → kept_views new ≡ kept_views old → Shows database old h → Shows database new h
  only_read old new h same reads names shows = record { lives = same ∙ shows.lives; history = shows.history; tables = reads.kept (views_of h) shows.tables; kept = λ clean. subst (λ (k : KeptViews). IsRightFor k (views_of h)) (sym names) (shows.kept (reads.clean clean)) }

  pub refused : (r : Registry S database) (h : History) (c : Asked) (e : Refusal) → Shows database r h → JudgesCommand h c (Err e) → Obeys database (Err e) r h c
  refused r h c e shows (inl told) = inl (sym told.0, subst (Shows database r) (sym told.1) shows)
  refused r h c e shows (inr fault) = inr (fault, inl shows)

  pub kept : (r : Registry S database) (h : History) (c : Asked) (reply : Reply) → Shows database r h → JudgesCommand h c (Ok (Kept reply)) → Obeys database (Ok reply) r h c
  kept r h c reply shows told = inl (sym told.0, subst (Shows database r) (sym told.1) shows)

  pub accepted : (old new : Registry S database) (h : History) (c : Asked) (change : Change) (reply : Reply) → Shows database old h → JudgesCommand h c (Ok (Accepted change reply)) → IsReached (after h c)
      → ((v : Views) → AtRest database.state (connection old) v → FitsViews change v → AtRest database.state (connection new) (changed change v)) → is_live new ≡ is_live old
      → (HasCleanDisk database new → HasCleanDisk database old) → (FitsViews change (views_of h) → IsRightFor (kept_views old) (views_of h) → IsRightFor (kept_views new) (changed change (views_of h))) → Obeys database (Ok reply) new h c
  accepted old new h c change reply shows told reached stands same back names = inl (
    sym (ap answer told.judged),
    record {
      lives = same ∙ shows.lives;
      history = reached;
      tables = subst (AtRest database.state (connection new)) (sym told.leads) (stands (views_of h) shows.tables told.fits);
      kept = λ clean. subst (IsRightFor (kept_views new)) (sym told.leads) (names told.fits (shows.kept (back clean)));
    },
  )

  pub failed : (old new : Registry S database) (h : History) (c : Asked) (change : Change) (reply : Reply) (e : Refusal) → Shows database old h → JudgesCommand h c (Ok (Accepted change reply)) → IsReached (after h c)
      → ((v : Views) → AtRest database.state (connection old) v → FitsViews change v → LeavesEither database.state (connection new) v (changed change v)) → is_live new ≡ false → KeepsNothing (kept_views new) → IsMemoryOrStore e → Obeys database (Err e) new h c
  failed old new h c change reply e shows told reached either off none fault = inr (
    fault,
    inr (record {
      has_failed = off;
      forgotten = none;
      before = shows.history;
      next = reached;
      leaves = subst (λ (w : Views). LeavesEither database.state (connection new) (views_of h) w) (sym told.leads) (either (views_of h) shows.tables told.fits);
    }),
  )

  -- a refusal that the judgement answers, or that has its cause in the call
  pub judged_for : (old new : S) (live : Bool) (h : History) (c : Asked) (e : Refusal) → live ≡ true → IsJudgedFor database.state old new h c e
      → (answer (judge (views_of h) c) ≡ Err e) ⊎ (((live ≡ true) × IsCausedAs database.state old new e) ⊎ ((live ≡ false) × IsAccepted h c))
  judged_for old new live h c e on (inl told) = inl told
  judged_for old new live h c e on (inr cause) = inr (inl (on, cause))

  pub told_or_short : {X : Type 0} (old new : S) (h : History) (c : Asked) (r : Result X Refusal) → IfErr r (λ e. (answer (judge (views_of h) c) ≡ Err e) ⊎ (e ≡ Memory)) → IfErr r (IsJudgedFor database.state old new h c)
  told_or_short old new h c (Ok x) told = tt
  told_or_short old new h c (Err e) (inl told) = inl told
  told_or_short old new h c (Err e) (inr is) = inr (subst (IsCausedAs database.state old new) (sym is) tt)

  -- a fault of the change leaves the registry failed, over a command that the judgement accepts
  pub failed_over : (start new : Registry S database) (live : Bool) (h : History) (c : Asked) (judged : Judged) (r : Result Reply Refusal) → MatchResult r (λ x. is_live new ≡ live) (λ e. IsMemoryOrStore e × (is_live new ≡ false))
      → ((reply : Reply) → judged ≡ Kept reply → r ≡ Ok reply) → JudgesCommand h c (Ok judged) → IfErr r (IsRefusedFor database start new h c)
  failed_over start new live h c judged (Ok x) held kept told = tt
  failed_over start new live h c (Kept reply) (Err e) held kept told = absurd (let is : ◌≡◌ {A = Result Reply Refusal} (Err e) (Ok reply) = kept reply refl in let no : ⊥ = cc in no)
  failed_over start new live h c (Accepted change reply) (Err e) (fault, off) kept told = inr (inr (off, (reply, told.judged)))

  pub broken_form : (r : Registry S database) (h : History) (c : Asked) → Shows database r h → judge (views_of h) c ≡ Outcomes.Refused BadText → Obeys database (Err BadText) r h c
  broken_form r h c shows is =
      let told : answer (judge (views_of h) c) ≡ Err BadText = ap answer is in
      inl (sym told, subst (Shows database r) (sym (refused_stays h c BadText told)) shows)

-- commands without a file

no_file : HasGoodFile TooLong
no_file = record {
  items = tt;
  apart = tt;
  tree = record { parents = λ path there. absurd (let no : ⊥ = cc in no) };
  limit = omega arith;
}

same_deed : (act : Act) (reading : Reading) → is_import act ≡ false → deed_of act TooLong ≡ deed_of act reading
same_deed (Account who rank) reading other = refl
same_deed (Submit path proposal note) reading other = refl
same_deed (Comment number text) reading other = refl
same_deed (Withdraw number) reading other = refl
same_deed (Approve number expected) reading other = refl
same_deed (Reject number reason) reading other = refl
same_deed (Import file) reading other = absurd (let no : ⊥ = cc in no)

pub well_made : (command : Command) (reading : Reading) → is_import command.act ≡ false → ((r : Reading) → HasGoodFile r → IsWellMade (asked command r)) → IsWellMade (asked command reading)
well_made command reading other law =
    subst (λ (d : Deed). IsWellMade (record { account = command.account; key = command.key; deed = d })) (same_deed command.act reading other) (law TooLong no_file)
