-- What an opened database is, by what it was.
use Rattle.std.proofs.Common.{◌≡◌, ◌⊎◌, inl, inr, Bool, true, false, IsTrue, Some, Result, Ok, Err, IfErr, IfOk, OnOk, MatchResult, refl, sym, subst}
use Rattle.sqlite.specs.State.{State}
use Rattle.sqlite.proofs.StateLemmas.{survives_then}
use Rattle.pid_tables.specs.Rows.Faults.{IsMemoryOrStore}
use Rattle.pid_tables.specs.Rows.Clauses as clauses
use Rattle.pid_tables.specs.Rows.Leaves.{AtRest, OnlyReads}
use Rattle.pid_tables.specs.Clauses as tables
use Rattle.pid_tables.proofs.AtOnceLemmas.{reads_back}
use Rattle.pid_tables.specs.ShowsOrBlank.{ShowsOrBlank}
use Rattle.pid_tables.proofs.OfRows.OnlyReading.{reads_then, rests_in_still}
use Rattle.pid_tables.proofs.StandLemmas.{only_store_explains, seen_still}
use Rattle.pid_service.proofs.Words.{Already, Brings, Created, Database, Explains, ExplainsNow, ExplainsOpening, Fails, FindsVersion, Ghosts, HasSomeTable, HasWritten, History, IsCommitted, IsFound, IsOneStep, IsTakenBack, KeepsTables, KeepsViews, Left, MayHaveMade, Moved, new_history, One, OpensAtOnce, Raised, Refuses, RestsBare, RestsIn, Stays, Step, Survives, TableFault, Trees, Two, views_of}

-- what a step tells where the tables were not there, were in schema 1, and were in the schema of today
pub record Steps (s : State) (h : History) (New : Type 0) (Old : Type 0) (Today : Type 0) : Type 0 where
  pub created : RestsBare s → New
  pub moved : RestsIn One s (views_of h) → Old
  pub already : AtRest s (views_of h) → Today

pub step_rests : (s t : State) (h : History) (step : Step) → ShowsOrBlank s h
    → Steps s h ((step ≡ Created) × AtRest t (views_of new_history)) ((step ≡ Moved) × AtRest t (views_of h)) ((step ≡ Already) × AtRest t (views_of h)) → AtRest t (views_of h)
step_rests s t h step (inl rest) steps = (steps.already rest).1
step_rests s t h step (inr (inl older)) steps = (steps.moved older).1
step_rests s t h step (inr (inr bare)) steps = subst (λ (g : History). AtRest t (views_of g)) (sym bare.1) (steps.created bare.0).1

pub step_shown : (s t : State) (h : History) (e : TableFault) → ShowsOrBlank s h
    → Steps s h (IsMemoryOrStore e × RestsBare t) (IsMemoryOrStore e × RestsIn One t (views_of h)) (IsMemoryOrStore e × AtRest t (views_of h)) → IsMemoryOrStore e × ShowsOrBlank t h
step_shown s t h e (inl rest) steps = let so = steps.already rest in (so.0, inl so.1)
step_shown s t h e (inr (inl older)) steps = let so = steps.moved older in (so.0, inr (inl so.1))
step_shown s t h e (inr (inr bare)) steps = let so = steps.created bare.0 in (so.0, inr (inr (so.1, bare.1)))

-- tables at rest were judged
pub judged_ready : {X : Type 0} (s t : State) (h : History) (r : Result X TableFault) → OnlyReads s t → AtRest s (views_of h) → IfErr r IsMemoryOrStore → MatchResult r (λ x. AtRest t (views_of h)) (λ e. IsMemoryOrStore e × ShowsOrBlank t h)
judged_ready s t h (Ok x) reads rest only_store = reads.kept (views_of h) rest
judged_ready s t h (Err e) reads rest only_store = (only_store, inl (reads.kept (views_of h) rest))

-- where there is some table: a migration before the judgement leaves them, or found a registry in schema 1

abbrev Judged : {X : Type 0} → Database → Result X TableFault → Type 0
Judged d r = MatchResult r (λ x. FindsVersion d (Some Two)) (Explains d)

-- while the connection is open, the fault tells what fails of what it sees
abbrev Now : State → TableFault → Type 0
Now new e = IsTrue new.is_open → Explains new.now e

abbrev IsReady : {X : Type 0} → State → State → Result X TableFault → Type 0
IsReady old new r = MatchResult r (λ x. IsFound old.now) (λ e. Refuses old e new ⊎ (FindsVersion old.now (Some One) × Now new e))

same_judged : {X : Type 0} (old new : State) (r : Result X TableFault) → OnlyReads old new → Judged old.now r → IsReady old new r
same_judged old new (Ok x) reads judged = (Two, judged)
same_judged old new (Err e) reads explains = inl (Fails explains reads)

shut_judged : {X : Type 0} (old new : State) (r : Result X TableFault) → OnlyReads old new → MatchResult r (λ x. ⊥) IsMemoryOrStore → IsReady old new r
shut_judged old new (Ok x) reads only_store = absurd only_store
shut_judged old new (Err e) reads only_store = inl (Fails (only_store_explains old.now e only_store) reads)

moved_found : {X : Type 0} (old mid new : State) (r : Result X TableFault) → (IsTrue new.is_open → new.now ≡ mid.now) → Judged mid.now r → FindsVersion old.now (Some One) → IsReady old new r
moved_found old mid new (Ok x) same judged found = (One, found)
moved_found old mid new (Err e) same explains found = inr (found, λ opened. subst (λ d. Explains d e) (sym (same opened)) explains)

open_or_shut : (b : Bool) → (b ≡ true) ⊎ (b ≡ false)
open_or_shut true = inl refl
open_or_shut false = inr refl

pub told_then : {X : Type 0} (old mid new : State) (r : Result X TableFault) (step : Step) → (IsTrue old.is_open → old.now ≡ old.committed) → OnlyReads mid new → (IsTrue new.is_open → new.now ≡ mid.now)
    → (mid.is_open ≡ false → MatchResult r (λ x. ⊥) IsMemoryOrStore) → Judged mid.now r → Brings old step mid → IsReady old new r
told_then old mid new r step settled reads same shut judged (Left is before) = elim (open_or_shut mid.is_open) [
  | inl opened ↦ same_judged old new r (reads_then old mid new before reads) (subst (λ (d : Database). Judged d r) (seen_still old mid settled before opened) judged)
  | inr closed ↦ shut_judged old new r (reads_then old mid new before reads) (shut closed)
]
told_then old mid new r step settled reads same shut judged (Raised is found) = moved_found old mid new r same judged found

-- what was judged is so of what is seen then

pub judged_now : {X : Type 0} (mid new : State) (r : Result X TableFault) → (IsTrue new.is_open → new.now ≡ mid.now) → Judged mid.now r → IfOk r (λ x. IsTrue new.is_open → FindsVersion new.now (Some Two))
judged_now mid new (Ok x) same found = λ opened. subst (λ d. FindsVersion d (Some Two)) (sym (same opened)) found
judged_now mid new (Err e) same explains = tt

pub explained_now : {X : Type 0} (Else : TableFault → Type 0) (mid new : State) (r : Result X TableFault) → (IsTrue new.is_open → new.now ≡ mid.now) → Judged mid.now r → IfErr r (λ e. Else e ⊎ Now new e)
explained_now Else mid new (Ok x) same found = tt
explained_now Else mid new (Err e) same explains = inr (λ opened. subst (λ d. Explains d e) (sym (same opened)) explains)

-- a step of the opening, said of the connections around it
pub moved : {X : Type 0} (P : X → X → Type 0) {a a' b b' : X} → a ≡ a' → b' ≡ b → P a b → P a' b'
moved P {a} {a'} {b} {b'} start end p = subst (λ x. P x b') start (subst (λ y. P a y) (sym end) p)

-- ---- in one step, whatever there was

pub once_then_reads : (a b c : State) → IsOneStep a b → OnlyReads b c → IsOneStep a c
once_then_reads a b c once reads = record {
  written = once.written;
  survives = survives_then a b c (λ db. db ≡ once.written) (λ _. ⊥) (λ db. db ≡ once.written) (λ clean db is. is) (λ clean db none. absurd none) once.survives reads.survives;
}

-- nothing is written but what makes a registry
pub made_then_reads : (IsMade : Trees → Type 0) (a b c : State) → Survives a b IsMade → OnlyReads b c → Survives a c IsMade
made_then_reads IsMade a b c made reads = survives_then a b c IsMade (λ _. ⊥) IsMade (λ clean db is. is) (λ clean db none. absurd none) made reads.survives

-- what was committed is there after reads
pub committed_then_reads : {S X : Type 0} (database : Ghosts S) (IsMade : Trees → Type 0) (mid new : S) (r : Result X TableFault) → IsCommitted IsMade (database.state mid) → clauses.OnlyReads database.state mid new
    → (IsTrue (clauses.is_open database.state new) → clauses.seen database.state new ≡ clauses.seen database.state mid) → clauses.HasCleanDisk database.state new → OnOk r (HasWritten database.state IsMade new)
committed_then_reads database IsMade mid new (Err e) made reads same clean = tt
committed_then_reads database IsMade mid new (Ok x) made reads same clean = record {
  sees = λ opened. subst (λ (d : Database). IsMade d.trees) (sym (same opened)) made.sees;
  leaves = λ db may. elim (reads.survives.crash clean db may) [ inl before ↦ subst IsMade (sym (made.leaves db before)) made.sees | inr none ↦ absurd none ];
}

-- what was moved and committed is there after reads, or nothing was done
pub moved_then_reads : {S X : Type 0} (database : Ghosts S) (IsMoved : Trees → Type 0) (old mid new : S) (r : Result X TableFault) (step : Step) → tables.Brings database.state old step mid → (step ≡ Moved → IsCommitted IsMoved (database.state mid))
    → clauses.OnlyReads database.state mid new → (IsTrue (clauses.is_open database.state new) → clauses.seen database.state new ≡ clauses.seen database.state mid) → clauses.HasCleanDisk database.state new → OnOk r (HasWritten database.state IsMoved new ⊎ clauses.OnlyReads database.state old new)
moved_then_reads database IsMoved old mid new (Err e) step brings moved reads same clean = tt
moved_then_reads database IsMoved old mid new (Ok x) step (Left is before) moved reads same clean = inr (reads_then (database.state old) (database.state mid) (database.state new) before reads)
moved_then_reads database IsMoved old mid new (Ok x) step (Raised is found) moved reads same clean = inl (committed_then_reads database IsMoved mid new (Ok x) (moved is) reads same clean)

-- what is taken back is seen as before
pub seen_back : (old new : State) → (IsTrue old.is_open → old.now ≡ old.committed) → IsTakenBack old new → IsTrue new.is_open → IsTrue old.is_open × (new.now ≡ old.now)
seen_back old new settled back opened = (back.was_open opened, (back.same old.now (record { sees = λ was. refl; committed = λ was. sym (settled was) })).sees opened)

-- a migration of tables that are not in schema 1, or do not keep its conditions, only reads

pub brought_reads : (old mid : State) (step : Step) → Brings old step mid → ¬ (FindsVersion old.now (Some One)) → OnlyReads old mid
brought_reads old mid step (Left is reads) none = reads
brought_reads old mid step (Raised is found) none = absurd (none found)

pub refused_reads : (old mid : State) (e : TableFault) → Refuses old e mid → ¬ (FindsVersion old.now (Some One)) → OnlyReads old mid
refused_reads old mid e (Fails explains reads) none = reads
refused_reads old mid e (Stays found later) none = absurd (none found)

-- where the judgement behind a migration fails

made_found : (old mid : State) (step : Step) → (step ≡ Already → ⊥) → Brings old step mid → FindsVersion old.now (Some One)
made_found old mid step made (Left is reads) = absurd (made is)
made_found old mid step made (Raised is found) = found

module _ {S : Type 0} (database : Ghosts S) where
  pub still_views : (old mid new : S) → clauses.OnlyReads database.state mid new → KeepsViews database.state old mid → KeepsViews database.state old new
  still_views old mid new reads kept version v rest = rests_in_still (database.state mid) (database.state new) v reads (kept version v rest)

  module _ (old mid new : S) (reads : clauses.OnlyReads database.state mid new) (kept : clauses.HasCleanDisk database.state mid → KeepsViews database.state old mid) where
    refused_then : (step : Step) (e : TableFault) → (step ≡ Already → ⊥) → (clauses.HasCleanDisk database.state mid → HasSomeTable (clauses.seen database.state old).schema → tables.Brings database.state old step mid)
        → (clauses.HasCleanDisk database.state new → ExplainsNow database.state new e) → MayHaveMade database.state old e new
    refused_then step e made brings told = record {
      found = λ clean some. made_found (database.state old) (database.state mid) step made (brings (reads.clean clean) some);
      kept = λ clean. still_views old mid new reads (kept (reads.clean clean));
      told = told;
    }

    pub back_after : {X : Type 0} (step : Step) (r : Result X TableFault) → (step ≡ Already → clauses.OnlyReads database.state old mid)
        → (clauses.HasCleanDisk database.state mid → HasSomeTable (clauses.seen database.state old).schema → tables.Brings database.state old step mid)
        → (clauses.HasCleanDisk database.state new → IfErr r (λ e. ExplainsNow database.state new e)) → IfErr r (λ e. tables.IsTakenBack database.state old new ⊎ MayHaveMade database.state old e new)
    back_after step (Ok x) already brings told = tt
    back_after Already (Err e) already brings told = inl (reads_back (database.state old) (database.state new) (reads_then (database.state old) (database.state mid) (database.state new) (already refl) reads))
    back_after Created (Err e) already brings told = inr (refused_then Created e (λ is. let no : ⊥ = cc in no) brings told)
    back_after Moved (Err e) already brings told = inr (refused_then Moved e (λ is. let no : ⊥ = cc in no) brings told)

pub explains_now : {X : Type 0} (mid new : State) (r : Result X TableFault) → (IsTrue new.is_open → new.now ≡ mid.now) → Judged mid.now r → IfErr r (λ e. Now new e)
explains_now mid new (Ok x) same found = tt
explains_now mid new (Err e) same explains = λ opened. subst (λ d. Explains d e) (sym (same opened)) explains

pub kept_ok : {X E P : Type 0} (r : Result X E) → P → IfOk r (λ _. P)
kept_ok (Ok x) p = p
kept_ok (Err e) p = tt

-- a step of the opening, in the records of its contract
module _ {S X : Type 0} {database : Ghosts S} {r : Result X TableFault} {a a' b b' : S} (start : a ≡ a') (end : b' ≡ b) where
  pub at_once_of : OpensAtOnce database.state a b r → OpensAtOnce database.state a' b' r
  at_once_of p = moved (λ x y. OpensAtOnce database.state x y r) start end p

  pub explains_of : ExplainsOpening database.state a b r → ExplainsOpening database.state a' b' r
  explains_of p = moved (λ x y. ExplainsOpening database.state x y r) start end p

  pub kept_of : KeepsTables database.state a b r → KeepsTables database.state a' b' r
  kept_of p = moved (λ x y. KeepsTables database.state x y r) start end p
