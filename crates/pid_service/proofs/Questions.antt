-- A registry that is asked on.
use Rattle.std.proofs.Common.{◌≡◌, ◌⊎◌, refl, rules, ℕ, ◌≤◌, Bool, true, false, ◌&&◌, List, [], ◌∷◌, Result, Ok, Err, IfErr, IsErrAnd, MatchResult, inl, inr, sym, ap, subst, ◌∙◌}
use Rattle.std.specs.List.{AllByRecursion}
use Rattle.std.specs.Ordering.{is_lt}
use Rattle.std.specs.Prelude.{map, take}
use Rattle.std.proofs.lemmas.Bool.{le-ltb}
use Rattle.sqlite_trees.proofs.ListLemmas.{filter_none}
use Rattle.pid_ident.specs.Trees.{text_cmp}
use Rattle.pid_moderation.specs.ChangePages.{Changed}
use Rattle.pid_moderation.specs.declared.refusal.Refusal.TheVariants.{Memory, Store}
use Rattle.pid_tables.proofs.OfCheck.Asking.{nothing_read}
use Rattle.pid_tables.proofs.OfRows.CauseLemmas.{caused_later, passed_on}
use Rattle.pid_tables.proofs.OfRows.OnlyReading.{reads_then}
use Rattle.pid_tables.specs.Rows.Clauses as clauses
use Rattle.pid_tables.specs.declared.rows.fault.TableFault.TheVariants as faults
use Rattle.pid_service.specs.Histories.{IsMemoryOrStore}
use Rattle.pid_service.specs.Registries.{HasCleanDisk, OnlyReads}
use Rattle.pid_service.proofs.Words.{answered_as, changed_after, connection, Failed, Finds, Ghosts, History, is_later, is_live, IsCausedAs, IsReached, IsReadable, Items, kept_views, MayGive, numbered_in, OnlyAsked, Refusal, refusal_for, Registry, Shows, TableFault, Views, views_of}
use Rattle.pid_service.proofs.Causes.{caused_as, caused_by}
use Rattle.pid_service.proofs.Keeping.{true_not}
use Rattle.pid_service.proofs.Obeyed.{only_read}

-- ---- what the tables answer, as a question answers it

short_or_store : (fault : TableFault) → IsMemoryOrStore (refusal_for fault)
short_or_store faults.Memory = inl refl
short_or_store faults.Store = inr refl
short_or_store (faults.NewerSchema n) = inr refl
short_or_store faults.Damaged = inr refl

said_as : {X E : Type 0} (r : Result X E) (Told Says : X → Type 0) (Why : E → Type 0) → ((x : X) → Told x → Says x) → MatchResult r Told Why → MatchResult r Says Why
said_as (Ok x) Told Says Why means told = means x told
said_as (Err e) Told Says Why means told = told

found_told : {X : Type 0} (found : Result X TableFault) (Told Says : X → Type 0) (Why : TableFault → Type 0) → ((x : X) → Told x → Says x) → MatchResult found Told Why → MatchResult (answered_as found) Says IsMemoryOrStore
found_told (Ok x) Told Says Why means told = means x told
found_told (Err fault) Told Says Why means told = short_or_store fault

may_give : {X : Type 0} (found : Result X TableFault) (live : Bool) → live ≡ true → IfErr (answered_as found) (MayGive live)
may_give (Ok x) live on = tt
may_give (Err fault) live on = record { alive = λ still. short_or_store fault; failed = λ off. absurd (let both : true ≡ false = sym on ∙ off in let no : ⊥ = cc in no) }

still_live : (live : Bool) → (live ≡ false → ⊥) → live ≡ true
still_live true off = refl
still_live false off = absurd (off refl)

answered : {Y : Type 0} (y : Y) (e : Refusal) → ◌≡◌ {A = Result Y Refusal} (Ok y) (Err e) → ⊥
answered y e is = cc

not_failed : {X : Type 0} → ◌≡◌ {A = Result X Refusal} (Err Memory) (Err Failed) → ⊥
not_failed is = cc

-- a refusal, whatever was asked for
abbrev refused_of : {X Y : Type 0} → Result X Refusal → Result Y Refusal
refused_of (Ok x) = Err Failed
refused_of (Err e) = Err e

module _ {S : Type 0} (database : Ghosts S) where
  -- a question that another one is refused by
  pub answers_refused : {X Y : Type 0} (old new : Registry S database) (e : Refusal) (Told : History → X → Type 0) (Says : History → Y → Type 0) → Finds database old new (Err e) Told → Finds database old new (Err e) Says
  answers_refused old new e Told Says refused = record {
    failed = λ off. let f = refused.failed off in (ap refused_of f.0, f.1);
    fault = refused.fault;
    lives = refused.lives;
    rests = refused.rests;
    told = refused.told;
    caused = refused.caused;
  }

  -- a live one, with one question more
  pub asked_then : (start old new : Registry S database) → is_live old ≡ true → is_live new ≡ is_live old → OnlyReads database old new → OnlyAsked database start old → OnlyAsked database start new
  asked_then start old new on same reads asked = record {
    lives = same ∙ asked.lives;
    rests = reads_then (database.state (connection start)) (database.state (connection old)) (database.state (connection new)) asked.rests reads;
    failed = λ off. absurd (let both : true ≡ false = sym on ∙ (asked.lives ∙ off) in let no : ⊥ = cc in no);
  }

  -- what the tables answer behind a read, they answer from before it on
  told_since : {X : Type 0} (r : Result X TableFault) (old mid new : S) (Told : X → Type 0) (Readable : Type 0) → clauses.OnlyReads database.state old mid → clauses.OnlyReads database.state mid new → clauses.HasCleanDisk database.state new
      → MatchResult r Told (λ fault. Readable → clauses.IsCaused database.state mid new fault) → MatchResult r Told (λ fault. Readable → clauses.IsCaused database.state old new fault)
  told_since (Ok x) old mid new Told Readable first second clean told = told
  told_since (Err fault) old mid new Told Readable first second clean told = λ readable. caused_later (database.state old) (database.state mid) (database.state new) (λ _. ⊥) fault first.survives second.survives.counts (second.clean clean) (told readable)

  pub reads_after : {X : Type 0} (old mid new : S) (r : Result X TableFault) (Told : Views → X → Type 0) → clauses.OnlyReads database.state old mid → clauses.Reads database.state mid new r Told → clauses.Reads database.state old new r Told
  reads_after old mid new r Told first read = record {
    rests = reads_then (database.state old) (database.state mid) (database.state new) first read.rests;
    told = λ clean v rest. told_since r old mid new (Told v) (IsReadable v) first read.rests clean (read.told clean v (first.kept v rest));
  }

  -- a fault that is passed on behind a read
  pub faults_after : {X : Type 0} (old mid new : S) (e : TableFault) (r : Result X TableFault) (Says : Views → X → Type 0) → clauses.OnlyReads database.state old mid → clauses.OnlyReads database.state mid new
      → (clauses.HasCleanDisk database.state new → (v : Views) → clauses.AtRest database.state mid v → IsReadable v → clauses.IsCaused database.state mid new e) → IsErrAnd r (λ f. f ≡ e) → clauses.Reads database.state old new r Says
  faults_after old mid new e r Says first second cause is = record {
    rests = reads_then (database.state old) (database.state mid) (database.state new) first second;
    told = λ clean v rest.
        passed_on r e (Says v) (λ fault. IsReadable v → clauses.IsCaused database.state old new fault) is
        (λ readable. caused_later (database.state old) (database.state mid) (database.state new) (λ _. ⊥) e first.survives second.survives.counts (second.clean clean) (cause clean v (first.kept v rest) readable));
  }

  -- what they say, in other words
  pub reads_as : {X : Type 0} (old new : S) (r : Result X TableFault) (Told Says : Views → X → Type 0) → ((v : Views) (x : X) → Told v x → Says v x) → clauses.Reads database.state old new r Told → clauses.Reads database.state old new r Says
  reads_as old new r Told Says means read = record {
    rests = read.rests;
    told = λ clean v rest. said_as r (Told v) (Says v) (λ fault. IsReadable v → clauses.IsCaused database.state old new fault) (means v) (read.told clean v rest);
  }

  found_caused : {X : Type 0} (found : Result X TableFault) (old new : S) (Told : X → Type 0) (Readable : Type 0) → Readable → MatchResult found Told (λ fault. Readable → clauses.IsCaused database.state old new fault) → IfErr (answered_as found) (IsCausedAs database.state old new)
  found_caused (Ok x) old new Told Readable readable told = tt
  found_caused (Err fault) old new Told Readable readable told = caused_as database old new fault (told readable)

  -- a question that the tables answer
  answers_found : {X : Type 0} (old new : Registry S database) (found : Result X TableFault) (Told : Views → X → Type 0) (Says : History → X → Type 0) → is_live old ≡ true → is_live new ≡ is_live old → kept_views new ≡ kept_views old
      → clauses.Reads database.state (connection old) (connection new) found Told → ((h : History) → IsReached h → IsReadable (views_of h)) → ((h : History) (x : X) → Shows database old h → HasCleanDisk database old → Told (views_of h) x → Says h x)
      → Finds database old new (answered_as found) Says
  answers_found old new found Told Says on same kept read readable means = record {
    failed = λ off. absurd (let both : true ≡ false = sym on ∙ off in let no : ⊥ = cc in no);
    fault = may_give found (is_live old) on;
    lives = same;
    rests = read.rests;
    told = λ clean h shows. (
      found_told found (Told (views_of h)) (Says h) (λ fault. IsReadable (views_of h) → clauses.IsCaused database.state (connection old) (connection new) fault) (λ x told. means h x shows (read.rests.clean clean) told) (read.told clean (views_of h) shows.tables),
      only_read database old new h same read.rests kept shows,
    );
    caused = λ clean h shows. found_caused found (connection old) (connection new) (Told (views_of h)) (IsReadable (views_of h)) (readable h shows.history) (read.told clean (views_of h) shows.tables);
  }

  pub answers_read : {X : Type 0} (old new : Registry S database) (found : Result X TableFault) (r : Result X Refusal) (Told : Views → X → Type 0) (Says : History → X → Type 0) → is_live old ≡ true → is_live new ≡ is_live old → kept_views new ≡ kept_views old
      → clauses.Reads database.state (connection old) (connection new) found Told → r ≡ answered_as found → ((h : History) → IsReached h → IsReadable (views_of h)) → ((h : History) (x : X) → Shows database old h → HasCleanDisk database old → Told (views_of h) x → Says h x)
      → Finds database old new r Says
  answers_read {X = X} old new found r Told Says on same kept read is readable means =
      subst (λ (e : Result X Refusal). Finds database old new e Says) (sym is) (answers_found old new found Told Says on same kept read readable means)

  -- the same from a registry that is this one
  pub found_from : {X : Type 0} (start old new : Registry S database) (r : Result X Refusal) (Says : History → X → Type 0) → old ≡ start → Finds database old new r Says → Finds database start new r Says
  found_from start old new r Says same found = subst (λ (s : Registry S database). Finds database s new r Says) same found

  -- a question that is answered without the tables
  pub answered_here : {X : Type 0} (r : Registry S database) (x : X) (Says : History → X → Type 0) → is_live r ≡ true → (database.state (connection r)).in_transaction ≡ false → (HasCleanDisk database r → (h : History) → Shows database r h → Says h x) → Finds database r r (Ok x) Says
  answered_here r x Says on settled says = record {
    failed = true_not (is_live r) on;
    fault = tt;
    lives = refl;
    rests = nothing_read (database.state (connection r)) settled;
    told = λ clean h shows. (says clean h shows, shows);
    caused = λ clean h shows. tt;
  }

  -- one for which memory runs out before the tables are asked
  pub short_here : {X : Type 0} (r : Registry S database) (Says : History → X → Type 0) → is_live r ≡ true → (database.state (connection r)).in_transaction ≡ false → Finds database r r (Err Memory) Says
  short_here r Says on settled = record {
    failed = true_not (is_live r) on;
    fault = record { alive = λ still. inl refl; failed = true_not (is_live r) on };
    lives = refl;
    rests = nothing_read (database.state (connection r)) settled;
    told = λ clean h shows. (inl refl, shows);
    caused = λ clean h shows. tt;
  }

  -- and one that a registry is asked which has failed
  pub failed_here : {X : Type 0} (r : Registry S database) (Says : History → X → Type 0) → is_live r ≡ false → (database.state (connection r)).in_transaction ≡ false → Finds database r r (Err Failed) Says
  failed_here r Says off settled = record {
    failed = λ still. (refl, refl);
    fault = record { alive = λ on. true_not (is_live r) on off; failed = λ still. refl };
    lives = refl;
    rests = nothing_read (database.state (connection r)) settled;
    told = λ clean h shows. true_not (is_live r) shows.lives off;
    caused = λ clean h shows. true_not (is_live r) shows.lives off;
  }

  -- one at which the tables fail
  pub answers_fault : {X : Type 0} (old new : Registry S database) (fault : TableFault) (e : Refusal) (Says : History → X → Type 0) → is_live old ≡ true → is_live new ≡ is_live old → kept_views new ≡ kept_views old → OnlyReads database old new → e ≡ refusal_for fault → IsMemoryOrStore e
      → (HasCleanDisk database new → (h : History) → Shows database old h → clauses.IsCaused database.state (connection old) (connection new) fault) → Finds database old new (Err e) Says
  answers_fault old new fault e Says on same kept reads is bad cause = record {
    failed = true_not (is_live old) on;
    fault = record { alive = λ still. bad; failed = true_not (is_live old) on };
    lives = same;
    rests = reads;
    told = λ clean h shows. (bad, only_read database old new h same reads kept shows);
    caused = λ clean h shows. caused_by database (connection old) (connection new) fault e is (cause clean h shows);
  }

  -- what has its cause in a call has it in that and those before
  pub caused_since : (old mid new : S) (e : Refusal) → clauses.OnlyReads database.state old mid → clauses.OnlyReads database.state mid new → clauses.HasCleanDisk database.state new → IsCausedAs database.state mid new e → IsCausedAs database.state old new e
  caused_since old mid new Memory first second clean cause = tt
  caused_since old mid new Store first second clean cause = caused_later (database.state old) (database.state mid) (database.state new) (λ _. ⊥) faults.Store first.survives second.survives.counts (second.clean clean) cause
  caused_since old mid new e first second clean cause = cause

  fault_since : {X : Type 0} (r : Result X Refusal) (old mid new : S) → clauses.OnlyReads database.state old mid → clauses.OnlyReads database.state mid new → clauses.HasCleanDisk database.state new → IfErr r (IsCausedAs database.state mid new) → IfErr r (IsCausedAs database.state old new)
  fault_since (Ok x) old mid new first second clean cause = tt
  fault_since (Err e) old mid new first second clean cause = caused_since old mid new e first second clean cause

  -- a registry that has answered is live
  pub live_after : {Y : Type 0} (old mid : Registry S database) (y : Y) (Before : History → Y → Type 0) → Finds database old mid (Ok y) Before → is_live mid ≡ true
  live_after old mid y Before first = first.lives ∙ still_live (is_live old) (λ off. answered y Failed (first.failed off).0)

  -- a question behind another one
  pub answers_then : {X Y : Type 0} (old mid new : Registry S database) (y : Y) (r : Result X Refusal) (Before : History → Y → Type 0) (Says : History → X → Type 0) → Finds database old mid (Ok y) Before → Finds database mid new r Says → Finds database old new r Says
  answers_then old mid new y r Before Says first second =
      let on : is_live old ≡ true = still_live (is_live old) (λ off. answered y Failed (first.failed off).0) in
      record {
        failed = true_not (is_live old) on;
        fault = subst (λ (b : Bool). IfErr r (MayGive b)) first.lives second.fault;
        lives = second.lives ∙ first.lives;
        rests = reads_then (database.state (connection old)) (database.state (connection mid)) (database.state (connection new)) first.rests second.rests;
        told = λ clean h shows. second.told clean h (first.told (second.rests.clean clean) h shows).1;
        caused = λ clean h shows. fault_since r (connection old) (connection mid) (connection new) first.rests second.rests clean (second.caused clean h (first.told (second.rests.clean clean) h shows).1);
      }

  -- one that the tables answer behind another one
  pub answers_after : {X Y : Type 0} (old mid new : Registry S database) (y : Y) (found : Result X TableFault) (r : Result X Refusal) (Before : History → Y → Type 0) (Told : Views → X → Type 0) (Says : History → X → Type 0) → Finds database old mid (Ok y) Before → is_live new ≡ is_live mid
      → kept_views new ≡ kept_views mid → clauses.Reads database.state (connection mid) (connection new) found Told → r ≡ answered_as found → ((h : History) → IsReached h → IsReadable (views_of h))
      → ((h : History) (x : X) → Shows database mid h → HasCleanDisk database mid → Told (views_of h) x → Says h x) → Finds database old new r Says
  answers_after old mid new y found r Before Told Says first same kept read is readable means =
      answers_then old mid new y r Before Says first (answers_read mid new found r Told Says (live_after old mid y Before first) same kept read is readable means)

  -- one whose answer is left out
  answers_nothing : {X : Type 0} (old new : Registry S database) (x : X) (Says : History → X → Type 0) → Finds database old new (Ok x) Says → Finds database old new (Ok (tt {0})) (λ h _. Unit {0})
  answers_nothing old new x Says a = record {
    failed = λ off. absurd (answered x Failed (a.failed off).0);
    fault = tt;
    lives = a.lives;
    rests = a.rests;
    told = λ clean h shows. (tt, (a.told clean h shows).1);
    caused = λ clean h shows. tt;
  }

  -- and one for which memory ran out, which is no matter
  answers_short : {X : Type 0} (old new : Registry S database) (e : Refusal) (Says : History → X → Type 0) → e ≡ Memory → Finds database old new (Err e) Says → Finds database old new (Ok (tt {0})) (λ h _. Unit {0})
  answers_short old new e Says is a = record {
    failed = λ off. absurd (not_failed (ap (λ (r : Refusal). Err r) (sym is) ∙ (a.failed off).0));
    fault = tt;
    lives = a.lives;
    rests = a.rests;
    told = λ clean h shows. (tt, (a.told clean h shows).1);
    caused = λ clean h shows. tt;
  }

  answers_unless : {X : Type 0} (old new : Registry S database) (e : Refusal) (r : Result (Unit {0}) Refusal) (Says : History → X → Type 0) → (r ≡ Err e) ⊎ ((e ≡ Memory) × (r ≡ Ok tt)) → Finds database old new (Err e) Says → Finds database old new r (λ h _. Unit {0})
  answers_unless old new e r Says (inl same) a = subst (λ (x : Result (Unit {0}) Refusal). Finds database old new x (λ h _. Unit {0})) (sym same) (answers_refused old new e Says (λ h _. Unit {0}) a)
  answers_unless old new e r Says (inr (short, same)) a = subst (λ (x : Result (Unit {0}) Refusal). Finds database old new x (λ h _. Unit {0})) (sym same) (answers_short old new e Says short a)

  -- whatever it was answered, unless that was another refusal
  pub answers_kept : {X : Type 0} (old new : Registry S database) (found : Result X Refusal) (r : Result (Unit {0}) Refusal) (Says : History → X → Type 0) → MatchResult found (λ x. r ≡ Ok tt) (λ e. (r ≡ Err e) ⊎ ((e ≡ Memory) × (r ≡ Ok tt))) → Finds database old new found Says → Finds database old new r (λ h _. Unit {0})
  answers_kept old new (Ok x) r Says is a = subst (λ (y : Result (Unit {0}) Refusal). Finds database old new y (λ h _. Unit {0})) (sym is) (answers_nothing old new x Says a)
  answers_kept old new (Err e) r Says is a = answers_unless old new e r Says is a

  -- a read that kept nothing
  pub answers_unkept : (old new : Registry S database) → is_live old ≡ true → is_live new ≡ is_live old → kept_views new ≡ kept_views old → OnlyReads database old new → Finds database old new (Ok (tt {0})) (λ h _. Unit {0})
  answers_unkept old new on same kept reads = record {
    failed = true_not (is_live old) on;
    fault = tt;
    lives = same;
    rests = reads;
    told = λ clean h shows. (tt, only_read database old new h same reads kept shows);
    caused = λ clean h shows. tt;
  }

both_no : (a b : Bool) → b ≡ false → (a && b) ≡ false
both_no true b off = off
both_no false b off = refl

-- no number is above one that none is above
none_later : (since : ℕ) (after : List ℕ) (v : Views) (items : Items) → ((path : List ℕ) → v.since path ≤ since) → AllByRecursion (λ item. is_later since after v item ≡ false) items
none_later since after v [] most = tt
none_later since after v (item ∷ items) most = (both_no (is_lt (text_cmp after item.0)) _ (le-ltb since (v.since item.0) (most item.0)), none_later since after v items most)

take_none : (most : ℕ) → take {A = Changed} most [] ≡ []
take_none most = search rules

-- so nothing was named anew after it
pub none_changed : (most since : ℕ) (after : List ℕ) (v : Views) → ((path : List ℕ) → v.since path ≤ since) → take most (changed_after since after v) ≡ []
none_changed most since after v within = ap (λ (items : Items). take most (map (numbered_in v) items)) (filter_none (is_later since after v) v.items (none_later since after v v.items within)) ∙ take_none most
