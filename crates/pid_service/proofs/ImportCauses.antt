-- Why an import is answered with a fault.
use Rattle.std.proofs.Common.{◌≡◌, ◌≢◌, ◌⊎◌, inl, inr, Bool, true, false, [], ℕ, List, Result, Ok, Err, IfErr, refl, sym, subst}
use Rattle.pid_moderation.specs.declared.refusal.Refusal.TheVariants.{Memory}
use Rattle.pid_tables.specs.declared.put_file.Stop.{Stop}
use Rattle.pid_tables.specs.declared.put_file.Stop.TheVariants as stops
use Rattle.pid_service_laws.specs.declared.faults.ImportEnd.TheVariants.{Refused}
use Rattle.pid_service.specs.Histories.{IsMemoryOrStore}
use Rattle.pid_service.proofs.Words.{answer, Answered, AnswersPast, Asked, asked, BadText, Body, Command, DependsOnFile, EarlyIsCaused, EndsImport, Facts, FaultStays, Ghosts, Good, History, import_of, ImportEnd, is_outcome, IsCausedAs, IsCausedRefusal, IsOpen, IsPlain, judge, OfRefusal, Reading, Refusal, RefusesImport, Reply, Views, views_of, WaitsForFile}
use Rattle.pid_service.proofs.Lasting.{no_outcome}

-- every judgement is an outcome
abbrev pub AreOutcomes : Type 0
AreOutcomes = (v : Views) (c : Asked) → is_outcome (answer (judge v c)) ≡ true

never_judged : AreOutcomes → (v : Views) (c : Asked) (e : Refusal) → IsMemoryOrStore e → answer (judge v c) ≡ Err e → ⊥
never_judged law v c e fault told = no_outcome e fault (subst (λ (r : Result Reply Refusal). is_outcome r ≡ true) told (law v c))

pub bad_text : {X : Type 0} → IsMemoryOrStore BadText → X
bad_text (inl is) = absurd (let no : ⊥ = cc in no)
bad_text (inr is) = absurd (let no : ⊥ = cc in no)

-- ---- step by step

pub past_faults : (Holds : Refusal → Type 0) (given : Result Reply Refusal) (result : Result Reply ImportEnd) (text : List ℕ) → AnswersPast true given result text → IfErr given Holds → Holds BadText → IfErr result (OfRefusal Holds)
past_faults Holds given (Ok reply) text past told bad = tt
past_faults Holds given (Err (Refused e)) text (inl past) told bad = subst (λ (r : Result Reply Refusal). IfErr r Holds) past.0 told
past_faults Holds given (Err (Refused e)) text (inr past) told bad = subst Holds (sym past.0) bad
past_faults Holds given (Err Body) text past told bad = tt

pub plain_faults : (Holds : Refusal → Type 0) (given : Result Reply ImportEnd) (result : Result Reply Refusal) → IsPlain given result → given ≢ Err Body → IfErr given (OfRefusal Holds) → IfErr result Holds
plain_faults Holds (Ok reply) result plain sure told = subst (λ (r : Result Reply Refusal). IfErr r Holds) (sym plain) tt
plain_faults Holds (Err (Refused e)) result plain sure told = subst (λ (r : Result Reply Refusal). IfErr r Holds) (sym plain) told
plain_faults Holds (Err Body) result plain sure told = absurd (sure refl)

refusal_short : AreOutcomes → (h : History) (c : Asked) (e : Refusal) → RefusesImport h c e → IsMemoryOrStore e → e ≡ Memory
refusal_short law h c e (inl told) fault = absurd (never_judged law (views_of h) c e fault told.0)
refusal_short law h c e (inr is) fault = is

module _ {S : Type 0} (database : Ghosts S) where
  pub refused_stays : AreOutcomes → (conn : S) (live : Bool) (h : History) (c : Asked) (stop : Stop) (e : Refusal) → stop ≡ stops.Refused e → live ≡ true → EndsImport database.state conn (Err stop) h c → FaultStays live e
  refused_stays law conn live h c stop e is on ends fault =
      let so : EndsImport database.state conn (Err (stops.Refused e)) h c = subst (λ (s : Stop). EndsImport database.state conn (Err s) h c) is ends in
      inl (on, refusal_short law h c e so.1 fault)

  module _ (old new : S) (live : Bool) where
    abbrev pub Faults : History → Asked → Refusal → Type 0
    Faults h c e = IsMemoryOrStore e → ((live ≡ true) × IsCausedAs database.state old new e) ⊎ ((live ≡ false) × DependsOnFile h c)

    of_memory : (e : Refusal) → e ≡ Memory → IsCausedAs database.state old new e
    of_memory e is = subst (λ (x : Refusal). IsCausedAs database.state old new x) (sym is) tt

    as_cause : (h : History) (command : Command) (e : Refusal) → EarlyIsCaused database.state old new h command (Answered (Err e)) → AreOutcomes → IsMemoryOrStore e → IsCausedAs database.state old new e
    as_cause h command e (inl settled) law fault =
        absurd (never_judged law (views_of h) (import_of command.account command.key (Good [])) e fault (settled (Good []) (λ bad. let no : ⊥ = cc in no)).0)
    as_cause h command e (inr cause) law (inl is) = of_memory e is
    as_cause h command e (inr cause) law (inr is) =
        subst (λ (x : Refusal). IsCausedAs database.state old new x) (sym is) (subst (λ (x : Refusal). IsCausedRefusal (database.state old) (database.state new) x) is cause)

    pub early_faults : AreOutcomes → live ≡ true → (h : History) (command : Command) (reading : Reading) (given : Result Reply Refusal) → EarlyIsCaused database.state old new h command (Answered given) → IfErr given (Faults h (asked command reading))
    early_faults law on h command reading (Ok reply) told = tt
    early_faults law on h command reading (Err e) told = λ fault. inl (on, as_cause h command e told law fault)

    open_or : (h : History) (command : Command) (reading : Reading) (f : Facts) (e : Refusal) → IsOpen h command f → ((live ≡ true) × (e ≡ Memory)) ⊎ (live ≡ false)
        → ((live ≡ true) × IsCausedAs database.state old new e) ⊎ ((live ≡ false) × DependsOnFile h (asked command reading))
    open_or h command reading f e open_ (inl short) = inl (short.0, of_memory e short.1)
    open_or h command reading f e open_ (inr off) = inr (off, subst WaitsForFile open_.facts open_.waits)

    pub open_faults : (h : History) (command : Command) (reading : Reading) (f : Facts) (result : Result Reply ImportEnd) → IsOpen h command f → IfErr result (OfRefusal (FaultStays live)) → IfErr result (OfRefusal (Faults h (asked command reading)))
    open_faults h command reading f (Ok reply) open_ stays = tt
    open_faults h command reading f (Err (Refused e)) open_ stays = λ fault. open_or h command reading f e open_ (stays fault)
    open_faults h command reading f (Err Body) open_ stays = tt
