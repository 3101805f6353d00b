-- The answer to a question.
use Rattle.std.proofs.Common.{◌≡◌, ◌≢◌, ℕ, false, cond, List, [], Option, Some, None, Result, Ok, Err, refl, sym, ap, subst, inl, inr}
use Rattle.std.specs.Prelude.{◌⊎◌, IsErrAnd, is_ok, is_some, IsSome, OnOk, MatchResult}
use Rattle.pid_ident.specs.Trees.{TreeMap}
use Rattle.pid_lookup.specs.declared.answer.Answer.{Answer}
use Rattle.pid_lookup.specs.declared.args.Args.{Args}
use Rattle.pid_lookup.specs.Answers.{answer_of}
use Rattle.pid_lookup.specs.Flags.{is_bad}
use Rattle.pid_lookup.specs.declared.answering.LookupRefusal.{LookupRefusal}
use Rattle.pid_lookup.specs.declared.answering.LookupRefusal.TheVariants as lookups
use Rattle.pid_moderation.specs.declared.refusal.Refusal.{Refusal}
use Rattle.pid_moderation.specs.declared.refusal.Refusal.TheVariants.{BadText, Memory, Failed}
use Rattle.pid_moderation.specs.History.{History}
use Rattle.pid_moderation.specs.Judgement.{after_all}
use Rattle.pid_moderation.specs.declared.command.Reply.{Reply}
use Rattle.pid_moderation.specs.ReplyLines.{outcome_line, refused_line}
use Rattle.pid_moderation.specs.Writes.{tree_of}
use Rattle.pid_moderation.specs.Faults.{IsMemoryOrStore}
use Rattle.pid_service_laws.specs.Calls.{nothing_sent}
use Rattle.pid_service_laws.specs.Registries.{Does}
use Rattle.pid_file.specs.declared.path.Path.{Path}
use Rattle.pid_ident.specs.PathTexts.{path_text}
use Rattle.pid_moderation.specs.Items.{name_at}
use Rattle.pid_moderation.specs.Views.{items_of}
use Rattle.pid_script.specs.declared.line_end.LineEnd.{LineEnd}
use Rattle.pid_script.specs.declared.line_end.LineEnd.TheVariants.{Stopped, WriteFault, TooLong}
use Rattle.pid_service_laws.specs.declared.registry_calls.RegistryCalls.{Ghosts}
use Rattle.pid_script.specs.Asking.{path_asked, lookup_in_form}
use Rattle.pid_lookup.specs.Fields.{as_lookup as lookup_known}
use Rattle.pid_service_laws.specs.Moderating.{LooksUp}
use Rattle.pid_script.specs.Calling.{CallsSend}
use Rattle.pid_script.specs.Replies.{line_reply, calls_for, command_of, name_reply, name_line, is_call, looked_up, answer_line, BAD_FLAGS}
use Rattle.pid_script.specs.Steps.Output.{Out, IsGivenRefusal, IsGivenStop, IsNothing, SaysMemory, SaysText, SaysTooLong, TellsAnswer, TellsFound, TellsLine, TellsName, Unfit, NoMemory, AlreadyLong, IsReplyOrStop, refusal_given, refusal_of_names, GoesOnAfter, LeavesAfter, SendsFor, AnswersLine}
use Rattle.pid_script.specs.ScriptLines as lines
use Rattle.pid_script.specs.ScriptLines.{Ask}
use Rattle.pid_script.specs.RegistryStates.{ShowsOrHasFailed, Becomes}
use Rattle.pid_script.specs.StopLines.{is_stop, IsBegun, StoppedBy}
use Rattle.pid_script.proofs.Calling.{send_still, send_none}
use Rattle.pid_script.proofs.LineReplies.{one_call}
use Rattle.pid_script.proofs.SayLemmas.{tells_fault, tells_said}
use Rattle.pid_script.proofs.Causes.{recast, none_begun, faults_stop, no_memory, failed_goes, no_cause, own_cause, is_memory, form_cause, fault_cause, names_cause}

-- the registry is as before
pub same : {R : Type 0} (m : Ghosts R) (r : R) (h : History) → Becomes m r h r h
same m r h = record { shows = λ s. s; failed = λ f. refl }

question_leaves : {R : Type 0} (m : Ghosts R) (result : Result (Unit {0}) LineEnd) (ask : Ask) (h : History) (r new : R) (left : Out) (given : Option Refusal)
    → command_of ask ≡ [] → (ask ≡ lines.TooLong → ⊥) → Becomes m r h new h → OnOk result (m.is_live r ≡ false → (is_call ask ≡ false) ⊎ (given ≡ Some Failed))
    → GoesOnAfter result given → (result ≡ Err TooLong → ⊥) → LeavesAfter m result r h new ask left
question_leaves m (Ok x) ask h r new left given none short becomes called goes fits = record {
  becomes = subst (λ cs. Becomes m r h new (after_all h cs)) (sym none) becomes;
  lives = λ f. by (called f);
  flushed = inl none;
  fits = short;
}
  where
    by : (is_call ask ≡ false) ⊎ (given ≡ Some Failed) → is_call ask ≡ false
    by (inl off) = off
    by (inr is) = absurd (failed_goes x given is goes)
question_leaves m (Err Stopped) ask h r new left given none short becomes called goes fits = record { stops = record { shows = λ s. inl (becomes.shows s); failed = becomes.failed }; fits = short }
question_leaves m (Err WriteFault) ask h r new left given none short becomes called goes fits = record { shows = λ s. inl (becomes.shows s); failed = becomes.failed }
question_leaves m (Err TooLong) ask h r new left given none short becomes called goes fits = absurd (fits refl)

question_sends : {R : Type 0} (m : Ghosts R) (result : Result (Unit {0}) LineEnd) (ask : Ask) (r new : R) → command_of ask ≡ [] → CallsSend m.showing r [] (calls_for ask) new → SendsFor m result r new ask
question_sends m (Ok x) ask r new none sends = subst (λ cs. CallsSend m.showing r cs (calls_for ask) new) (sym none) sends
question_sends m (Err Stopped) ask r new none sends = sends
question_sends m (Err WriteFault) ask r new none sends = inl sends
question_sends m (Err TooLong) ask r new none sends = sends

-- a line was answered that holds no command
pub asked : {R : Type 0} (m : Ghosts R) (result : Result (Unit {0}) LineEnd) (ask : Ask) (h : History) (r new : R) (old left : Out) (given : Option Refusal)
    → command_of ask ≡ [] → (ask ≡ lines.TooLong → ⊥) → Becomes m r h new h → ((e : Refusal) → IsGivenRefusal given e → StoppedBy m r h ask e) → OnOk result (m.is_live r ≡ false → (is_call ask ≡ false) ⊎ (given ≡ Some Failed))
    → GoesOnAfter result given → (result ≡ Err TooLong → ⊥) → CallsSend m.showing r [] (calls_for ask) new → TellsLine result (line_reply ask h) (IsGivenStop given) old left
    → AnswersLine m result ask h r old new left
asked m result ask h r new old left given none short becomes cause called goes fits sends told = record {
  tells = recast (IsGivenRefusal given) (StoppedBy m r h ask) IsNothing (IsBegun ask h) result (line_reply ask h) old left cause (none_begun ask h) told;
  leaves = question_leaves m result ask h r new left given none short becomes called goes fits;
  sends = question_sends m result ask r new none sends;
}

-- the line of a form was refused, or memory was short for it
pub form_refused : {R X : Type 0} (m : Ghosts R) (result : Result (Unit {0}) LineEnd) (ask : Ask) (said : Result X Refusal) (h : History) (r : R) (old left : Out) (e : Refusal)
    → (e ≢ Memory → said ≡ Err e) → ((g : Refusal) → said ≡ Err g → is_stop g ≡ false)
    → (said ≡ Err e → line_reply ask h ≡ refused_line e) → (said ≡ Err e → command_of ask ≡ []) → (said ≡ Err e → is_call ask ≡ false) → (ask ≡ lines.TooLong → ⊥)
    → ((reply : List ℕ) → IsReplyOrStop reply (Err e) → TellsLine result reply (IsGivenStop (Some e)) old left) → GoesOnAfter result (Some e) → (result ≡ Err TooLong → ⊥)
    → AnswersLine m result ask h r old r left
form_refused m result ask said h r old left e told none reply command call short sends goes fits = record {
  tells = recast (IsGivenRefusal (Some e)) (StoppedBy m r h ask) IsNothing (IsBegun ask h) result (line_reply ask h) old left (form_cause m said r h ask e told none) (none_begun ask h) (sends (line_reply ask h) (by (is_memory e)));
  leaves = leaves result goes fits;
  sends = sent result goes;
}
  where
    by : (e ≡ Memory) ⊎ (e ≢ Memory) → IsReplyOrStop (line_reply ask h) (Err e)
    by (inl memory) = inr (e, ap is_stop memory, refl)
    by (inr other) = inl (sym (reply (told other)))

    leaves : (r' : Result (Unit {0}) LineEnd) → GoesOnAfter r' (Some e) → (r' ≡ Err TooLong → ⊥) → LeavesAfter m r' r h r ask left
    leaves (Ok x) g f =
        let is : said ≡ Err e = told (no_memory e g) in
        record { becomes = subst (λ cs. Becomes m r h r (after_all h cs)) (sym (command is)) (same m r h); lives = λ _. call is; flushed = inl (command is); fits = short }
    leaves (Err Stopped) g f = record { stops = record { shows = λ s. inl s; failed = λ _. refl }; fits = short }
    leaves (Err WriteFault) g f = record { shows = λ s. inl s; failed = λ _. refl }
    leaves (Err TooLong) g f = absurd (f refl)

    sent : (r' : Result (Unit {0}) LineEnd) → GoesOnAfter r' (Some e) → SendsFor m r' r r ask
    sent (Ok x) g = subst (λ cs. CallsSend m.showing r cs (calls_for ask) r) (sym (command (told (no_memory e g)))) (send_still m.showing r _)
    sent (Err Stopped) g = send_still m.showing r _
    sent (Err WriteFault) g = inl (send_still m.showing r _)
    sent (Err TooLong) g = send_still m.showing r _

pub always : (r : Result (Unit {0}) LineEnd) (P : Type 0) → P → OnOk r P
always (Ok x) P p = p
always (Err e) P p = tt

pub none_goes : (r : Result (Unit {0}) LineEnd) (text : List ℕ) (old new : Out) → SaysText r old new text → GoesOnAfter r None
none_goes (Ok x) text old new says = tt
none_goes (Err Stopped) text old new says = tt
none_goes (Err WriteFault) text old new says = tt
none_goes (Err TooLong) text old new says = let bad : TooLong ≡ WriteFault = says.0 in absurd cc

pub answer_goes : (r : Result (Unit {0}) LineEnd) (found : Result Answer (LookupRefusal Refusal)) (x : Answer) (text : List ℕ) (old new : Out) → found ≡ Ok x → SaysText r old new text → GoesOnAfter r (refusal_of_names found)
answer_goes r found x text old new is says = subst (λ f. GoesOnAfter r (refusal_of_names f)) (sym is) (none_goes r text old new says)

pub name_goes : {X : Type 0} (r : Result (Unit {0}) LineEnd) (name : Result X Refusal) (x : X) (text : List ℕ) (old new : Out) → name ≡ Ok x → SaysText r old new text → GoesOnAfter r (refusal_given name)
name_goes r name x text old new is says = subst (λ n. GoesOnAfter r (refusal_given n)) (sym is) (none_goes r text old new says)

pub name_said : (r : Result (Unit {0}) LineEnd) (name : Result (Option (List ℕ)) Refusal) (x : Option (List ℕ)) (text : List ℕ) (old new : Out) → name ≡ Ok x → name_line x ≡ text → SaysText r old new text → TellsName r name old new
name_said r name x text old new is line says = subst (λ n. TellsName r n old new) (sym is) (subst (λ (l : List ℕ). TellsLine r l (IsGivenStop None) old new) (sym line) (tells_said r None text old new says))

-- a line that goes on is not too long
pub goes_fit : (r : Result (Unit {0}) LineEnd) (given : Option Refusal) → GoesOnAfter r given → r ≡ Err TooLong → ⊥
goes_fit (Ok x) given goes is = absurd cc
goes_fit (Err Stopped) given goes is = absurd cc
goes_fit (Err WriteFault) given goes is = absurd cc
goes_fit (Err TooLong) given goes is = goes

-- a fault of the writer is kept
pub answer_fault : (r : Result (Unit {0}) LineEnd) (answer : Result Reply Refusal) (old new : Out) → TellsAnswer r answer old new → r ≡ Err WriteFault → IsSome new.fault
answer_fault r answer old new says = tells_fault r (outcome_line answer) (IsGivenStop (refusal_given answer)) old new (says (outcome_line answer) (inl refl))

pub name_fault : (r : Result (Unit {0}) LineEnd) (name : Result (Option (List ℕ)) Refusal) (old new : Out) → TellsName r name old new → r ≡ Err WriteFault → IsSome new.fault
name_fault r (Ok name) old new says = tells_fault r (name_line name) (IsGivenStop None) old new says
name_fault r (Err e) old new says = answer_fault r (Err e) old new says

pub memory_fault : (e : LineEnd) (old new : Out) → SaysMemory e old new → ◌≡◌ {A = Result (Unit {0}) LineEnd} (Err e) (Err WriteFault) → IsSome new.fault
memory_fault Stopped old new says is = absurd cc
memory_fault WriteFault old new says is = says.1
memory_fault TooLong old new says is = absurd says

pub long_fault : (e : LineEnd) (old new : Out) → SaysTooLong e old new → ◌≡◌ {A = Result (Unit {0}) LineEnd} (Err e) (Err WriteFault) → IsSome new.fault
long_fault Stopped old new says is = absurd says
long_fault WriteFault old new says is = says.1
long_fault TooLong old new says is = absurd cc

pub unfit_fault : (e : LineEnd) (bytes : List ℕ) (old new : Out) → Unfit e bytes old new → ◌≡◌ {A = Result (Unit {0}) LineEnd} (Err e) (Err WriteFault) → IsSome new.fault
unfit_fault e bytes old new (NoMemory fits says) is = memory_fault e old new says is
unfit_fault e bytes old new (AlreadyLong more says) is = long_fault e old new says is

memory_found : (r : Result (Unit {0}) LineEnd) (old new : Out) → IsErrAnd r (λ e. SaysMemory e old new) → r ≡ Err WriteFault → IsSome new.fault
memory_found (Ok x) old new says is = absurd says
memory_found (Err e) old new says is = memory_fault e old new says is

pub found_fault : (r : Result (Unit {0}) LineEnd) (found : Result Answer (LookupRefusal Refusal)) (old new : Out) → TellsFound r found old new → r ≡ Err WriteFault → IsSome new.fault
found_fault r (Ok answer) old new says = tells_fault r (answer_line answer) (IsGivenStop None) old new says
found_fault r (Err lookups.BadFlags) old new says = tells_fault r BAD_FLAGS (IsGivenStop None) old new says
found_fault r (Err (lookups.Names e)) old new says = answer_fault r (Err e) old new says
found_fault r (Err lookups.Memory) old new says = memory_found r old new says

-- the refusal of an answer
if_err : {X : Type 0} (a : Result X Refusal) (P : X → Type 0) (F : Refusal → Type 0) → MatchResult a P F → (e : Refusal) → a ≡ Err e → F e
if_err (Ok x) P F s e is = absurd cc
if_err (Err f) P F s e is = let same : f ≡ e = cc in subst F same s

-- that memory ran out is said in place of any reply
memory_stop : IsGivenStop (Some Memory) (refused_line Memory)
memory_stop = record { begun = []; front = refl; refusal = Memory; cause = (refl, refl); is = refl }

memory_known : (e : LineEnd) (reply : List ℕ) (old left : Out) → SaysMemory e old left → TellsLine (Err e) reply (IsGivenStop (Some Memory)) old left
memory_known Stopped reply old left says = record { text = refused_line Memory; stop = memory_stop; told = says }
memory_known WriteFault reply old left says = record { text = refused_line Memory; is = inr memory_stop; front = says }
memory_known TooLong reply old left says = absurd says

-- and the line is not called too long
pub memory_fits : (e : LineEnd) (old left : Out) → SaysMemory e old left → ◌≡◌ {A = Result (Unit {0}) LineEnd} (Err e) (Err TooLong) → ⊥
memory_fits e old left says is = let same : e ≡ TooLong = cc is in subst (λ x. SaysMemory x old left) same says

memory_goes : (e : LineEnd) (given : Option Refusal) (old left : Out) → SaysMemory e old left → GoesOnAfter (Err e) given
memory_goes Stopped given old left says = tt
memory_goes WriteFault given old left says = tt
memory_goes TooLong given old left says = absurd says

memory_said : (result : Result (Unit {0}) LineEnd) (reply : List ℕ) (old left : Out) → IsErrAnd result (λ e. SaysMemory e old left) → TellsLine result reply (IsGivenStop (Some Memory)) old left
memory_said (Ok x) reply old left says = absurd says
memory_said (Err e) reply old left says = memory_known e reply old left says

-- what was found is right, so what was said of it is the reply
found_known : (result : Result (Unit {0}) LineEnd) (found : Result Answer (LookupRefusal Refusal)) (tree : TreeMap) (flags size : ℕ) (args : Args) (old left : Out) → LooksUp found tree flags args size → TellsFound result found old left
    → TellsLine result (cond (is_bad flags) BAD_FLAGS (answer_line (answer_of tree flags args size))) (IsGivenStop (refusal_of_names found)) old left
found_known result (Ok a) tree flags size args old left is told =
    subst (λ b. TellsLine result (cond b BAD_FLAGS (answer_line (answer_of tree flags args size))) (IsGivenStop None) old left) (sym is.0) (subst (λ x. TellsLine result (answer_line x) (IsGivenStop None) old left) is.1 told)
found_known result (Err lookups.BadFlags) tree flags size args old left is told =
    subst (λ b. TellsLine result (cond b BAD_FLAGS (answer_line (answer_of tree flags args size))) (IsGivenStop None) old left) (sym is) told
found_known result (Err (lookups.Names e)) tree flags size args old left is told = told (cond (is_bad flags) BAD_FLAGS (answer_line (answer_of tree flags args size))) (inr (e, faults_stop e is, refl))
found_known result (Err lookups.Memory) tree flags size args old left is told = memory_said result (cond (is_bad flags) BAD_FLAGS (answer_line (answer_of tree flags args size))) old left told

-- so it is of a registry that shows the history, or has failed
found_by : {R : Type 0} (m : Ghosts R) (result : Result (Unit {0}) LineEnd) (found : Result Answer (LookupRefusal Refusal)) (h : History) (r : R) (flags size : ℕ) (args : Args) (old left : Out) → (m.showing.shows r h → LooksUp found (tree_of h) flags args size) → (m.is_live r ≡ false → found ≡ Err (lookups.Names Failed)) → ShowsOrHasFailed m r h → TellsFound result found old left
    → TellsLine result (cond (is_bad flags) BAD_FLAGS (answer_line (answer_of (tree_of h) flags args size))) (IsGivenStop (refusal_of_names found)) old left
found_by m result found h r flags size args old left is failed (inl s) told = found_known result found (tree_of h) flags size args old left (is s) told
found_by m result found h r flags size args old left is failed (inr f) told =
    let reply = cond (is_bad flags) BAD_FLAGS (answer_line (answer_of (tree_of h) flags args size)) in
    subst (λ g. TellsLine result reply (IsGivenStop (refusal_of_names g)) old left) (sym (failed f)) (subst (λ g. TellsFound result g old left) (failed f) told reply (inr (Failed, refl, refl)))

faults_named : (found : Result Answer (LookupRefusal Refusal)) (tree : TreeMap) (flags size : ℕ) (args : Args) → LooksUp found tree flags args size → (e : Refusal) → found ≡ Err (lookups.Names e) → IsMemoryOrStore e
faults_named (Ok a) tree flags size args t e is = absurd cc
faults_named (Err lookups.BadFlags) tree flags size args t e is = absurd cc
faults_named (Err (lookups.Names g)) tree flags size args t e is = let same : g ≡ e = cc in subst IsMemoryOrStore same t
faults_named (Err lookups.Memory) tree flags size args t e is = absurd cc

pub looked_for : {R : Type 0} (m : Ghosts R) (result : Result (Unit {0}) LineEnd) (found : Result Answer (LookupRefusal Refusal)) (form : List ℕ) (l : ℕ × Args × ℕ) (h : History) (r new : R) (old left : Out)
    → lookup_in_form form ≡ Some (lookup_known l) → (m.showing.shows r h → LooksUp found (tree_of h) l.0 l.1 l.2) → (m.showing.shows r h → m.showing.shows new h) → (m.is_live r ≡ false → (found ≡ Err (lookups.Names Failed)) × (new ≡ r))
    → TellsFound result found old left
    → GoesOnAfter result (refusal_of_names found) → (result ≡ Err TooLong → ⊥) → Does m.showing r nothing_sent new → ShowsOrHasFailed m r h → AnswersLine m result (lines.AsksLookup form) h r old new left
looked_for m result found form l h r new old left is told kept failed sends goes fits does stands =
    asked m result (lines.AsksLookup form) h r new old left (refusal_of_names found) refl (λ e. cc) (record { shows = kept; failed = λ f. (failed f).1 })
    (names_cause m found r h (lines.AsksLookup form) (ap is_some is) (λ s. faults_named found (tree_of h) l.0 l.2 l.1 (told s)) (λ f. (failed f).0))
    (always result (m.is_live r ≡ false → (is_call (lines.AsksLookup form) ≡ false) ⊎ (refusal_of_names found ≡ Some Failed)) (λ f. inr (ap refusal_of_names (failed f).0)))
    goes fits (send_none m.showing r new _ (one_call (lines.AsksLookup form) (ap is_some is)) does)
    (subst (λ o. TellsLine result (looked_up o h) (IsGivenStop (refusal_of_names found)) old left) (sym is) (found_by m result found h r l.0 l.2 l.1 old left told (λ f. (failed f).0) stands sends))

-- a look-up whose fields are bad
pub bad_lookup : {R : Type 0} (m : Ghosts R) (result : Result (Unit {0}) LineEnd) (form : List ℕ) (h : History) (r : R) (old left : Out) → lookup_in_form form ≡ None → SaysText result old left (refused_line BadText) → AnswersLine m result (lines.AsksLookup form) h r old r left
bad_lookup m result form h r old left is says =
    let goes = none_goes result (refused_line BadText) old left says in
    asked m result (lines.AsksLookup form) h r r old left None refl (λ e. cc) (same m r h) (no_cause m r h (lines.AsksLookup form)) (always result (m.is_live r ≡ false → (is_call (lines.AsksLookup form) ≡ false) ⊎ (None ≡ Some Failed)) (λ _. inl (ap is_some is))) goes (goes_fit result None goes) (send_still m.showing r _)
    (subst (λ o. TellsLine result (looked_up o h) (IsGivenStop None) old left) (sym is) (tells_said result None (refused_line BadText) old left says))

-- memory is short for a look-up
pub no_lookup : {R : Type 0} (m : Ghosts R) (e : LineEnd) (form : List ℕ) (h : History) (r : R) (old left : Out) → SaysMemory e old left → AnswersLine m (Err e) (lines.AsksLookup form) h r old r left
no_lookup m e form h r old left says =
    asked m (Err e) (lines.AsksLookup form) h r r old left (Some Memory) refl (λ e. cc) (same m r h) (own_cause m r h (lines.AsksLookup form)) tt (memory_goes e (Some Memory) old left says) (memory_fits e old left says) (send_still m.showing r _) (memory_known e (line_reply (lines.AsksLookup form) h) old left says)

-- the name of a path was asked
name_known : (result : Result (Unit {0}) LineEnd) (answer : Result (Option (List ℕ)) Refusal) (good : Option (List ℕ)) (old left : Out) → MatchResult answer (λ n. n ≡ good) IsMemoryOrStore → TellsName result answer old left → TellsLine result (name_line good) (IsGivenStop (refusal_given answer)) old left
name_known result (Ok n) good old left is told = subst (λ x. TellsLine result (name_line x) (IsGivenStop None) old left) is told
name_known result (Err e) good old left is told = told (name_line good) (inr (e, faults_stop e is, refl))

name_by : {R : Type 0} (m : Ghosts R) (result : Result (Unit {0}) LineEnd) (answer : Result (Option (List ℕ)) Refusal) (good : Option (List ℕ)) (h : History) (r : R) (old left : Out) → (m.showing.shows r h → MatchResult answer (λ n. n ≡ good) IsMemoryOrStore) → (m.is_live r ≡ false → answer ≡ Err Failed) → ShowsOrHasFailed m r h → TellsName result answer old left
    → TellsLine result (name_line good) (IsGivenStop (refusal_given answer)) old left
name_by m result answer good h r old left is failed (inl s) told = name_known result answer good old left (is s) told
name_by m result answer good h r old left is failed (inr f) told =
    subst (λ a. TellsLine result (name_line good) (IsGivenStop (refusal_given a)) old left) (sym (failed f)) (subst (λ a. TellsName result a old left) (failed f) told (name_line good) (inr (Failed, refl, refl)))

pub named : {R : Type 0} (m : Ghosts R) (result : Result (Unit {0}) LineEnd) (answer : Result (Option (List ℕ)) Refusal) (form : List ℕ) (path : Path) (h : History) (r new : R) (old left : Out)
    → path_asked form ≡ Ok path → (m.showing.shows r h → MatchResult answer (λ name. name ≡ name_at (path_text path) (items_of h)) IsMemoryOrStore) → (m.showing.shows r h → m.showing.shows new h) → (m.is_live r ≡ false → (answer ≡ Err Failed) × (new ≡ r))
    → TellsName result answer old left → GoesOnAfter result (refusal_given answer) → (result ≡ Err TooLong → ⊥) → Does m.showing r nothing_sent new → ShowsOrHasFailed m r h → AnswersLine m result (lines.AsksName form) h r old new left
named m result answer form path h r new old left is told kept failed sends goes fits does stands =
    let good = name_at (path_text path) (items_of h) in
    asked m result (lines.AsksName form) h r new old left (refusal_given answer) refl (λ e. cc) (record { shows = kept; failed = λ f. (failed f).1 })
    (fault_cause m answer r h (lines.AsksName form) (ap is_ok is) (λ s. if_err answer (λ name. name ≡ good) IsMemoryOrStore (told s)) (λ f. (failed f).0))
    (always result (m.is_live r ≡ false → (is_call (lines.AsksName form) ≡ false) ⊎ (refusal_given answer ≡ Some Failed)) (λ f. inr (ap refusal_given (failed f).0)))
    goes fits (send_none m.showing r new _ (one_call (lines.AsksName form) (ap is_ok is)) does)
    (subst (λ a. TellsLine result (name_reply a h) (IsGivenStop (refusal_given answer)) old left) (sym is) (name_by m result answer good h r old left told (λ f. (failed f).0) stands sends))
