-- Why an answer to a line stops a script.
use mathlib.Core.Bool.{true≢false}
use Rattle.std.proofs.Common.{◌≡◌, ◌≢◌, ℕ, true, false, List, ◌++◌, Option, Some, None, Result, Ok, Err, refl, sym, ap, ◌∙◌, subst, inl, inr}
use Rattle.std.specs.Prelude.{◌⊎◌, IsErrAnd, codes}
use Rattle.pid_lookup.specs.declared.answer.Answer.{Answer}
use Rattle.pid_lookup.specs.declared.answering.LookupRefusal.{LookupRefusal}
use Rattle.pid_lookup.specs.declared.answering.LookupRefusal.TheVariants as lookups
use Rattle.pid_file.specs.Printing.{print}
use Rattle.pid_moderation.specs.declared.command.Reply.{Reply}
use Rattle.pid_moderation.specs.declared.refusal.Refusal.{Refusal}
use Rattle.pid_moderation.specs.declared.refusal.Refusal.TheVariants.{BadPath, BadName, BadText, NoAccount, RankTooLow, NoSubmission, NotPending, NotAuthor, OwnDecision, ParentMissing, HasChildren, NothingToDo, FileFault, Full, Memory, Store, Failed, Changed}
use Rattle.pid_moderation.specs.declared.verb.Verb.{Verb}
use Rattle.pid_moderation.specs.CheckTables.{first_failing}
use Rattle.pid_moderation.specs.Fields.{value, text_at}
use Rattle.pid_moderation.specs.Forms.{form_checks, command_said}
use Rattle.pid_ident.specs.PathReading.{path_of}
use Rattle.pid_form.specs.FormFields.{fields_in}
use Rattle.pid_moderation.specs.History.{History}
use Rattle.pid_moderation.specs.Writes.{tree_of}
use Rattle.pid_moderation.specs.Faults.{IsMemoryOrStore}
use Rattle.pid_script.specs.declared.line_end.LineEnd.{LineEnd}
use Rattle.pid_script.specs.declared.line_end.LineEnd.TheVariants.{Stopped, WriteFault, TooLong}
use Rattle.pid_service_laws.specs.declared.registry_calls.RegistryCalls.{Ghosts}
use Rattle.pid_script.specs.Asking.{command_in_form, path_asked, other_fields, refused_or, path_checks}
use Rattle.pid_script.specs.Replies.{is_call}
use Rattle.pid_script.specs.Steps.Output.{Out, IsGivenRefusal, IsNothing, TellsLine, refusal_given, refusal_of_names, GoesOnAfter}
use Rattle.pid_script.specs.ScriptLines as lines
use Rattle.pid_script.specs.ScriptLines.{Ask}
use Rattle.pid_script.specs.StopLines.{is_stop, IsBegun, StoppedBy, IsStopText}
use Rattle.pid_script.proofs.NoStops.{none_stops, no_form_stops}

-- a text of a stop by weaker words
recast_text : (C D : Refusal → Type 0) (B E : List ℕ → Type 0) (text : List ℕ) → ((e : Refusal) → C e → D e) → ((b : List ℕ) → B b → E b) → IsStopText C B text → IsStopText D E text
recast_text C D B E text c b s = record { begun = s.begun; front = b s.begun s.front; refusal = s.refusal; cause = c s.refusal s.cause; is = s.is }

recast_part : (C D : Refusal → Type 0) (B E : List ℕ → Type 0) (reply text : List ℕ) → ((e : Refusal) → C e → D e) → ((b : List ℕ) → B b → E b) → (text ≡ reply) ⊎ IsStopText C B text → (text ≡ reply) ⊎ IsStopText D E text
recast_part C D B E reply text c b (inl is) = inl is
recast_part C D B E reply text c b (inr s) = inr (recast_text C D B E text c b s)

pub recast : (C D : Refusal → Type 0) (B E : List ℕ → Type 0) (r : Result (Unit {0}) LineEnd) (reply : List ℕ) (old new : Out) → ((e : Refusal) → C e → D e) → ((b : List ℕ) → B b → E b) → TellsLine r reply (IsStopText C B) old new → TellsLine r reply (IsStopText D E) old new
recast C D B E (Ok x) reply old new c b t = t
recast C D B E (Err Stopped) reply old new c b t = record { text = t.text; stop = recast_text C D B E t.text c b t.stop; told = t.told }
recast C D B E (Err WriteFault) reply old new c b t = record { text = t.text; is = recast_part C D B E reply t.text c b t.is; front = t.front }
recast C D B E (Err TooLong) reply old new c b t = t

-- nothing is begun of any reply
pub none_begun : (ask : Ask) (h : History) (b : List ℕ) → IsNothing b → IsBegun ask h b
none_begun lines.AsksNothing h b none = none
none_begun (lines.AsksCommand verb account fields) h b none = none
none_begun lines.AsksExport h b none = record { behind = print (tree_of h); is = sym (ap (λ (l : List ℕ). l ++ print (tree_of h)) none); whole = rw none refl }
none_begun (lines.AsksName fields) h b none = none
none_begun (lines.AsksLookup fields) h b none = none
none_begun lines.Unclear h b none = none
none_begun lines.TooLong h b none = none

-- a fault is a stop
pub faults_stop : (e : Refusal) → IsMemoryOrStore e → is_stop e ≡ true
faults_stop e (inl m) = ap is_stop m
faults_stop e (inr s) = ap is_stop s

-- what is no stop is no want of memory
pub no_memory : (e : Refusal) → is_stop e ≡ false → e ≢ Memory
no_memory e h m = true≢false (sym (ap is_stop m) ∙ h)

pub fault_in : (answer : Result Reply Refusal) (e : Refusal) → IsErrAnd answer IsMemoryOrStore → answer ≡ Err e → IsMemoryOrStore e
fault_in (Ok reply) e f is = absurd f
fault_in (Err g) e f is = let same : g ≡ e = cc in subst IsMemoryOrStore same f

pub err_in : {X : Type 0} (answer : Result X Refusal) (e : Refusal) → refusal_given answer ≡ Some e → answer ≡ Err e
err_in (Ok x) e is = absurd cc
err_in (Err f) e is = let same : f ≡ e = cc in ap Err same

-- memory is short, whatever is asked
pub short_cause : {R : Type 0} (m : Ghosts R) (r : R) (h : History) (ask : Ask) (e : Refusal) → e ≡ Memory → StoppedBy m r h ask e
short_cause m r h ask e memory = record { stops = ap is_stop memory; live = λ s. inl memory; failed = λ f. inr memory; unasked = λ off. memory }

pub failed_goes : (x : Unit {0}) (given : Option Refusal) → given ≡ Some Failed → GoesOnAfter (Ok x) given → ⊥
failed_goes x None is goes = absurd cc
failed_goes x (Some e) is goes = let same : e ≡ Failed = cc in true≢false (sym (ap is_stop same) ∙ goes)

-- nothing is refused
pub no_cause : {R : Type 0} (m : Ghosts R) (r : R) (h : History) (ask : Ask) (e : Refusal) → IsGivenRefusal None e → StoppedBy m r h ask e
no_cause m r h ask e given = let none : None ≡ Some e = given.0 in absurd cc

-- want of memory alone
pub own_cause : {R : Type 0} (m : Ghosts R) (r : R) (h : History) (ask : Ask) (e : Refusal) → IsGivenRefusal (Some Memory) e → StoppedBy m r h ask e
own_cause m r h ask e given = short_cause m r h ask e (let same : Memory ≡ e = cc given.0 in sym same)

pub is_memory : (e : Refusal) → (e ≡ Memory) ⊎ (e ≢ Memory)
is_memory BadPath = inr (λ e. cc)
is_memory BadName = inr (λ e. cc)
is_memory BadText = inr (λ e. cc)
is_memory NoAccount = inr (λ e. cc)
is_memory RankTooLow = inr (λ e. cc)
is_memory NoSubmission = inr (λ e. cc)
is_memory NotPending = inr (λ e. cc)
is_memory NotAuthor = inr (λ e. cc)
is_memory OwnDecision = inr (λ e. cc)
is_memory ParentMissing = inr (λ e. cc)
is_memory HasChildren = inr (λ e. cc)
is_memory NothingToDo = inr (λ e. cc)
is_memory (FileFault fault) = inr (λ e. cc)
is_memory Full = inr (λ e. cc)
is_memory Memory = inl refl
is_memory Store = inr (λ e. cc)
is_memory Failed = inr (λ e. cc)
is_memory Changed = inr (λ e. cc)

-- the refusal of a form, or want of memory for it
pub form_cause : {R X : Type 0} (m : Ghosts R) (said : Result X Refusal) (r : R) (h : History) (ask : Ask) (e : Refusal) → (e ≢ Memory → said ≡ Err e) → ((g : Refusal) → said ≡ Err g → is_stop g ≡ false) → (f : Refusal) → IsGivenRefusal (Some e) f → StoppedBy m r h ask f
form_cause m said r h ask e told none f given = by (is_memory e)
  where
    equal : e ≡ f
    equal = cc given.0

    by : (e ≡ Memory) ⊎ (e ≢ Memory) → StoppedBy m r h ask f
    by (inl memory) = short_cause m r h ask f (sym equal ∙ memory)
    by (inr other) = absurd (true≢false (sym given.1 ∙ (ap is_stop (sym equal) ∙ none e (told other))))

refused_no_stop : {X : Type 0} (failing : Option Refusal) (said : Option X) → ((e : Refusal) → failing ≡ Some e → is_stop e ≡ false) → (g : Refusal) → refused_or failing said ≡ Err g → is_stop g ≡ false
refused_no_stop (Some e) said none g is = let same : e ≡ g = cc in sym (ap is_stop same) ∙ none e refl
refused_no_stop None None none g is = let same : BadText ≡ g = cc in sym (ap is_stop same)
refused_no_stop None (Some x) none g is = absurd cc

pub command_no_stop : (verb : Verb) (account form : List ℕ) (g : Refusal) → command_in_form verb account form ≡ Err g → is_stop g ≡ false
unfolding command_in_form
command_no_stop verb account form g is =
    let fields = fields_in form in
    refused_no_stop (first_failing (form_checks verb account (value (codes "key") fields) (other_fields fields))) (command_said verb account (value (codes "key") fields) (other_fields fields))
    (none_stops (form_checks verb account (value (codes "key") fields) (other_fields fields)) (no_form_stops verb account (value (codes "key") fields) (other_fields fields))) g is

pub path_no_stop : (form : List ℕ) (g : Refusal) → path_asked form ≡ Err g → is_stop g ≡ false
unfolding path_asked
path_no_stop form g is = refused_no_stop (first_failing (path_checks (fields_in form))) (path_of (text_at (codes "path") (fields_in form))) (none_stops (path_checks (fields_in form)) (refl, (refl, tt))) g is

-- the causes of what a question is answered
pub fault_cause : {R X : Type 0} (m : Ghosts R) (answer : Result X Refusal) (r : R) (h : History) (ask : Ask) → is_call ask ≡ true → (m.showing.shows r h → (e : Refusal) → answer ≡ Err e → IsMemoryOrStore e) → (m.is_live r ≡ false → answer ≡ Err Failed) → (e : Refusal) → IsGivenRefusal (refusal_given answer) e → StoppedBy m r h ask e
fault_cause m answer r h ask called live failed e given = record { stops = given.1; live = λ s. live s e (err_in answer e given.0); failed = λ f. inl (let same : Err e ≡ Err Failed = sym (err_in answer e given.0) ∙ failed f in cc); unasked = λ off. absurd (true≢false (sym called ∙ off)) }

names_in : (found : Result Answer (LookupRefusal Refusal)) (e : Refusal) → refusal_of_names found ≡ Some e → (e ≡ Memory) ⊎ (found ≡ Err (lookups.Names e))
names_in (Ok text) e is = absurd cc
names_in (Err lookups.BadFlags) e is = absurd cc
names_in (Err (lookups.Names f)) e is = inr (let same : f ≡ e = cc in ap (λ g. Err (lookups.Names g)) same)
names_in (Err lookups.Memory) e is = inl (let same : Memory ≡ e = cc in sym same)

pub names_cause : {R : Type 0} (m : Ghosts R) (found : Result Answer (LookupRefusal Refusal)) (r : R) (h : History) (ask : Ask) → is_call ask ≡ true → (m.showing.shows r h → (e : Refusal) → found ≡ Err (lookups.Names e) → IsMemoryOrStore e) → (m.is_live r ≡ false → found ≡ Err (lookups.Names Failed)) → (e : Refusal) → IsGivenRefusal (refusal_of_names found) e → StoppedBy m r h ask e
names_cause m found r h ask called live failed e given = by (names_in found e given.0)
  where
    by : (e ≡ Memory) ⊎ (found ≡ Err (lookups.Names e)) → StoppedBy m r h ask e
    by (inl memory) = short_cause m r h ask e memory
    by (inr is) = record { stops = given.1; live = λ s. live s e is; failed = λ f. inl (let same : Err (lookups.Names e) ≡ Err (lookups.Names Failed) = sym is ∙ failed f in cc); unasked = λ off. absurd (true≢false (sym called ∙ off)) }
