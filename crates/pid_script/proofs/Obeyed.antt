-- The answer to a command.
use mathlib.Core.Bool.{true≢false}
use Rattle.std.proofs.Common.{◌≡◌, Bool, ℕ, true, false, List, [], Result, Ok, Err, refl, sym, ap, ◌∙◌, subst, inl, inr}
use Rattle.std.specs.Prelude.{◌⊎◌, is_ok, OnOk}
use Rattle.pid_moderation.specs.declared.command.Command.{Command}
use Rattle.pid_moderation.specs.declared.command.Reply.{Reply}
use Rattle.pid_moderation.specs.declared.refusal.Refusal.{Refusal}
use Rattle.pid_moderation.specs.declared.refusal.Refusal.TheVariants.{BadPath, BadName, BadText, NoAccount, RankTooLow, NoSubmission, NotPending, NotAuthor, OwnDecision, ParentMissing, HasChildren, NothingToDo, FileFault, Full, Memory, Store, Failed, Changed}
use Rattle.pid_moderation.specs.declared.verb.Verb.{Verb}
use Rattle.pid_moderation.specs.History.{History}
use Rattle.pid_moderation.specs.Judgement.{after, after_all, judge}
use Rattle.pid_moderation.specs.Judgement as judgement
use Rattle.pid_moderation.specs.ReplyLines.{outcome_line}
use Rattle.pid_moderation.specs.Views.{views_of}
use Rattle.pid_moderation.specs.Files.{asks}
use Rattle.pid_moderation.specs.Faults.{IsMemoryOrStore}
use Rattle.pid_service_laws.specs.Calls as lives
use Rattle.pid_service_laws.specs.Outcomes.{is_outcome}
use Rattle.pid_service_laws.specs.Registries.{CommandLeaves, Does}
use Rattle.pid_script.specs.declared.line_end.LineEnd.{LineEnd}
use Rattle.pid_script.specs.declared.line_end.LineEnd.TheVariants.{Stopped, WriteFault, TooLong}
use Rattle.pid_service_laws.specs.declared.registry_calls.RegistryCalls.{Ghosts}
use Rattle.pid_script.specs.Asking.{command_in_form}
use Rattle.pid_script.specs.Calling.{CallsSend, CallsSendEither}
use Rattle.pid_script.specs.Replies.{calls_for, those_sent, outcome_of, is_call}
use Rattle.pid_script.specs.Steps.Output.{Out, IsGivenRefusal, IsGivenStop, IsNothing, TellsLine, IsReplyOrStop, refusal_given, GoesOnAfter, LeavesAfter, SendsFor, AnswersLine}
use Rattle.pid_script.specs.ScriptLines as lines
use Rattle.pid_script.specs.ScriptLines.{Ask}
use Rattle.pid_script.specs.RegistryStates.{ShowsOrHasFailed, FailsAt}
use Rattle.pid_script.specs.StopLines.{is_stop, IsBegun, StoppedBy}
use Rattle.pid_script.proofs.Calling.{send_obeyed, send_asked, send_refused}
use Rattle.pid_script.proofs.LineReplies.{one_call}
use Rattle.pid_script.proofs.NoStops.{judged_no_stop}
use Rattle.pid_script.proofs.Causes.{recast, faults_stop, fault_in, err_in, failed_goes}

-- why an answer stops
obey_cause : {R : Type 0} (m : Ghosts R) (answer : Result Reply Refusal) (c : Command) (ask : Ask) (h : History) (r new : R) → is_call ask ≡ true
    → (m.showing.shows r h → CommandLeaves m.showing answer new h (asks c)) → (m.is_live r ≡ false → answer ≡ Err Failed)
    → (e : Refusal) → IsGivenRefusal (refusal_given answer) e → StoppedBy m r h ask e
obey_cause m answer c ask h r new called obeys failed e given = record { stops = given.1; live = λ s. by (obeys s); failed = λ f. inl (let same : Err e ≡ Err Failed = sym (err_in answer e given.0) ∙ failed f in cc); unasked = λ off. absurd (true≢false (sym called ∙ off)) }
  where
    by : CommandLeaves m.showing answer new h (asks c) → IsMemoryOrStore e
    by (inl judged) = absurd (true≢false (sym given.1 ∙ judged_no_stop (views_of h) (asks c) e (sym judged.0 ∙ err_in answer e given.0)))
    by (inr fault) = fault_in answer e fault.0 (err_in answer e given.0)

obey_answer : {R : Type 0} (m : Ghosts R) (answer : Result Reply Refusal) (c : Command) (h : History) (r new : R)
    → (m.showing.shows r h → CommandLeaves m.showing answer new h (asks c)) → (m.is_live r ≡ false → answer ≡ Err Failed)
    → ShowsOrHasFailed m r h → IsReplyOrStop (outcome_line (judgement.answer (judge (views_of h) (asks c)))) answer
obey_answer m answer c h r new obeys failed (inr f) = inr (Failed, refl, failed f)
obey_answer m answer c h r new obeys failed (inl s) = by answer (obeys s)
  where
    by : (a : Result Reply Refusal) → CommandLeaves m.showing a new h (asks c) → IsReplyOrStop (outcome_line (judgement.answer (judge (views_of h) (asks c)))) a
    by a (inl judged) = inl (ap outcome_line judged.0)
    by (Ok reply) (inr fault) = absurd fault.0
    by (Err e) (inr fault) = inr (e, faults_stop e fault.0, refl)

obey_shows : {R : Type 0} (m : Ghosts R) (x : Unit {0}) (answer : Result Reply Refusal) (c : Command) (h : History) (new : R) → GoesOnAfter (Ok x) (refusal_given answer) → CommandLeaves m.showing answer new h (asks c) → m.showing.shows new (after h (asks c))
obey_shows m x answer c h new goes (inl judged) = judged.1
obey_shows m x (Ok reply) c h new goes (inr fault) = absurd fault.0
obey_shows m x (Err e) c h new goes (inr fault) = absurd (true≢false (sym (faults_stop e fault.0) ∙ goes))

obey_either : {R : Type 0} (m : Ghosts R) (answer : Result Reply Refusal) (c : Command) (h : History) (new : R) → CommandLeaves m.showing answer new h (asks c) → m.showing.shows new h ⊎ (m.showing.shows new (after h (asks c)) ⊎ m.showing.fails_between new h (after h (asks c)))
obey_either m answer c h new (inl judged) = inr (inl judged.1)
obey_either m answer c h new (inr (f, inl same)) = inl same
obey_either m answer c h new (inr (f, inr between)) = inr (inr between)

-- a stop leaves the command undone
obey_undone : {R : Type 0} (m : Ghosts R) (answer : Result Reply Refusal) (c : Command) (h : History) (new : R) (e : Refusal) → answer ≡ Err e → is_stop e ≡ true → CommandLeaves m.showing answer new h (asks c) → m.showing.shows new h ⊎ m.showing.fails_between new h (after h (asks c))
obey_undone m answer c h new e is stop (inl judged) = absurd (true≢false (sym stop ∙ judged_no_stop (views_of h) (asks c) e (sym judged.0 ∙ is)))
obey_undone m answer c h new e is stop (inr (f, inl same)) = inl same
obey_undone m answer c h new e is stop (inr (f, inr between)) = inr between

-- what was told of a stop
StopsBy : Result Reply Refusal → Type 0
StopsBy answer = (e : Refusal) × (answer ≡ Err e) × (is_stop e ≡ true)

stops_by : (result : Result (Unit {0}) LineEnd) (answer : Result Reply Refusal) (reply : List ℕ) (old left : Out) → TellsLine result reply (IsGivenStop (refusal_given answer)) old left → result ≡ Err Stopped → StopsBy answer
unfolding StopsBy
stops_by (Ok x) answer reply old left t is = absurd cc
stops_by (Err Stopped) answer reply old left t is = (t.stop.refusal, err_in answer t.stop.refusal t.stop.cause.0, t.stop.cause.1)
stops_by (Err WriteFault) answer reply old left t is = absurd cc
stops_by (Err TooLong) answer reply old left t is = absurd cc

-- a stop judges nothing
stop_unjudged : (e : Refusal) → is_stop e ≡ true → is_outcome (Err e) ≡ false
stop_unjudged BadPath stop = absurd cc
stop_unjudged BadName stop = absurd cc
stop_unjudged BadText stop = absurd cc
stop_unjudged NoAccount stop = absurd cc
stop_unjudged RankTooLow stop = absurd cc
stop_unjudged NoSubmission stop = absurd cc
stop_unjudged NotPending stop = absurd cc
stop_unjudged NotAuthor stop = absurd cc
stop_unjudged OwnDecision stop = absurd cc
stop_unjudged ParentMissing stop = absurd cc
stop_unjudged HasChildren stop = absurd cc
stop_unjudged NothingToDo stop = absurd cc
stop_unjudged (FileFault fault) stop = absurd cc
stop_unjudged Full stop = absurd cc
stop_unjudged Memory stop = refl
stop_unjudged Store stop = refl
stop_unjudged Failed stop = refl
stop_unjudged Changed stop = absurd cc

-- what goes on was judged
goes_judged : (e : Refusal) → is_stop e ≡ false → is_outcome (Err e) ≡ true
goes_judged BadPath goes = refl
goes_judged BadName goes = refl
goes_judged BadText goes = refl
goes_judged NoAccount goes = refl
goes_judged RankTooLow goes = refl
goes_judged NoSubmission goes = refl
goes_judged NotPending goes = refl
goes_judged NotAuthor goes = refl
goes_judged OwnDecision goes = refl
goes_judged ParentMissing goes = refl
goes_judged HasChildren goes = refl
goes_judged NothingToDo goes = refl
goes_judged (FileFault fault) goes = refl
goes_judged Full goes = refl
goes_judged Memory goes = absurd cc
goes_judged Store goes = absurd cc
goes_judged Failed goes = absurd cc
goes_judged Changed goes = refl

goes_outcome : (x : Unit {0}) (answer : Result Reply Refusal) → GoesOnAfter (Ok x) (refusal_given answer) → is_outcome answer ≡ true
goes_outcome x (Ok reply) goes = refl
goes_outcome x (Err e) goes = goes_judged e goes

obey_sends : {R : Type 0} (m : Ghosts R) (result : Result (Unit {0}) LineEnd) (answer : Result Reply Refusal) (c : Command) (verb : Verb) (account form : List ℕ) (r new : R)
    → command_in_form verb account form ≡ Ok c → (live : Bool) × Does m.showing r (lives.obeyed (asks c) answer live) new
    → GoesOnAfter result (refusal_given answer) → (result ≡ Err Stopped → StopsBy answer) → (result ≡ Err TooLong → ⊥) → SendsFor m result r new (lines.AsksCommand verb account form)
unfolding StopsBy
obey_sends m (Ok x) answer c verb account form r new is call goes stop fits = subst (λ a. CallsSend m.showing r (those_sent a) (calls_for (lines.AsksCommand verb account form)) new) (sym is) (send_obeyed m.showing r new (asks c) answer call.0 _ (one_call (lines.AsksCommand verb account form) (ap is_ok is)) (goes_outcome x answer goes) call.1)
obey_sends m (Err Stopped) answer c verb account form r new is call goes stop fits = let s = stop refl in send_refused m.showing r new (asks c) answer call.0 _ (one_call (lines.AsksCommand verb account form) (ap is_ok is)) (ap is_outcome s.1 ∙ stop_unjudged s.0 s.2) call.1
obey_sends m (Err WriteFault) answer c verb account form r new is call goes stop fits = subst (λ a. CallsSendEither m.showing r [] (those_sent a) (calls_for (lines.AsksCommand verb account form)) new) (sym is) (send_asked m.showing r new (asks c) answer call.0 _ (one_call (lines.AsksCommand verb account form) (ap is_ok is)) call.1)
obey_sends m (Err TooLong) answer c verb account form r new is call goes stop fits = absurd (fits refl)

obey_leaves : {R : Type 0} (m : Ghosts R) (result : Result (Unit {0}) LineEnd) (answer : Result Reply Refusal) (c : Command) (asked : Result Command Refusal) (verb : Verb) (account form : List ℕ) (h : History) (r new : R) (left : Out)
    → command_in_form verb account form ≡ Ok c
    → (m.showing.shows r h → CommandLeaves m.showing answer new h (asks c)) → (m.is_live r ≡ false → (answer ≡ Err Failed) × (new ≡ r))
    → GoesOnAfter result (refusal_given answer) → OnOk result (left.held ≡ []) → (result ≡ Err Stopped → StopsBy answer) → (result ≡ Err TooLong → ⊥)
    → LeavesAfter m result r h new (lines.AsksCommand verb account form) left
unfolding StopsBy
obey_leaves m (Ok x) answer c asked verb account form h r new left is obeys failed goes empty stop fits = record {
  becomes = record { shows = λ s. subst (λ a. m.showing.shows new (after_all h (those_sent a))) (sym is) (obey_shows m x answer c h new goes (obeys s)); failed = λ f. (failed f).1 };
  lives = λ f. absurd (failed_goes x (refusal_given answer) (ap refusal_given (failed f).0) goes);
  flushed = inr empty;
  fits = λ e. cc;
}
obey_leaves m (Err Stopped) answer c asked verb account form h r new left is obeys failed goes empty stop fits = record {
  stops = record {
    shows = λ s. let by = stop refl in subst (λ a. m.showing.shows new h ⊎ FailsAt m new h (those_sent a)) (sym is) (obey_undone m answer c h new by.0 by.1 by.2 (obeys s));
    failed = λ f. (failed f).1;
  };
  fits = λ e. cc;
}
obey_leaves m (Err WriteFault) answer c asked verb account form h r new left is obeys failed goes empty stop fits = record {
  shows = λ s. subst (λ a. m.showing.shows new h ⊎ (m.showing.shows new (after_all h (those_sent a)) ⊎ m.showing.fails_between new h (after_all h (those_sent a)))) (sym is) (obey_either m answer c h new (obeys s));
  failed = λ f. (failed f).1;
}
obey_leaves m (Err TooLong) answer c asked verb account form h r new left is obeys failed goes empty stop fits = absurd (fits refl)

-- a command was obeyed
pub obeyed : {R : Type 0} (m : Ghosts R) (result : Result (Unit {0}) LineEnd) (answer : Result Reply Refusal) (c : Command) (verb : Verb) (account form : List ℕ) (h : History) (r new : R) (old left : Out)
    → command_in_form verb account form ≡ Ok c
    → (m.showing.shows r h → CommandLeaves m.showing answer new h (asks c)) → (m.is_live r ≡ false → (answer ≡ Err Failed) × (new ≡ r))
    → ((reply : List ℕ) → IsReplyOrStop reply answer → TellsLine result reply (IsGivenStop (refusal_given answer)) old left)
    → GoesOnAfter result (refusal_given answer) → OnOk result (left.held ≡ []) → (result ≡ Err TooLong → ⊥)
    → (live : Bool) × Does m.showing r (lives.obeyed (asks c) answer live) new
    → ShowsOrHasFailed m r h → AnswersLine m result (lines.AsksCommand verb account form) h r old new left
obeyed m result answer c verb account form h r new old left is obeys failed told goes empty fits call stands = record {
  tells = recast (IsGivenRefusal (refusal_given answer)) (StoppedBy m r h (lines.AsksCommand verb account form)) IsNothing (IsBegun (lines.AsksCommand verb account form) h) result (outcome_of (command_in_form verb account form) h) old left
      (obey_cause m answer c (lines.AsksCommand verb account form) h r new (ap is_ok is) obeys (λ f. (failed f).0)) (λ b none. none)
      (subst (λ a. TellsLine result (outcome_of a h) (IsGivenStop (refusal_given answer)) old left) (sym is) tells);
  leaves = obey_leaves m result answer c (command_in_form verb account form) verb account form h r new left is obeys failed goes empty stop fits;
  sends = obey_sends m result answer c verb account form r new is call goes stop fits;
}
  where
    tells : TellsLine result (outcome_line (judgement.answer (judge (views_of h) (asks c)))) (IsGivenStop (refusal_given answer)) old left
    tells = told _ (obey_answer m answer c h r new obeys (λ f. (failed f).0) stands)

    stop : result ≡ Err Stopped → StopsBy answer
    stop = stops_by result answer (outcome_line (judgement.answer (judge (views_of h) (asks c)))) old left tells
