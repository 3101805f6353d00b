-- The answer to an export.
use mathlib.Core.Bool.{true≢false}
use Rattle.std.proofs.Common.{◌≡◌, ℕ, true, List, [], ◌++◌, Option, Some, Result, Ok, Err, refl, sym, ap, ◌∙◌, subst, inl, inr, arith, false}
use Rattle.std.specs.Io.KnownBytes.{Appends}
use Rattle.std.specs.Prelude.{◌⊎◌, IsErrOf, IsSome}
use Rattle.pid_ident.specs.Sending.{SendsFront}
use Rattle.pid_file.specs.declared.io.WriteFault.{WriteFault as OutputFault}
use Rattle.pid_file.specs.Printing.{print}
use Rattle.pid_moderation.specs.declared.refusal.Refusal.{Refusal}
use Rattle.pid_moderation.specs.declared.refusal.Refusal.TheVariants.{Failed}
use Rattle.pid_moderation.specs.History.{History}
use Rattle.pid_moderation.specs.ReplyLines.{refused_line}
use Rattle.pid_moderation.specs.Writes.{tree_of}
use Rattle.pid_service_laws.specs.declared.faults.ExportFault.{ExportFault}
use Rattle.pid_service_laws.specs.declared.faults.ExportFault.TheVariants.{Refused, Write}
use Rattle.pid_moderation.specs.Faults.{IsMemoryOrStore}
use Rattle.pid_service_laws.specs.Calls.{nothing_sent}
use Rattle.pid_service_laws.specs.Registries.{Does}
use Rattle.pid_script.specs.declared.line_end.LineEnd.{LineEnd}
use Rattle.pid_script.specs.declared.line_end.LineEnd.TheVariants.{Stopped, WriteFault, TooLong}
use Rattle.pid_service_laws.specs.declared.registry_calls.RegistryCalls.{Ghosts}
use Rattle.pid_service_laws.specs.Moderating.{ExportsText, TakesWholeFront}
use Rattle.pid_script.specs.Steps.Output.{Out, GoesOut, IsGivenRefusal, IsGivenStop, IsNothing, TellsLine, IsReplyOrStop, GoesOnAfter, AnswersLine}
use Rattle.pid_script.specs.ScriptLines as lines
use Rattle.pid_script.specs.RegistryStates.{ShowsOrHasFailed}
use Rattle.pid_script.specs.StopLines.{is_stop, StoppedBy, IsStopText}
use Rattle.pid_service_laws.specs.WholeFronts.{IsWholeFront}
use Rattle.pid_script.proofs.Calling.{send_still, send_none}
use Rattle.pid_script.proofs.SayLemmas.{Appends-nil, Appends-then, front-then, front-before, out_then}
use Rattle.pid_script.proofs.Causes.{faults_stop}

-- what was held did not go out before an export
pub export_unheld : {R : Type 0} (m : Ghosts R) (e : LineEnd) (h : History) (r : R) (old left : Out) → GoesOut (Err e) old left old.held → AnswersLine m (Err e) lines.AsksExport h r old r left
export_unheld m e h r old left sends = subst (λ x. AnswersLine m (Err x) lines.AsksExport h r old r left) (sym sends.0) (record {
  tells = record { text = print (tree_of h); is = inl refl; front = (front-before old.taken left.taken old.held (print (tree_of h)) sends.1, sends.2) };
  leaves = record { shows = λ s. inl s; failed = λ _. refl };
  sends = inl (send_still m.showing r 1);
})

-- the whole text went out
pub export_whole : {R : Type 0} (m : Ghosts R) (x : Unit {0}) (h : History) (r new : R) (old : Out) (b : Option (List ℕ)) (left : Out) → Appends old.taken b old.held → left.held ≡ [] → (m.showing.shows r h → Appends b left.taken (print (tree_of h))) → (m.showing.shows r h → m.showing.shows new h) → (m.is_live r ≡ false → ⊥) → Does m.showing r nothing_sent new → ShowsOrHasFailed m r h
    → AnswersLine m (Ok x) lines.AsksExport h r old new left
export_whole m x h r new old b left went none told kept failed does stands = record {
  tells = out_then old b left (print (tree_of h)) none went (by stands);
  leaves = record { becomes = record { shows = kept; failed = λ f. absurd (failed f) }; lives = λ f. absurd (failed f); flushed = inr none; fits = λ e. cc };
  sends = send_none m.showing r new 1 (omega arith) does;
}
  where
    by : ShowsOrHasFailed m r h → Appends b left.taken (print (tree_of h))
    by (inl s) = told s
    by (inr f) = absurd (failed f)

-- the writer failed within the text
pub export_broken : {R : Type 0} (m : Ghosts R) (h : History) (r new : R) (old : Out) (b : Option (List ℕ)) (left : Out) → Appends old.taken b old.held → IsSome left.fault → (m.showing.shows r h → SendsFront b left.taken (print (tree_of h))) → (m.showing.shows r h → m.showing.shows new h) → (m.is_live r ≡ false → ⊥) → Does m.showing r nothing_sent new → ShowsOrHasFailed m r h
    → AnswersLine m (Err WriteFault) lines.AsksExport h r old new left
export_broken m h r new old b left went fault told kept failed does stands = record {
  tells = record { text = print (tree_of h); is = inl refl; front = (front-then old.taken b left.taken old.held (print (tree_of h)) went (by stands), fault) };
  leaves = record { shows = λ s. inl (kept s); failed = λ f. absurd (failed f) };
  sends = inl (send_none m.showing r new 1 (omega arith) does);
}
  where
    by : ShowsOrHasFailed m r h → SendsFront b left.taken (print (tree_of h))
    by (inl s) = told s
    by (inr f) = absurd (failed f)

-- what an export told, by the fault
pub write_known : (f : ExportFault) (w : OutputFault) (a b : Option (List ℕ)) (text : List ℕ) → f ≡ Write w → ExportsText {X = Unit {0}} (Err f) a b text → SendsFront a b text
write_known f w a b text is told = subst (λ g. ExportsText {X = Unit {0}} (Err g) a b text) is told

pub refused_known : (f : ExportFault) (e : Refusal) (a b : Option (List ℕ)) (text : List ℕ) → f ≡ Refused e → ExportsText {X = Unit {0}} (Err f) a b text → IsMemoryOrStore e × TakesWholeFront a b text
refused_known f e a b text is told = subst (λ g. ExportsText {X = Unit {0}} (Err g) a b text) is told

fault_of : {X : Type 0} → Result X ExportFault → ExportFault → ExportFault
fault_of (Ok x) other = other
fault_of (Err f) other = f

pub fault_same : {X : Type 0} (f g : ExportFault) → IsErrOf {T = X} (Err f) g → f ≡ g
unfolding fault_of
fault_same {X} f g is = ap (λ (r : Result X ExportFault). fault_of r g) is

pub of_fault : {X : Type 0} (f g : ExportFault) → f ≡ g → IsErrOf {T = X} (Err f) g
of_fault f g is = ap Err is

pub not_write : (f : ExportFault) (w : OutputFault) (e : Refusal) → f ≡ Write w → f ≡ Refused e → ⊥
not_write f w e is other = let bad : Write w ≡ Refused e = sym is ∙ other in absurd cc

pub which_refusal : (f : ExportFault) (e g : Refusal) → f ≡ Refused e → f ≡ Refused g → e ≡ g
which_refusal f e g is other = let same : Refused e ≡ Refused g = sym is ∙ other in cc

-- an export was refused, behind whole lines of the text
record BegunExport (a b : Option (List ℕ)) (text : List ℕ) : Type 0 where
  pub front : List ℕ
  pub whole : IsWholeFront text front
  pub told : Appends a b front

after_begun : {R : Type 0} (m : Ghosts R) (result : Result (Unit {0}) LineEnd) (e : Refusal) (h : History) (r new : R) (old : Out) (b : Option (List ℕ)) (mid left : Out)
    → Appends old.taken b old.held → mid.held ≡ [] → BegunExport b mid.taken (print (tree_of h)) → ((f : Refusal) → IsGivenRefusal (Some e) f → StoppedBy m r h lines.AsksExport f) → is_stop e ≡ true → (m.showing.shows r h → m.showing.shows new h) → (m.is_live r ≡ false → new ≡ r)
    → TellsLine result (refused_line e) (IsGivenStop (Some e)) mid left → GoesOnAfter result (Some e) → Does m.showing r nothing_sent new
    → AnswersLine m result lines.AsksExport h r old new left
after_begun m (Ok x) e h r new old b mid left went none begun cause stop kept failed t goes does = absurd (true≢false (sym stop ∙ goes))
after_begun m (Err Stopped) e h r new old b mid left went none begun cause stop kept failed t goes does = record {
  tells = record {
    text = begun.front ++ t.text;
    stop = record {
      begun = begun.front;
      front = begun.whole;
      refusal = t.stop.refusal;
      cause = cause t.stop.refusal t.stop.cause;
      is = ap (λ (l : List ℕ). begun.front ++ l) (t.stop.is ∙ ap (λ (l : List ℕ). l ++ refused_line t.stop.refusal) t.stop.front);
    };
    told = Appends-then old.taken b left.taken old.held (begun.front ++ t.text) went (Appends-then b mid.taken left.taken begun.front t.text begun.told (subst (λ (l : List ℕ). Appends mid.taken left.taken (l ++ t.text)) none t.told));
  };
  leaves = record { stops = record { shows = λ s. inl (kept s); failed = failed }; fits = λ e. cc };
  sends = send_none m.showing r new 1 (omega arith) does;
}
after_begun m (Err WriteFault) e h r new old b mid left went none begun cause stop kept failed t goes does = record {
  tells = record {
    text = begun.front ++ t.text;
    is = inr (by t.is);
    front = (front-then old.taken b left.taken old.held (begun.front ++ t.text) went (front-then b mid.taken left.taken begun.front t.text begun.told (subst (λ (l : List ℕ). SendsFront mid.taken left.taken (l ++ t.text)) none t.front.0)), t.front.1);
  };
  leaves = record { shows = λ s. inl (kept s); failed = failed };
  sends = inl (send_none m.showing r new 1 (omega arith) does);
}
  where
    by : (t.text ≡ refused_line e) ⊎ IsStopText (IsGivenRefusal (Some e)) IsNothing t.text → IsStopText (StoppedBy m r h lines.AsksExport) (λ b. IsWholeFront (print (tree_of h)) b) (begun.front ++ t.text)
    by (inl is) = record { begun = begun.front; front = begun.whole; refusal = e; cause = cause e (refl, stop); is = ap (λ (l : List ℕ). begun.front ++ l) is }
    by (inr s) = record {
      begun = begun.front;
      front = begun.whole;
      refusal = s.refusal;
      cause = cause s.refusal s.cause;
      is = ap (λ (l : List ℕ). begun.front ++ l) (s.is ∙ ap (λ (l : List ℕ). l ++ refused_line s.refusal) s.front);
    }
after_begun m (Err TooLong) e h r new old b mid left went none begun cause stop kept failed t goes does = absurd goes

pub export_refused : {R : Type 0} (m : Ghosts R) (result : Result (Unit {0}) LineEnd) (e : Refusal) (h : History) (r new : R) (old : Out) (b : Option (List ℕ)) (mid left : Out)
    → Appends old.taken b old.held → mid.held ≡ [] → (m.showing.shows r h → IsMemoryOrStore e × TakesWholeFront b mid.taken (print (tree_of h))) → (m.is_live r ≡ false → (e ≡ Failed) × (new ≡ r) × (mid.taken ≡ b)) → (m.showing.shows r h → m.showing.shows new h) → ShowsOrHasFailed m r h
    → ((reply : List ℕ) → IsReplyOrStop reply (Err e) → TellsLine result reply (IsGivenStop (Some e)) mid left) → GoesOnAfter result (Some e) → Does m.showing r nothing_sent new
    → AnswersLine m result lines.AsksExport h r old new left
export_refused m result e h r new old b mid left went none told failed kept stands sends goes does =
    after_begun m result e h r new old b mid left went none (by stands) cause (stops stands) kept (λ f. (failed f).1) (sends (refused_line e) (inl refl)) goes does
  where
    by : ShowsOrHasFailed m r h → BegunExport b mid.taken (print (tree_of h))
    by (inl s) = record { front = (told s).1.front; whole = (told s).1.whole; told = (told s).1.told }
    by (inr f) = record { front = []; whole = record { behind = print (tree_of h); is = refl; whole = refl }; told = subst (λ x. Appends b x []) (sym (failed f).2) (Appends-nil b) }

    stops : ShowsOrHasFailed m r h → is_stop e ≡ true
    stops (inl s) = faults_stop e (told s).0
    stops (inr f) = ap is_stop (failed f).0

    cause : (f : Refusal) → IsGivenRefusal (Some e) f → StoppedBy m r h lines.AsksExport f
    cause f given = record { stops = given.1; live = λ s. (let same : e ≡ f = cc given.0 in subst IsMemoryOrStore same (told s).0); failed = λ g. inl (let same : e ≡ f = cc given.0 in sym same ∙ (failed g).0); unasked = λ off. absurd (true≢false off) }
