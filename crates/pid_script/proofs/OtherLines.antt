-- The answers to lines that ask nothing of the registry, and to those that do not fit.
use Rattle.std.proofs.Common.{◌≡◌, ℕ, ◌<◌, false, List, [], ◌∷◌, ◌++◌, length, Option, Some, None, Result, Ok, Err, refl, sym, subst, inl, inr, arith}
use Rattle.std.proofs.lemmas.List.{append-nil}
use Rattle.std.specs.Prelude.{◌⊎◌}
use Rattle.pid_reader.specs.Lines.{drop_cr, lines_of}
use Rattle.pid_moderation.specs.declared.refusal.Refusal.TheVariants.{BadText, Memory, Failed}
use Rattle.pid_moderation.specs.History.{History}
use Rattle.pid_moderation.specs.ReplyLines.{refused_line}
use Rattle.pid_script.specs.declared.line_end.LineEnd.{LineEnd}
use Rattle.pid_script.specs.declared.line_end.LineEnd.TheVariants.{Stopped, WriteFault, TooLong}
use Rattle.pid_service_laws.specs.declared.registry_calls.RegistryCalls.{Ghosts}
use Rattle.pid_script.specs.Replies.{command_of, history_after}
use Rattle.pid_script.specs.RegistryStates.{StopsAfter}
use Rattle.pid_script.specs.Steps.Output.{Out, SaysMemory, SaysStop, SaysText, SaysTooLong, Unfit, NoMemory, AlreadyLong, AnswersLine}
use Rattle.pid_script.specs.Steps.Progress.{Answered, Ended}
use Rattle.pid_script.specs.ScriptLines as lines
use Rattle.pid_script.specs.ScriptLines.{Ask, LONGEST, ask_of}
use Rattle.pid_script.specs.StopLines.{IsStopInPlace}
use Rattle.pid_script.proofs.Answered.{broken_at, long_at, stopped_at}
use Rattle.pid_script.proofs.Calling.{send_still}
use Rattle.pid_script.proofs.SayLemmas.{Appends-nil, tells_said}
use Rattle.pid_script.proofs.ScriptAsks.{begins_shorter, short_fits, too_long}
use Rattle.pid_script.proofs.Causes.{none_begun, no_cause, own_cause}
use Rattle.pid_script.proofs.Asked.{same, asked, always, goes_fit, none_goes}

-- a line that holds no question
pub idle : {R : Type 0} (m : Ghosts R) (h : History) (r : R) (o : Out) → AnswersLine m (Ok tt) lines.AsksNothing h r o r o
idle m h r o = record {
  tells = record { sent = []; told = Appends-nil o.taken; rest = append-nil o.held; room = λ less. less };
  leaves = record { becomes = same m r h; lives = λ _. refl; flushed = inl refl; fits = λ e. cc };
  sends = send_still m.showing r _;
}

-- a line that is no line of a script
pub unclear : {R : Type 0} (m : Ghosts R) (result : Result (Unit {0}) LineEnd) (h : History) (r : R) (old left : Out) → SaysText result old left (refused_line BadText) → AnswersLine m result lines.Unclear h r old r left
unclear m result h r old left says =
    let goes = none_goes result (refused_line BadText) old left says in
    asked m result lines.Unclear h r r old left None refl (λ e. cc) (same m r h) (no_cause m r h lines.Unclear) (always result (m.is_live r ≡ false → (false ≡ false) ⊎ (None ≡ Some Failed)) (λ _. inl refl)) goes (goes_fit result None goes) (send_still m.showing r _) (tells_said result None (refused_line BadText) old left says)

-- a line that is too long
pub long : {R : Type 0} (m : Ghosts R) (e : LineEnd) (h : History) (r : R) (old left : Out) → SaysTooLong e old left → AnswersLine m (Err e) lines.TooLong h r old r left
long m Stopped h r old left says = absurd says
long m WriteFault h r old left says = record {
  tells = record { text = refused_line BadText; is = inl refl; front = says };
  leaves = record { shows = λ s. inl s; failed = λ _. refl };
  sends = inl (send_still m.showing r _);
}
long m TooLong h r old left says = record { tells = says; leaves = record { becomes = same m r h; long = refl }; sends = send_still m.showing r _ }

-- a line that begins with bytes that are too long already
long_line : (bytes tail : List ℕ) → LONGEST < length (drop_cr bytes) → ask_of (drop_cr (bytes ++ tail)) ≡ lines.TooLong
long_line bytes tail h = let more = begins_shorter bytes tail in sym (too_long (drop_cr (bytes ++ tail)) (omega (arith, h, more)))

-- there is no memory for a line, whatever it asks
own_stop : {R : Type 0} (m : Ghosts R) (r : R) (ask : Ask) (h : History) → IsStopInPlace m r h h ask (refused_line Memory)
own_stop m r ask h = record { begun = []; front = none_begun ask h [] refl; refusal = Memory; cause = own_cause m r h ask Memory (refl, refl); is = refl }

own_says : {R : Type 0} (m : Ghosts R) (r : R) (ask : Ask) (h : History) (old left : Out) → SaysMemory Stopped old left → SaysStop (IsStopInPlace m r h h ask) old left
own_says m r ask h old left says = record { text = refused_line Memory; stop = own_stop m r ask h; told = says }

-- the registry is as before, and nothing is undone
still : {R : Type 0} (m : Ghosts R) (r : R) (h : History) (ask : Ask) → StopsAfter m r h r h (command_of ask)
still m r h ask = record { shows = λ s. inl s; failed = λ f. refl }

unfit_broken : {R : Type 0} (m : Ghosts R) (bytes tail : List ℕ) (h : History) (r : R) (old left : Out) → Unfit WriteFault bytes old left → AnswersLine m (Err WriteFault) (ask_of (drop_cr (bytes ++ tail))) h r old r left
unfit_broken m bytes tail h r old left (NoMemory fits says) = record {
  tells = record { text = refused_line Memory; is = inr (own_stop m r (ask_of (drop_cr (bytes ++ tail))) h); front = says };
  leaves = record { shows = λ s. inl s; failed = λ f. refl };
  sends = inl (send_still m.showing r _);
}
unfit_broken m bytes tail h r old left (AlreadyLong more says) =
    subst (λ a. AnswersLine m (Err WriteFault) a h r old r left) (sym (long_line bytes tail more)) (long m WriteFault h r old left says)

unfit_long : {R : Type 0} (m : Ghosts R) (bytes tail : List ℕ) (h : History) (r : R) (old left : Out) → Unfit TooLong bytes old left → AnswersLine m (Err TooLong) (ask_of (drop_cr (bytes ++ tail))) h r old r left
unfit_long m bytes tail h r old left (NoMemory fits says) = absurd says
unfit_long m bytes tail h r old left (AlreadyLong more says) =
    subst (λ a. AnswersLine m (Err TooLong) a h r old r left) (sym (long_line bytes tail more)) (long m TooLong h r old left says)

-- the line is whole
pub unfit_here : {R : Type 0} (m : Ghosts R) (e : LineEnd) (bytes : List ℕ) (h : History) (r : R) (old left : Out) → Unfit e bytes old left → AnswersLine m (Err e) (ask_of (drop_cr bytes)) h r old r left
unfit_here m Stopped bytes h r old left (NoMemory fits says) = record {
  tells = own_says m r (ask_of (drop_cr bytes)) h old left says;
  leaves = record { stops = still m r h (ask_of (drop_cr bytes)); fits = short_fits (drop_cr bytes) fits };
  sends = send_still m.showing r _;
}
unfit_here m Stopped bytes h r old left (AlreadyLong more says) = absurd says
unfit_here m WriteFault bytes h r old left u = subst (λ l. AnswersLine m (Err WriteFault) (ask_of (drop_cr l)) h r old r left) (append-nil bytes) (unfit_broken m bytes [] h r old left u)
unfit_here m TooLong bytes h r old left u = subst (λ l. AnswersLine m (Err TooLong) (ask_of (drop_cr l)) h r old r left) (append-nil bytes) (unfit_long m bytes [] h r old left u)

-- or goes on after what was read of it
pub unfit_ends : {R : Type 0} (m : Ghosts R) (e : LineEnd) (bytes tail : List ℕ) (h : History) (start : Option (List ℕ)) (first r : R) (old left : Out) (text rest front : List ℕ) (before : List (List ℕ)) (behind more : List (List ℕ))
    → Unfit e bytes old left → lines_of text ≡ before ++ drop_cr (bytes ++ tail) ∷ behind → text ≡ front ++ rest → lines_of front ≡ before ++ drop_cr bytes ∷ more → Answered m h start first r old before
    → Ended m e h start first r left text rest
unfit_ends m Stopped bytes tail h start first r old left text rest front before behind more (NoMemory fits says) parts read is a =
    let ask = ask_of (drop_cr (bytes ++ tail)) in
    let at = history_after h before in
    stopped_at m h start first r r old left text rest front before (drop_cr (bytes ++ tail)) (drop_cr bytes) behind more parts read is (short_fits (drop_cr bytes) fits) a
    (own_says m r ask at old left says) (still m r at ask) (send_still m.showing r _)
unfit_ends m Stopped bytes tail h start first r old left text rest front before behind more (AlreadyLong longer says) parts read is a = absurd says
unfit_ends m WriteFault bytes tail h start first r old left text rest front before behind more u parts read is a =
    broken_at m h start first r r old left (lines_of text) before (drop_cr (bytes ++ tail)) behind parts a (unfit_broken m bytes tail (history_after h before) r old left u)
unfit_ends m TooLong bytes tail h start first r old left text rest front before behind more u parts read is a =
    long_at m h start first r r old left (lines_of text) before (drop_cr (bytes ++ tail)) behind parts a (unfit_long m bytes tail (history_after h before) r old left u)
