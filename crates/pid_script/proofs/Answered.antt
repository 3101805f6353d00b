-- Lines that were answered, and one more behind them.
use Rattle.std.proofs.Common.{◌≡◌, ◌+◌, ℕ, List, [], ◌∷◌, ◌++◌, Option, None, Some, Ok, Err, refl, sym, ap, ◌∙◌, subst, inl, inr, append_assoc, false}
use Rattle.std.proofs.lemmas.List.{append-nil}
use Rattle.std.specs.Io.KnownBytes.{Appends}
use Rattle.std.specs.Prelude.{◌⊎◌}
use Rattle.pid_ident.specs.Sending.{SendsFront}
use Rattle.pid_reader.specs.Lines.{lines_of}
use Rattle.pid_moderation.specs.declared.refusal.Refusal.{Refusal}
use Rattle.pid_moderation.specs.History.{History, Asked}
use Rattle.pid_moderation.specs.Judgement.{after_all}
use Rattle.pid_script.specs.declared.line_end.LineEnd.{LineEnd}
use Rattle.pid_script.specs.declared.line_end.LineEnd.TheVariants.{Stopped, WriteFault, TooLong}
use Rattle.pid_service_laws.specs.declared.registry_calls.RegistryCalls.{Ghosts}
use Rattle.pid_script.specs.Calling.{CallsSend, CallsSendEither}
use Rattle.pid_script.specs.Replies.{line_reply, calls_for, calls_for_lines, command_of, commands_of_lines, history_after, replies}
use Rattle.pid_script.specs.Steps.Output.{Out, HasSaid, SaysStop, AnswersLine}
use Rattle.pid_script.specs.ScriptLines.{Ask, ask_of}
use Rattle.pid_script.specs.RegistryStates.{ShowsOrHasFailed, Becomes, BecomesEither, StopsAfter}
use Rattle.pid_script.specs.StopLines.{IsBegun, StoppedBy, IsStopInPlace, IsStopText}
use Rattle.pid_script.specs.Steps.Progress.{Answered, Ended}
use Rattle.pid_script.specs.Scripts.{NoneTooLong, NoneCalls, AllButLast, IsNotTooLong, CallsNot, passage, AnswersLines, EndsTooLong, EndsStopped, IsTextFor, Replied, StoppedLast, FailsToWrite}
use Rattle.pid_script.proofs.SayLemmas.{none_fits, Appends-nil, Appends-then, front-then}
use Rattle.pid_script.proofs.Calling.{send_then, send_either}
use Rattle.pid_script.proofs.LineReplies.{counts_then, commands_more, commands_one, commands_then, history_on, history_more, replies_on, replies_one, fits_more, calls_more, quiet_lines, quiet_before, all_but_last, but_one, history_waits, reply_more}

becomes_then : {R : Type 0} (m : Ghosts R) (a b c : R) (h k l : History) → Becomes m a h b k → Becomes m b k c l → Becomes m a h c l
becomes_then m a b c h k l p q = record { shows = λ s. q.shows (p.shows s); failed = λ f. q.failed (subst (λ x. m.is_live x ≡ false) (sym (p.failed f)) f) ∙ p.failed f }

either_then : {R : Type 0} (m : Ghosts R) (a b c : R) (h k l n : History) → Becomes m a h b k → BecomesEither m b k c l n → BecomesEither m a h c l n
either_then m a b c h k l n p q = record { shows = λ s. q.shows (p.shows s); failed = λ f. q.failed (subst (λ x. m.is_live x ≡ false) (sym (p.failed f)) f) ∙ p.failed f }

stops_then : {R : Type 0} (m : Ghosts R) (a b c : R) (h k : History) (commands : List Asked) → Becomes m a h b k → StopsAfter m b k c k commands → StopsAfter m a h c k commands
stops_then m a b c h k commands p q = record { shows = λ s. q.shows (p.shows s); failed = λ f. q.failed (subst (λ x. m.is_live x ≡ false) (sym (p.failed f)) f) ∙ p.failed f }

pub stands_then : {R : Type 0} (m : Ghosts R) (a b : R) (h k : History) → Becomes m a h b k → ShowsOrHasFailed m a h → ShowsOrHasFailed m b k
stands_then m a b h k p (inl s) = inl (p.shows s)
stands_then m a b h k p (inr f) = inr (subst (λ x. m.is_live x ≡ false) (sym (p.failed f)) f)

cause_then : {R : Type 0} (m : Ghosts R) (a b : R) (h k : History) → Becomes m a h b k → (ask : Ask) (e : Refusal) → StoppedBy m b k ask e → StoppedBy m a h ask e
cause_then m a b h k p ask e c = record { stops = c.stops; live = λ s. c.live (p.shows s); failed = λ f. c.failed (subst (λ x. m.is_live x ≡ false) (sym (p.failed f)) f); unasked = c.unasked }

stop_then : {R : Type 0} (m : Ghosts R) (a b : R) (h k : History) (ask : Ask) (Begun : List ℕ → Type 0) (text : List ℕ) → Becomes m a h b k → IsStopText (StoppedBy m b k ask) Begun text → IsStopText (StoppedBy m a h ask) Begun text
stop_then m a b h k ask Begun text p s = record { begun = s.begun; front = s.front; refusal = s.refusal; cause = cause_then m a b h k p ask s.refusal s.cause; is = s.is }

-- what has gone out of the replies, and more behind
gone_on : (x y z w : List ℕ) → x ++ y ≡ z → x ++ (y ++ w) ≡ z ++ w
gone_on x y z w is = sym (append_assoc x y w) ∙ ap (λ (l : List ℕ). l ++ w) is

-- what was answered and is held no more
pub answers_out : {R : Type 0} (m : Ghosts R) (h : History) (start : Option (List ℕ)) (first r : R) (now : Out) (lines : List (List ℕ)) → Answered m h start first r now lines → now.held ≡ [] → AnswersLines m h (passage first r start now.taken) lines
answers_out m h start first r now lines a none = record {
  fits = a.fits;
  told = subst (Appends start now.taken) (sym (ap (replies h) a.parts ∙ replies_on a.before a.waiting h ∙ ap (λ (l : List ℕ). replies h a.before ++ l) (sym a.rest ∙ ap (λ (l : List ℕ). a.sent ++ l) none ∙ append-nil a.sent)))
      (Appends-then start a.between now.taken (replies h a.before) a.sent a.told a.went);
  leaves = a.leaves;
  lives = a.lives;
  calls = a.calls;
}

-- nothing is held, so nothing waits
pub answered_out : {R : Type 0} (m : Ghosts R) (h : History) (start : Option (List ℕ)) (first r : R) (now : Out) (lines : List (List ℕ)) → AnswersLines m h (passage first r start now.taken) lines → now.held ≡ [] → Answered m h start first r now lines
answered_out m h start first r now lines a none = record {
  before = lines;
  waiting = [];
  parts = sym (append-nil lines);
  asked = refl;
  between = now.taken;
  told = a.told;
  sent = [];
  went = Appends-nil now.taken;
  rest = none;
  room = none_fits now.held none;
  fits = a.fits;
  leaves = a.leaves;
  lives = a.lives;
  calls = a.calls;
}

-- all that is held goes out
pub flushed : {R : Type 0} (m : Ghosts R) (h : History) (start : Option (List ℕ)) (first r : R) (old : Out) (new : Option (List ℕ)) (lines : List (List ℕ)) → Answered m h start first r old lines → Appends old.taken new old.held → AnswersLines m h (passage first r start new) lines
flushed m h start first r old new lines a went = answers_out m h start first r (record { taken = new; fault = None; held = [] }) lines (record {
  before = a.before;
  waiting = a.waiting;
  parts = a.parts;
  asked = a.asked;
  between = a.between;
  told = a.told;
  sent = a.sent ++ old.held;
  went = Appends-then a.between old.taken new a.sent old.held a.went went;
  rest = append-nil (a.sent ++ old.held) ∙ a.rest;
  room = none_fits [] refl;
  fits = a.fits;
  leaves = a.leaves;
  lives = a.lives;
  calls = a.calls;
}) refl

-- or the writer fails
pub broken : {R : Type 0} (m : Ghosts R) (h : History) (start : Option (List ℕ)) (first r : R) (old : Out) (new : Option (List ℕ)) (all lines behind : List (List ℕ)) → all ≡ lines ++ behind → Answered m h start first r old lines → SendsFront old.taken new old.held → FailsToWrite m h (passage first r start new) all
broken m h start first r old new all lines behind parts a front = record {
  cut = record {
    before = a.before;
    waiting = a.waiting;
    behind = behind;
    parts = parts ∙ ap (λ (l : List (List ℕ)). l ++ behind) a.parts ∙ append_assoc a.before a.waiting behind;
    quiet = quiet_lines a.waiting a.asked;
  };
  sent = record {
    between = a.between;
    told = a.told;
    text = replies (history_after h a.before) a.waiting;
    is = Replied refl;
    front = subst (SendsFront a.between new) a.rest (front-then a.between old.taken new a.sent old.held a.went front);
  };
  fits = subst (AllButLast IsNotTooLong) a.parts (all_but_last IsNotTooLong lines a.fits);
  lives = λ f. subst (AllButLast CallsNot) a.parts (all_but_last CallsNot lines (a.lives f));
  leaves = record { shows = λ s. inr (inl (subst (λ l. m.showing.shows r (history_after h l)) a.parts (a.leaves.shows s))); failed = a.leaves.failed };
  calls = inr (subst (λ l. CallsSend m.showing first (commands_of_lines l) (calls_for_lines l) r) a.parts a.calls);
}

-- one more line was answered, and is held
more_held : {R : Type 0} (m : Ghosts R) (h : History) (start : Option (List ℕ)) (first r new : R) (old left : Out) (lines : List (List ℕ)) (line : List ℕ)
    → Answered m h start first r old lines → HasSaid old left (line_reply (ask_of line) (history_after h lines)) → command_of (ask_of line) ≡ []
    → NoneTooLong (lines ++ line ∷ []) → Becomes m first h new (history_after h (lines ++ line ∷ [])) → (m.is_live first ≡ false → NoneCalls (lines ++ line ∷ []))
    → CallsSend m.showing first (commands_of_lines (lines ++ line ∷ [])) (calls_for_lines (lines ++ line ∷ [])) new
    → Answered m h start first new left (lines ++ line ∷ [])
more_held m h start first r new old left lines line a said none fits leaves lives calls = record {
  before = a.before;
  waiting = a.waiting ++ line ∷ [];
  parts = ap (λ (l : List (List ℕ)). l ++ line ∷ []) a.parts ∙ append_assoc a.before a.waiting (line ∷ []);
  asked = commands_more a.waiting (line ∷ []) ∙ ap (λ (l : List Asked). l ++ commands_of_lines (line ∷ [])) a.asked ∙ commands_one line ∙ none;
  between = a.between;
  told = a.told;
  sent = a.sent ++ said.sent;
  went = Appends-then a.between old.taken left.taken a.sent said.sent a.went said.told;
  rest = append_assoc a.sent said.sent left.held ∙ ap (λ (l : List ℕ). a.sent ++ l) (sym said.rest) ∙ gone_on a.sent old.held (replies (history_after h a.before) a.waiting) (line_reply (ask_of line) (history_after h lines)) a.rest
      ∙ ap (λ (l : List ℕ). replies (history_after h a.before) a.waiting ++ l) (ap (line_reply (ask_of line)) (ap (history_after h) a.parts ∙ history_on h a.before a.waiting) ∙ sym (replies_one line (history_after (history_after h a.before) a.waiting)))
      ∙ sym (replies_on a.waiting (line ∷ []) (history_after h a.before));
  room = said.room a.room;
  fits = fits;
  leaves = leaves;
  lives = lives;
  calls = calls;
}

-- the replies to all lines and to one more, where what is held goes out with it
all_said : {R : Type 0} (m : Ghosts R) (h : History) (start : Option (List ℕ)) (first r : R) (old : Out) (new : Option (List ℕ)) (lines : List (List ℕ)) (text : List ℕ) → Answered m h start first r old lines → Appends old.taken new (old.held ++ text) → Appends start new (replies h lines ++ text)
all_said m h start first r old new lines text a went =
    subst (Appends start new)
    (ap (λ (l : List ℕ). replies h a.before ++ l) (gone_on a.sent old.held (replies (history_after h a.before) a.waiting) text a.rest) ∙ sym (append_assoc (replies h a.before) (replies (history_after h a.before) a.waiting) text) ∙ ap (λ (l : List ℕ). l ++ text) (sym (replies_on a.before a.waiting h) ∙ ap (replies h) (sym a.parts)))
    (Appends-then start a.between new (replies h a.before) (a.sent ++ (old.held ++ text)) a.told (Appends-then a.between old.taken new a.sent (old.held ++ text) a.went went))

said_all : (a b : Out) (x : List ℕ) → HasSaid a b x → b.held ≡ [] → Appends a.taken b.taken (a.held ++ x)
said_all a b x p none = subst (Appends a.taken b.taken) (sym (p.rest ∙ ap (λ (l : List ℕ). p.sent ++ l) none ∙ append-nil p.sent)) p.told

-- as many calls as lines and one more ask for
sent_for : {R : Type 0} (m : Ghosts R) (first new : R) (lines : List (List ℕ)) (line : List ℕ) (cs : List Asked) → CallsSend m.showing first cs (calls_for_lines lines + calls_for (ask_of line)) new → CallsSend m.showing first cs (calls_for_lines (lines ++ line ∷ [])) new
sent_for m first new lines line cs p = subst (λ n. CallsSend m.showing first cs n new) (sym (counts_then lines line)) p

-- one more line was answered
pub more_answered : {R : Type 0} (m : Ghosts R) (x : Unit {0}) (h : History) (start : Option (List ℕ)) (first r new : R) (old left : Out) (lines : List (List ℕ)) (line : List ℕ)
    → Answered m h start first r old lines → AnswersLine m (Ok x) (ask_of line) (history_after h lines) r old new left → Answered m h start first new left (lines ++ line ∷ [])
more_answered m x h start first r new old left lines line a e = by e.leaves.flushed
  where
    fits : NoneTooLong (lines ++ line ∷ [])
    fits = fits_more lines line a.fits e.leaves.fits

    leaves : Becomes m first h new (history_after h (lines ++ line ∷ []))
    leaves = subst (Becomes m first h new) (sym (history_more h lines line)) (becomes_then m first r new h (history_after h lines) (after_all (history_after h lines) (command_of (ask_of line))) a.leaves e.leaves.becomes)

    lives : m.is_live first ≡ false → NoneCalls (lines ++ line ∷ [])
    lives = λ f. calls_more lines line (a.lives f) (e.leaves.lives (subst (λ x. m.is_live x ≡ false) (sym (a.leaves.failed f)) f))

    calls : CallsSend m.showing first (commands_of_lines (lines ++ line ∷ [])) (calls_for_lines (lines ++ line ∷ [])) new
    calls = subst (λ cs. CallsSend m.showing first cs (calls_for_lines (lines ++ line ∷ [])) new) (sym (commands_then lines line)) (sent_for m first new lines line _ (send_then m.showing first r new (commands_of_lines lines) (command_of (ask_of line)) _ _ a.calls e.sends))

    by : (command_of (ask_of line) ≡ []) ⊎ (left.held ≡ []) → Answered m h start first new left (lines ++ line ∷ [])
    by (inl none) = more_held m h start first r new old left lines line a e.tells none fits leaves lives calls
    by (inr none) = answered_out m h start first new left (lines ++ line ∷ []) (record {
      fits = fits;
      told = subst (Appends start left.taken) (sym (reply_more h lines line)) (all_said m h start first r old left.taken lines (line_reply (ask_of line) (history_after h lines)) a (said_all old left (line_reply (ask_of line) (history_after h lines)) e.tells none));
      leaves = leaves;
      lives = lives;
      calls = calls;
    }) none

-- the text of the lines that wait, and of one more
said_for : {R : Type 0} (m : Ghosts R) (first r : R) (h at k : History) (waiting : List (List ℕ)) (line text : List ℕ) → k ≡ history_after at waiting → Becomes m first h r k
    → (text ≡ line_reply (ask_of line) k) ⊎ IsStopText (StoppedBy m r k (ask_of line)) (IsBegun (ask_of line) k) text
    → IsTextFor m first h at (waiting ++ line ∷ []) (replies at waiting ++ text)
said_for m first r h at k waiting line text same becomes (inl is) =
    Replied (ap (λ (l : List ℕ). replies at waiting ++ l) (is ∙ ap (line_reply (ask_of line)) same ∙ sym (replies_one line (history_after at waiting))) ∙ sym (replies_on waiting (line ∷ []) at))
said_for m first r h at k waiting line text same becomes (inr stop) =
    StoppedLast waiting line text refl (subst (λ g. IsStopText (StoppedBy m first h (ask_of line)) (IsBegun (ask_of line) g) text) same (stop_then m first r h k (ask_of line) (IsBegun (ask_of line) k) text becomes stop)) refl

-- what calls sent for the lines before one, and none for that one
none_sent : {R : Type 0} (m : Ghosts R) (first r new : R) (lines : List (List ℕ)) (line : List ℕ) → CallsSend m.showing first (commands_of_lines lines) (calls_for_lines lines) r → CallsSend m.showing r [] (calls_for (ask_of line)) new → CallsSend m.showing first (commands_of_lines lines) (calls_for_lines (lines ++ line ∷ [])) new
none_sent m first r new lines line p q = sent_for m first new lines line _ (subst (λ cs. CallsSend m.showing first cs (calls_for_lines lines + calls_for (ask_of line)) new) (append-nil (commands_of_lines lines)) (send_then m.showing first r new (commands_of_lines lines) [] _ _ p q))

-- or maybe for that one
either_sent : {R : Type 0} (m : Ghosts R) (first r new : R) (lines : List (List ℕ)) (line : List ℕ) → CallsSend m.showing first (commands_of_lines lines) (calls_for_lines lines) r → CallsSendEither m.showing r [] (command_of (ask_of line)) (calls_for (ask_of line)) new
    → CallsSendEither m.showing first (commands_of_lines lines) (commands_of_lines (lines ++ line ∷ [])) (calls_for_lines (lines ++ line ∷ [])) new
either_sent m first r new lines line p q =
    let both = calls_for_lines lines + calls_for (ask_of line) in
    subst (λ n. CallsSendEither m.showing first (commands_of_lines lines) (commands_of_lines (lines ++ line ∷ [])) n new) (sym (counts_then lines line))
    (subst (λ cs. CallsSendEither m.showing first cs (commands_of_lines (lines ++ line ∷ [])) both new) (append-nil (commands_of_lines lines))
    (subst (λ cs. CallsSendEither m.showing first (commands_of_lines lines ++ []) cs both new) (sym (commands_then lines line)) (send_either m.showing first r new (commands_of_lines lines) [] (command_of (ask_of line)) _ _ p q)))

-- a line stopped it, of which this part was read
pub stopped_at : {R : Type 0} (m : Ghosts R) (h : History) (start : Option (List ℕ)) (first r new : R) (old left : Out) (text rest front : List ℕ) (lines : List (List ℕ)) (line part : List ℕ) (behind more : List (List ℕ))
    → lines_of text ≡ lines ++ line ∷ behind → text ≡ front ++ rest → lines_of front ≡ lines ++ part ∷ more → IsNotTooLong part → Answered m h start first r old lines
    → SaysStop (IsStopInPlace m r (history_after h lines) (history_after h lines) (ask_of line)) old left → StopsAfter m r (history_after h lines) new (history_after h lines) (command_of (ask_of line)) → CallsSend m.showing r [] (calls_for (ask_of line)) new
    → EndsStopped m h (passage first new start left.taken) text (Some rest)
stopped_at m h start first r new old left text rest front lines line part behind more parts read is fits a tells leaves sends = record {
  stops = record {
    before = lines;
    line = line;
    behind = behind;
    parts = parts;
    fits = a.fits;
    lives = a.lives;
    text = tells.text;
    stop = stop_then m first r h (history_after h lines) (ask_of line) (IsBegun (ask_of line) (history_after h lines)) tells.text a.leaves tells.stop;
    told = all_said m h start first r old left.taken lines tells.text a tells.told;
    leaves = stops_then m first r new h (history_after h lines) (command_of (ask_of line)) a.leaves leaves;
    calls = none_sent m first r new lines line a.calls sends;
  };
  front = front;
  read = read;
  part = part;
  behind = more;
  parts = is;
  fits = fits;
}

-- a line is too long
pub long_at : {R : Type 0} (m : Ghosts R) (h : History) (start : Option (List ℕ)) (first r new : R) (old left : Out) (all lines : List (List ℕ)) (line : List ℕ) (behind : List (List ℕ))
    → all ≡ lines ++ line ∷ behind → Answered m h start first r old lines → AnswersLine m (Err TooLong) (ask_of line) (history_after h lines) r old new left
    → EndsTooLong m h (passage first new start left.taken) all
long_at m h start first r new old left all lines line behind parts a e = record {
  before = lines;
  line = line;
  behind = behind;
  parts = parts;
  long = e.leaves.long;
  fits = a.fits;
  lives = a.lives;
  told = subst (Appends start left.taken) (sym (reply_more h lines line)) (all_said m h start first r old left.taken lines (line_reply (ask_of line) (history_after h lines)) a e.tells);
  leaves = becomes_then m first r new h (history_after h lines) (history_after h lines) a.leaves e.leaves.becomes;
  calls = none_sent m first r new lines line a.calls e.sends;
}

-- the writer failed at a line
pub broken_at : {R : Type 0} (m : Ghosts R) (h : History) (start : Option (List ℕ)) (first r new : R) (old left : Out) (all lines : List (List ℕ)) (line : List ℕ) (behind : List (List ℕ))
    → all ≡ lines ++ line ∷ behind → Answered m h start first r old lines → AnswersLine m (Err WriteFault) (ask_of line) (history_after h lines) r old new left
    → FailsToWrite m h (passage first new start left.taken) all
broken_at m h start first r new old left all lines line behind parts a e =
    let at = history_after h a.before in
    let same : history_after h lines ≡ history_after at a.waiting = ap (history_after h) a.parts ∙ history_on h a.before a.waiting in
    let stays : history_after h lines ≡ at = ap (history_after h) a.parts ∙ history_waits h a.before a.waiting a.asked in
    let whole : lines ++ line ∷ [] ≡ a.before ++ (a.waiting ++ line ∷ []) = ap (λ (l : List (List ℕ)). l ++ line ∷ []) a.parts ∙ append_assoc a.before a.waiting (line ∷ []) in
    let next : after_all (history_after h lines) (command_of (ask_of line)) ≡ history_after h (a.before ++ (a.waiting ++ line ∷ [])) = sym (history_more h lines line) ∙ ap (history_after h) whole in
    record {
      cut = record {
        before = a.before;
        waiting = a.waiting ++ line ∷ [];
        behind = behind;
        parts = parts ∙ ap (λ (l : List (List ℕ)). l ++ line ∷ behind) a.parts ∙ append_assoc a.before a.waiting (line ∷ behind) ∙ ap (λ (l : List (List ℕ)). a.before ++ l) (sym (append_assoc a.waiting (line ∷ []) behind));
        quiet = quiet_before a.waiting line a.asked;
      };
      sent = record {
        between = a.between;
        told = a.told;
        text = replies at a.waiting ++ e.tells.text;
        is = said_for m first r h at (history_after h lines) a.waiting line e.tells.text same a.leaves e.tells.is;
        front = subst (SendsFront a.between left.taken) (gone_on a.sent old.held (replies at a.waiting) e.tells.text a.rest) (front-then a.between old.taken left.taken a.sent (old.held ++ e.tells.text) a.went e.tells.front.0);
      };
      fits = subst (AllButLast IsNotTooLong) whole (but_one IsNotTooLong lines line a.fits);
      lives = λ f. subst (AllButLast CallsNot) whole (but_one CallsNot lines line (a.lives f));
      leaves = subst (λ g. BecomesEither m first h new at g) next (subst (λ g. BecomesEither m first h new g (after_all (history_after h lines) (command_of (ask_of line)))) stays (either_then m first r new h (history_after h lines) (history_after h lines) (after_all (history_after h lines) (command_of (ask_of line))) a.leaves e.leaves));
      calls = subst (λ cs. CallsSendEither m.showing first cs (commands_of_lines (a.before ++ (a.waiting ++ line ∷ []))) (calls_for_lines (a.before ++ (a.waiting ++ line ∷ []))) new)
          (ap commands_of_lines a.parts ∙ commands_more a.before a.waiting ∙ ap (λ (l : List Asked). commands_of_lines a.before ++ l) a.asked ∙ append-nil (commands_of_lines a.before))
          (subst (λ ls. CallsSendEither m.showing first (commands_of_lines lines) (commands_of_lines ls) (calls_for_lines ls) new) whole (either_sent m first r new lines line a.calls e.sends));
    }

-- a line ended it that was read whole
pub ends_at : {R : Type 0} (m : Ghosts R) (end : LineEnd) (h : History) (start : Option (List ℕ)) (first r new : R) (old left : Out) (text rest front : List ℕ) (lines : List (List ℕ)) (line : List ℕ) (behind more : List (List ℕ))
    → lines_of text ≡ lines ++ line ∷ behind → text ≡ front ++ rest → lines_of front ≡ lines ++ line ∷ more → Answered m h start first r old lines → AnswersLine m (Err end) (ask_of line) (history_after h lines) r old new left
    → Ended m end h start first new left text rest
ends_at m Stopped h start first r new old left text rest front lines line behind more parts read is a e = stopped_at m h start first r new old left text rest front lines line line behind more parts read is e.leaves.fits a e.tells e.leaves.stops e.sends
ends_at m WriteFault h start first r new old left text rest front lines line behind more parts read is a e = broken_at m h start first r new old left (lines_of text) lines line behind parts a e
ends_at m TooLong h start first r new old left text rest front lines line behind more parts read is a e = long_at m h start first r new old left (lines_of text) lines line behind parts a e
