-- The commands of lines, their replies and the history behind them.
use Rattle.std.proofs.Common.{◌≡◌, ◌≤◌, ◌+◌, ℕ, true, false, cond, List, [], ◌∷◌, ◌++◌, refl, sym, ap, subst, ◌∙◌, append_assoc, arith}
use Rattle.std.proofs.lemmas.List.{append-nil}
use Rattle.std.specs.List.{AllByRecursion}
use Rattle.pid_moderation.specs.History.{History, Asked}
use Rattle.pid_moderation.specs.Judgement.{after, after_all}
use Rattle.pid_script.specs.Replies.{line_reply, command_of, is_call, calls_for, calls_for_lines, commands_of_lines, history_after, replies}
use Rattle.pid_script.specs.ScriptLines.{Ask, ask_of}
use Rattle.pid_script.specs.ScriptLines as asks
use Rattle.pid_script.specs.Scripts.{NoneTooLong, NoneCalls, AllButLast, CommandsNot}

after_more : (xs : List Asked) (h : History) (ys : List Asked) → after_all h (xs ++ ys) ≡ after_all (after_all h xs) ys
after_more [] h ys = refl
after_more (x ∷ xs) h ys = after_more xs (after h x) ys

pub commands_more : (xs ys : List (List ℕ)) → commands_of_lines (xs ++ ys) ≡ commands_of_lines xs ++ commands_of_lines ys
commands_more [] ys = refl
commands_more (x ∷ xs) ys = ap (λ (l : List Asked). command_of (ask_of x) ++ l) (commands_more xs ys) ∙ sym (append_assoc (command_of (ask_of x)) (commands_of_lines xs) (commands_of_lines ys))

pub commands_one : (line : List ℕ) → commands_of_lines (line ∷ []) ≡ command_of (ask_of line)
commands_one line = append-nil (command_of (ask_of line))

pub commands_then : (xs : List (List ℕ)) (line : List ℕ) → commands_of_lines (xs ++ line ∷ []) ≡ commands_of_lines xs ++ command_of (ask_of line)
commands_then xs line = commands_more xs (line ∷ []) ∙ ap (λ (l : List Asked). commands_of_lines xs ++ l) (commands_one line)

pub history_on : (h : History) (xs ys : List (List ℕ)) → history_after h (xs ++ ys) ≡ history_after (history_after h xs) ys
history_on h xs ys = ap (after_all h) (commands_more xs ys) ∙ after_more (commands_of_lines xs) h (commands_of_lines ys)

pub history_more : (h : History) (xs : List (List ℕ)) (line : List ℕ) → history_after h (xs ++ line ∷ []) ≡ after_all (history_after h xs) (command_of (ask_of line))
history_more h xs line = history_on h xs (line ∷ []) ∙ ap (after_all (history_after h xs)) (commands_one line)

pub replies_on : (xs ys : List (List ℕ)) (h : History) → replies h (xs ++ ys) ≡ replies h xs ++ replies (history_after h xs) ys
replies_on [] ys h = refl
replies_on (x ∷ xs) ys h =
    ap (λ (l : List ℕ). line_reply (ask_of x) h ++ l) (replies_on xs ys (after_all h (command_of (ask_of x))))
    ∙ ap (λ g. line_reply (ask_of x) h ++ (replies (after_all h (command_of (ask_of x))) xs ++ replies g ys)) (sym (after_more (command_of (ask_of x)) h (commands_of_lines xs)))
    ∙ sym (append_assoc (line_reply (ask_of x) h) (replies (after_all h (command_of (ask_of x))) xs) (replies (history_after h (x ∷ xs)) ys))

pub replies_one : (line : List ℕ) (h : History) → replies h (line ∷ []) ≡ line_reply (ask_of line) h
replies_one line h = append-nil (line_reply (ask_of line) h)

pub fits_more : (xs : List (List ℕ)) (line : List ℕ) → NoneTooLong xs → (ask_of line ≡ asks.TooLong → ⊥) → NoneTooLong (xs ++ line ∷ [])
fits_more [] line f g = (g, tt)
fits_more (x ∷ xs) line f g = (f.0, fits_more xs line f.1 g)

pub calls_more : (xs : List (List ℕ)) (line : List ℕ) → NoneCalls xs → is_call (ask_of line) ≡ false → NoneCalls (xs ++ line ∷ [])
calls_more [] line f g = (g, tt)
calls_more (x ∷ xs) line f g = (f.0, calls_more xs line f.1 g)

none_more : (n : ℕ) → n + 0 ≡ 0 + n
none_more n = omega arith

in_turn : (k m n : ℕ) → k + (m + n) ≡ (k + m) + n
in_turn k m n = omega arith

pub counts_then : (xs : List (List ℕ)) (line : List ℕ) → calls_for_lines (xs ++ line ∷ []) ≡ calls_for_lines xs + calls_for (ask_of line)
counts_then [] line = none_more (calls_for (ask_of line))
counts_then (x ∷ xs) line = ap (λ n. calls_for (ask_of x) + n) (counts_then xs line) ∙ in_turn (calls_for (ask_of x)) (calls_for_lines xs) (calls_for (ask_of line))

pub one_call : (ask : Ask) → is_call ask ≡ true → 1 ≤ calls_for ask
one_call ask is = subst (λ b. 1 ≤ cond b 1 0) (sym is) (omega arith)

none_first : (xs ys : List Asked) → xs ++ ys ≡ [] → xs ≡ []
none_first [] ys is = refl
none_first (x ∷ xs) ys is = absurd cc

none_after : (xs ys : List Asked) → xs ++ ys ≡ [] → ys ≡ []
none_after [] ys is = is
none_after (x ∷ xs) ys is = absurd cc

-- what holds of all lines holds of all but the last
pub all_but_last : {A : Type 0} (P : A → Type 0) (lines : List A) → AllByRecursion P lines → AllButLast P lines
all_but_last P [] all = tt
all_but_last P (x ∷ []) all = tt
all_but_last P (x ∷ y ∷ lines) all = (all.0, all_but_last P (y ∷ lines) all.1)

-- and so it does behind them
pub but_one : {A : Type 0} (P : A → Type 0) (lines : List A) (line : A) → AllByRecursion P lines → AllButLast P (lines ++ line ∷ [])
but_one P [] line all = tt
but_one P (x ∷ []) line all = (all.0, tt)
but_one P (x ∷ y ∷ lines) line all = (all.0, but_one P (y ∷ lines) line all.1)

-- lines without a command
pub quiet_lines : (lines : List (List ℕ)) → commands_of_lines lines ≡ [] → AllButLast CommandsNot lines
quiet_lines [] none = tt
quiet_lines (x ∷ []) none = tt
quiet_lines (x ∷ y ∷ lines) none = (none_first (command_of (ask_of x)) (commands_of_lines (y ∷ lines)) none, quiet_lines (y ∷ lines) (none_after (command_of (ask_of x)) (commands_of_lines (y ∷ lines)) none))

-- and one line more
pub quiet_before : (lines : List (List ℕ)) (line : List ℕ) → commands_of_lines lines ≡ [] → AllButLast CommandsNot (lines ++ line ∷ [])
quiet_before [] line none = tt
quiet_before (x ∷ []) line none = (none_first (command_of (ask_of x)) [] none, tt)
quiet_before (x ∷ y ∷ lines) line none = (none_first (command_of (ask_of x)) (commands_of_lines (y ∷ lines)) none, quiet_before (y ∷ lines) line (none_after (command_of (ask_of x)) (commands_of_lines (y ∷ lines)) none))

pub history_waits : (h : History) (before waiting : List (List ℕ)) → commands_of_lines waiting ≡ [] → history_after h (before ++ waiting) ≡ history_after h before
history_waits h before waiting none = history_on h before waiting ∙ ap (after_all (history_after h before)) none

pub reply_more : (h : History) (lines : List (List ℕ)) (line : List ℕ) → replies h (lines ++ line ∷ []) ≡ replies h lines ++ line_reply (ask_of line) (history_after h lines)
reply_more h lines line = replies_on lines (line ∷ []) h ∙ ap (λ (l : List ℕ). replies h lines ++ l) (replies_one line (history_after h lines))
