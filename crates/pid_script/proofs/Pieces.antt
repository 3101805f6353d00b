-- The lines of a piece of the text, and the open line behind them.
use Rattle.std.proofs.Common.{◌≡◌, ◌<◌, ◌≤◌, ℕ, ◌+◌, true, false, Vec, List, [], ◌∷◌, ◌++◌, length, Option, Result, Ok, Err, refl, sym, ap, ◌∙◌, subst, append_assoc, arith}
use Rattle.std.proofs.lemmas.Bool.Decides.{nat_tests}
use Rattle.std.proofs.lemmas.List.{append-nil, nil_from_length}
use Rattle.std.specs.Io.KnownBytes.{Appends}
use Rattle.std.specs.Prelude.{◌==◌, vec_len, OnOk, IfErr}
use Rattle.pid_ident.specs.Sending.{SendsFront}
use Rattle.pid_reader.specs.Lines.{drop_cr, lines_of}
use Rattle.pid_moderation.specs.History.{History}
use Rattle.pid_reader.specs.WholeLines.{ended_pieces, open_part, whole_lines}
use Rattle.pid_file.proofs.Cuts.{whole_line, open_after, whole_same, open_longer, lines_more}
use Rattle.pid_script.specs.declared.line_end.LineEnd.{LineEnd}
use Rattle.pid_script.specs.declared.line_end.LineEnd.TheVariants.{WriteFault}
use Rattle.pid_service_laws.specs.declared.registry_calls.RegistryCalls.{Ghosts}
use Rattle.pid_file.specs.declared.io.Output as outputs
use Rattle.pid_script.specs.Steps.Output.{Out, GoesOut, out, Unfit, AnswersLine}
use Rattle.pid_script.specs.ScriptLines.{LONGEST, ask_of}
use Rattle.pid_script.specs.RegistryStates.{ShowsOrHasFailed}
use Rattle.pid_script.specs.Steps.Progress.{Answered, HasAnswered, Ended, EndsText}
use Rattle.pid_script.specs.Replies.{history_after}
use Rattle.pid_script.specs.Calling.{CallsGo}
use Rattle.pid_script.proofs.Calling.{go_still, go_then}
use Rattle.pid_script.proofs.OtherLines.{unfit_ends}
use Rattle.pid_script.proofs.Answered.{stands_then, answered_out, flushed, broken, more_answered, ends_at}
use Rattle.pid_script.proofs.LineFronts.{line_at, begun, within, all_lines, and_last}

-- part of the piece was answered
pub record IsHalfway {R : Type 0} (m : Ghosts R) (piece rest : List ℕ) (old now : R) (was left : Out) (kept kept_now : List ℕ) : Type 0 where
  pub gone : List ℕ
  pub parts : piece ≡ gone ++ rest
  pub was_honest : m.showing.is_clean now → m.showing.is_clean old
  pub calls : CallsGo m.showing old now
  pub answered : m.showing.is_clean now → (h : History) (start : Option (List ℕ)) (first : R) (text : List ℕ) → ShowsOrHasFailed m first h → HasAnswered m h start first old was kept text
      → HasAnswered m h start first now left kept_now (text ++ gone)

pub half_start : {R : Type 0} (m : Ghosts R) (piece : List ℕ) (old : R) (was : Out) (kept : List ℕ) → IsHalfway m piece piece old old was was kept kept
half_start m piece old was kept = record {
  gone = [];
  parts = refl;
  was_honest = λ x. x;
  calls = go_still m.showing old;
  answered = λ _ h start first text stands a. subst (HasAnswered m h start first old was kept) (sym (append-nil text)) a;
}

-- an open line, or what is left of a piece, by whether it is empty
pub nothing_left : (xs : List ℕ) → true ≡ (length xs == 0) → xs ≡ []
nothing_left xs e = nil_from_length xs (grind (arith, nat_tests, e))

pub something_left : (xs : List ℕ) → false ≡ (length xs == 0) → xs ≡ [] → ⊥
something_left xs e is =
    let none : length xs ≡ 0 = ap length is in
    let some : 0 < length xs = grind (arith, nat_tests, e) in
    omega arith

pub nothing_kept : {A : Type 0} (v : Vec ℕ A) → true ≡ (vec_len v == 0) → v.items ≡ []
nothing_kept v e = nil_from_length v.items (grind (arith, nat_tests, e))

pub no_open_line : {A X : Type 0} (v : Vec ℕ A) → true ≡ (vec_len v == 0) → 0 < length v.items → X
no_open_line v e some =
    let none : length v.items ≡ 0 = ap length (nothing_kept v e) in
    absurd (omega (arith, some))

-- no open line is short enough
pub no_line : (kept : List ℕ) → kept ≡ [] → length (drop_cr kept) ≤ LONGEST
no_line kept none = subst (λ (l : List ℕ). length (drop_cr l) ≤ LONGEST) (sym none) (omega arith)

line_answered : {R : Type 0} (m : Ghosts R) (x : Unit {0}) (h : History) (start : Option (List ℕ)) (first r new : R) (old left : Out) (text front kept kept_next : List ℕ)
    → HasAnswered m h start first r old kept text → ended_pieces front ≡ [] → kept_next ≡ []
    → AnswersLine m (Ok x) (ask_of (drop_cr (kept ++ front))) (history_after h (whole_lines text)) r old new left
    → HasAnswered m h start first new left kept_next (text ++ (front ++ 10 ∷ []))
line_answered m x h start first r new old left text front kept kept_next a no_lf none ends = record {
  open_line = none ∙ sym (open_after text front no_lf);
  short = no_line kept_next none;
  answered = subst (Answered m h start first new left) (sym (whole_line text front [] no_lf ∙ ap (λ (l : List ℕ). whole_lines text ++ drop_cr (l ++ front) ∷ []) (sym a.open_line)))
      (more_answered m x h start first r new old left (whole_lines text) (drop_cr (kept ++ front)) a.answered ends);
}

-- a registry that stood at the start stands behind what was answered
stands_now : {R : Type 0} (m : Ghosts R) (h : History) (start : Option (List ℕ)) (first r : R) (now : Out) (kept text : List ℕ) → ShowsOrHasFailed m first h → HasAnswered m h start first r now kept text → ShowsOrHasFailed m r (history_after h (whole_lines text))
stands_now m h start first r now kept text stands a = stands_then m first r h (history_after h (whole_lines text)) a.answered.leaves stands

pub half_more : {R : Type 0} (m : Ghosts R) (x : Unit {0}) (piece rest front behind : List ℕ) (old now next : R) (was left left_next : Out) (kept kept_now kept_next : List ℕ)
    → IsHalfway m piece rest old now was left kept kept_now → rest ≡ front ++ 10 ∷ behind → ended_pieces front ≡ [] → (m.showing.is_clean next → m.showing.is_clean now) → CallsGo m.showing now next → kept_next ≡ []
    → (m.showing.is_clean next → (h : History) → ShowsOrHasFailed m now h → AnswersLine m (Ok x) (ask_of (drop_cr (kept_now ++ front))) h now left next left_next)
    → IsHalfway m piece behind old next was left_next kept kept_next
half_more m x piece rest front behind old now next was left left_next kept kept_now kept_next half parts no_lf honest calls none ends = record {
  gone = half.gone ++ (front ++ 10 ∷ []);
  parts = half.parts ∙ ap (λ (l : List ℕ). half.gone ++ l) parts ∙ simp append_assoc;
  was_honest = λ t. half.was_honest (honest t);
  calls = go_then m.showing old now next half.calls calls;
  answered = λ t h start first text stands a.
      let b = half.answered (honest t) h start first text stands a in
      subst (HasAnswered m h start first next left_next kept_next) (append_assoc text half.gone (front ++ 10 ∷ []))
      (line_answered m x h start first now next left left_next (text ++ half.gone) front kept_now kept_next b no_lf none
      (ends t (history_after h (whole_lines (text ++ half.gone))) (stands_now m h start first now left kept_now (text ++ half.gone) stands b)));
}

pub half_stop : {R : Type 0} (m : Ghosts R) (e : LineEnd) (piece rest front behind : List ℕ) (old now next : R) (was left left_next : Out) (kept kept_now : List ℕ)
    → IsHalfway m piece rest old now was left kept kept_now → rest ≡ front ++ 10 ∷ behind → ended_pieces front ≡ [] → (m.showing.is_clean next → m.showing.is_clean now)
    → (m.showing.is_clean next → (h : History) → ShowsOrHasFailed m now h → AnswersLine m (Err e) (ask_of (drop_cr (kept_now ++ front))) h now left next left_next)
    → m.showing.is_clean next → (h : History) (start : Option (List ℕ)) (first : R) (text more : List ℕ) → ShowsOrHasFailed m first h → HasAnswered m h start first old was kept text
    → Ended m e h start first next left_next ((text ++ piece) ++ more) more
half_stop m e piece rest front behind old now next was left left_next kept kept_now half parts no_lf honest ends t h start first text more stands a =
    let b = half.answered (honest t) h start first text stands a in
    let read : text ++ piece ≡ (text ++ half.gone) ++ (front ++ 10 ∷ behind) = ap (λ (l : List ℕ). text ++ l) (half.parts ∙ ap (λ (l : List ℕ). half.gone ++ l) parts) ∙ sym (append_assoc text half.gone (front ++ 10 ∷ behind)) in
    let whole : (text ++ piece) ++ more ≡ (text ++ half.gone) ++ (front ++ 10 ∷ (behind ++ more)) = ap (λ (l : List ℕ). l ++ more) read ∙ simp append_assoc refl in
    ends_at m e h start first now next left left_next ((text ++ piece) ++ more) more (text ++ piece) (whole_lines (text ++ half.gone)) (drop_cr (kept_now ++ front)) (lines_of (behind ++ more)) (lines_of behind)
    (ap lines_of whole ∙ line_at (text ++ half.gone) front (behind ++ more) no_lf ∙ ap (λ (l : List ℕ). whole_lines (text ++ half.gone) ++ drop_cr (l ++ front) ∷ lines_of (behind ++ more)) (sym b.open_line))
    refl
    (ap lines_of read ∙ line_at (text ++ half.gone) front behind no_lf ∙ ap (λ (l : List ℕ). whole_lines (text ++ half.gone) ++ drop_cr (l ++ front) ∷ lines_of behind) (sym b.open_line))
    b.answered (ends t (history_after h (whole_lines (text ++ half.gone))) (stands_now m h start first now left kept_now (text ++ half.gone) stands b))

-- what is left of the piece has no LF, and is kept
half_kept : {R : Type 0} (m : Ghosts R) (piece rest : List ℕ) (old now : R) (was left : Out) (kept kept_now kept_next : List ℕ)
    → IsHalfway m piece rest old now was left kept kept_now → ended_pieces rest ≡ [] → kept_next ≡ kept_now ++ rest → (length (drop_cr kept_now) ≤ LONGEST → length (drop_cr kept_next) ≤ LONGEST)
    → m.showing.is_clean now → (h : History) (start : Option (List ℕ)) (first : R) (text : List ℕ) → ShowsOrHasFailed m first h → HasAnswered m h start first old was kept text
    → HasAnswered m h start first now left kept_next (text ++ piece)
half_kept m piece rest old now was left kept kept_now kept_next half no_lf is short t h start first text stands a =
    let b = half.answered t h start first text stands a in
    let whole : text ++ piece ≡ (text ++ half.gone) ++ rest = ap (λ (l : List ℕ). text ++ l) half.parts ∙ sym (append_assoc text half.gone rest) in
    record {
      short = short b.short;
      open_line = is ∙ ap (λ (l : List ℕ). l ++ rest) b.open_line ∙ sym (open_longer (text ++ half.gone) rest no_lf) ∙ ap open_part (sym whole);
      answered = subst (Answered m h start first now left) (sym (ap whole_lines whole ∙ whole_same (text ++ half.gone) rest no_lf)) b.answered;
    }

-- what is left of the piece is not kept
pub half_unfit : {R : Type 0} (m : Ghosts R) (e : LineEnd) (piece rest : List ℕ) (old now : R) (was left left_next : Out) (kept kept_now : List ℕ)
    → IsHalfway m piece rest old now was left kept kept_now → ended_pieces rest ≡ [] → (rest ≡ [] → ⊥) → Unfit e (kept_now ++ rest) left left_next
    → m.showing.is_clean now → (h : History) (start : Option (List ℕ)) (first : R) (text more : List ℕ) → ShowsOrHasFailed m first h → HasAnswered m h start first old was kept text
    → Ended m e h start first now left_next ((text ++ piece) ++ more) more
half_unfit m e piece rest old now was left left_next kept kept_now half no_lf some unfit t h start first text more stands a =
    let b = half.answered t h start first text stands a in
    let read : text ++ piece ≡ (text ++ half.gone) ++ rest = ap (λ (l : List ℕ). text ++ l) half.parts ∙ sym (append_assoc text half.gone rest) in
    let whole : (text ++ piece) ++ more ≡ (text ++ half.gone) ++ (rest ++ more) = ap (λ (l : List ℕ). l ++ more) read ∙ append_assoc (text ++ half.gone) rest more in
    let line = begun (text ++ half.gone) rest more no_lf some in
    unfit_ends m e (kept_now ++ rest) line.tail h start first now left left_next ((text ++ piece) ++ more) more (text ++ piece) (whole_lines (text ++ half.gone)) line.behind [] unfit
    (ap lines_of whole ∙ line.is ∙ ap (λ (l : List ℕ). whole_lines (text ++ half.gone) ++ drop_cr ((l ++ rest) ++ line.tail) ∷ line.behind) (sym b.open_line))
    refl
    (ap lines_of read ∙ within (text ++ half.gone) rest no_lf some ∙ ap (λ (l : List ℕ). whole_lines (text ++ half.gone) ++ drop_cr (l ++ rest) ∷ []) (sym b.open_line))
    b.answered

-- nothing is left of the piece
pub half_whole : {R : Type 0} (m : Ghosts R) (piece rest : List ℕ) (old now : R) (was left : Out) (kept kept_now : List ℕ)
    → IsHalfway m piece rest old now was left kept kept_now → rest ≡ []
    → m.showing.is_clean now → (h : History) (start : Option (List ℕ)) (first : R) (text : List ℕ) → ShowsOrHasFailed m first h → HasAnswered m h start first old was kept text
    → HasAnswered m h start first now left kept_now (text ++ piece)
half_whole m piece rest old now was left kept kept_now half none = half_kept m piece rest old now was left kept kept_now kept_now half (ap ended_pieces none) (sym (ap (λ (l : List ℕ). kept_now ++ l) none ∙ append-nil kept_now)) (λ short. short)

-- with what `keep` says of it
pub half_kept_on : {R O : Type 0} (m : Ghosts R) (writer : outputs.Ghosts O) (piece rest : List ℕ) (old now : R) (was : Out) (out_now out_next : O) (held held_next kept kept_now kept_next : List ℕ)
    → IsHalfway m piece rest old now was (out writer out_now held) kept kept_now → ended_pieces rest ≡ [] → kept_next ≡ kept_now ++ rest → length (drop_cr kept_next) ≤ LONGEST → out_next ≡ out_now → held_next ≡ held
    → m.showing.is_clean now → (h : History) (start : Option (List ℕ)) (first : R) (text : List ℕ) → ShowsOrHasFailed m first h → HasAnswered m h start first old was kept text
    → HasAnswered m h start first now (out writer out_next held_next) kept_next (text ++ piece)
half_kept_on m writer piece rest old now was out_now out_next held held_next kept kept_now kept_next half no_lf is short silent still t h start first text stands a =
    subst (λ o. HasAnswered m h start first now (out writer o held_next) kept_next (text ++ piece)) (sym silent) (subst (λ l. HasAnswered m h start first now (out writer out_now l) kept_next (text ++ piece)) (sym still)
    (half_kept m piece rest old now was (out writer out_now held) kept kept_now kept_next half no_lf is (λ _. short) t h start first text stands a))

-- the lines of a piece were answered, and what is held goes out
piece_flushed : {R : Type 0} (m : Ghosts R) (h : History) (start : Option (List ℕ)) (first r : R) (old left : Out) (kept text : List ℕ) → HasAnswered m h start first r old kept text → Appends old.taken left.taken old.held → left.held ≡ [] → HasAnswered m h start first r left kept text
piece_flushed m h start first r old left kept text a went none = record { open_line = a.open_line; short = a.short; answered = answered_out m h start first r left (whole_lines text) (flushed m h start first r old left.taken (whole_lines text) a.answered went) none }

-- or not
piece_broken : {R : Type 0} (m : Ghosts R) (h : History) (start : Option (List ℕ)) (first r : R) (old left : Out) (kept text more : List ℕ) → HasAnswered m h start first r old kept text → SendsFront old.taken left.taken old.held → Ended m WriteFault h start first r left (text ++ more) more
piece_broken m h start first r old left kept text more a front = broken m h start first r old left.taken (lines_of (text ++ more)) (whole_lines text) (lines_of (open_part text ++ more)) (lines_more text more) a.answered front

pub at_end : {R : Type 0} (m : Ghosts R) (h : History) (start : Option (List ℕ)) (first r : R) (now : Out) (kept text : List ℕ) → HasAnswered m h start first r now kept text → kept ≡ [] → Answered m h start first r now (lines_of text)
at_end m h start first r now kept text a none = subst (Answered m h start first r now) (sym (all_lines text kept a.open_line none)) a.answered

pub at_last : {R : Type 0} (m : Ghosts R) (r : Result (Unit {0}) LineEnd) (h : History) (start : Option (List ℕ)) (first was new : R) (old left : Out) (kept text : List ℕ) → HasAnswered m h start first was old kept text → (kept ≡ [] → ⊥) → ShowsOrHasFailed m first h
    → ((g : History) → ShowsOrHasFailed m was g → AnswersLine m r (ask_of (drop_cr kept)) g was old new left) → OnOk r (Answered m h start first new left (lines_of text))
at_last m (Ok x) h start first was new old left kept text a some stands ends =
    subst (Answered m h start first new left) (sym (and_last text kept a.open_line some))
    (more_answered m x h start first was new old left (whole_lines text) (drop_cr kept) a.answered (ends (history_after h (whole_lines text)) (stands_now m h start first was old kept text stands a)))
at_last m (Err e) h start first was new old left kept text a some stands ends = tt

pub stop_last : {R : Type 0} (m : Ghosts R) (r : Result (Unit {0}) LineEnd) (h : History) (start : Option (List ℕ)) (first was new : R) (old left : Out) (kept text : List ℕ) → HasAnswered m h start first was old kept text → (kept ≡ [] → ⊥) → ShowsOrHasFailed m first h
    → ((g : History) → ShowsOrHasFailed m was g → AnswersLine m r (ask_of (drop_cr kept)) g was old new left) → IfErr r (λ e. Ended m e h start first new left text [])
stop_last m (Ok x) h start first was new old left kept text a some stands ends = tt
stop_last m (Err e) h start first was new old left kept text a some stands ends =
    ends_at m e h start first was new old left text [] text (whole_lines text) (drop_cr kept) [] [] (and_last text kept a.open_line some) (sym (append-nil text)) (and_last text kept a.open_line some) a.answered (ends (history_after h (whole_lines text)) (stands_now m h start first was old kept text stands a))

pub piece_flushed_on : {R : Type 0} (m : Ghosts R) (r : Result (Unit {0}) LineEnd) (h : History) (start : Option (List ℕ)) (first now : R) (old left : Out) (kept text : List ℕ) → HasAnswered m h start first now old kept text → GoesOut r old left old.held → OnOk r (HasAnswered m h start first now left kept text)
piece_flushed_on m (Ok x) h start first now old left kept text a sends = piece_flushed m h start first now old left kept text a sends.0 sends.1
piece_flushed_on m (Err e) h start first now old left kept text a sends = tt

pub piece_broken_on : {R : Type 0} (m : Ghosts R) (r : Result (Unit {0}) LineEnd) (h : History) (start : Option (List ℕ)) (first now : R) (old left : Out) (kept text more : List ℕ) → HasAnswered m h start first now old kept text → GoesOut r old left old.held → IfErr r (λ e. Ended m e h start first now left (text ++ more) more)
piece_broken_on m (Ok x) h start first now old left kept text more a sends = tt
piece_broken_on m (Err e) h start first now old left kept text more a sends = subst (λ x. Ended m x h start first now left (text ++ more) more) (sym sends.0) (piece_broken m h start first now old left kept text more a sends.1)

-- all lines were answered, and what is held goes out, or not
pub end_on : {R : Type 0} (m : Ghosts R) (r : Result (Unit {0}) LineEnd) (h : History) (start : Option (List ℕ)) (first now : R) (old left : Out) (text : List ℕ) → Answered m h start first now old (lines_of text) → GoesOut r old left old.held → EndsText m r h start first now left text
end_on m (Ok x) h start first now old left text a sends = flushed m h start first now old left.taken (lines_of text) a sends.0
end_on m (Err e) h start first now old left text a sends = subst (λ x. Ended m x h start first now left text []) (sym sends.0) (broken m h start first now old left.taken (lines_of text) (lines_of text) [] (sym (append-nil (lines_of text))) a sends.1)
