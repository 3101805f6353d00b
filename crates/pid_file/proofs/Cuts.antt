-- Ended pieces, and what stands open after them, of a text and more.
use Rattle.memchr.specs.Find.{Nowhere, Passes, is_byte}
use Rattle.std.proofs.Common.{◌≡◌, ◌≢◌, ℕ, ◌+◌, ◌-◌, zero, suc, ◌<◌, ◌≤◌, true, false, cond, eqb, List, [], ◌∷◌, ◌++◌, length, map, get_or, take, drop, refl, sym, ap, ◌∙◌, arith, append_assoc, length-drop}
use Rattle.std.proofs.lemmas.List.{append-nil, take_all}
use Rattle.std.proofs.lemmas.Bool.Decides.{nat_tests}
use Rattle.pid_file.specs.Lines.{pieces_of, onto_first, lines_of, drop_cr}
use Rattle.pid_file.specs.WholeLines.{ended_pieces, open_part, onto_ended, onto_open, whole_lines}

-- no LF before i
abbrev pub NoLfBefore : List ℕ → ℕ → Type 0
NoLfBefore text i = (k : ℕ) → k < i → get_or text k 0 ≡ 10 → ⊥

test_false : (b : ℕ) → (b ≡ 10 → ⊥) → eqb b 10 ≡ false
test_false b h = let other : b ≢ 10 = h in grind (arith, nat_tests)

pub no_lf : (text : List ℕ) (i : ℕ) → i ≤ length text → NoLfBefore text i → ended_pieces (take i text) ≡ []
no_lf [] zero h before = refl
no_lf [] (suc i) h before = absurd (omega arith)
no_lf (b ∷ t) zero h before = refl
no_lf (b ∷ t) (suc i) h before = rw (test_false b (before zero (omega arith)), no_lf t i (omega arith) (λ k lt. before (suc k) (omega arith))) refl

onto_none : (b : ℕ) (ls : List (List ℕ)) → onto_ended b ls ≡ [] → ls ≡ []
onto_none b [] h = refl
onto_none b (l ∷ ls) h = cc

-- of bytes without LF, one more at the front
no_lf_cases : (b : ℕ) (bs : List ℕ) → ended_pieces (b ∷ bs) ≡ [] → (eqb b 10 ≡ false) × (ended_pieces bs ≡ [])
no_lf_cases b bs h =
    elim (eqb b 10) as (λ t. cond t ([] ∷ ended_pieces bs) (onto_ended b (ended_pieces bs)) ≡ [] → (t ≡ false) × (ended_pieces bs ≡ [])) [
      | true ↦ λ e. cc
      | false ↦ λ e. (refl, onto_none b (ended_pieces bs) e)
    ] h

pub ended_line : (line more : List ℕ) → ended_pieces line ≡ [] → ended_pieces (line ++ 10 ∷ more) ≡ line ∷ ended_pieces more
ended_line [] more h = refl
ended_line (b ∷ bs) more h = let p = no_lf_cases b bs h in rw (p.0, ended_line bs more p.1) refl

pub open_line : (line more : List ℕ) → ended_pieces line ≡ [] → open_part (line ++ 10 ∷ more) ≡ open_part more
open_line [] more h = refl
open_line (b ∷ bs) more h = let p = no_lf_cases b bs h in rw (p.0, ended_line bs more p.1, open_line bs more p.1) refl

pub open_same : (line : List ℕ) → ended_pieces line ≡ [] → open_part line ≡ line
open_same [] h = refl
open_same (b ∷ bs) h = let p = no_lf_cases b bs h in rw (p.0, p.1, open_same bs p.1) refl

pub piece_line : (b : ℕ) (bs : List ℕ) → ended_pieces (b ∷ bs) ≡ [] → pieces_of (b ∷ bs) ≡ (b ∷ bs) ∷ []
piece_line b [] h = let p = no_lf_cases b [] h in rw p.0 refl
piece_line b (c ∷ bs) h = let p = no_lf_cases b (c ∷ bs) h in rw p.0 (ap (onto_first b) (piece_line c bs p.1))

-- what is open has no LF
pub open_no_lf : (text : List ℕ) → ended_pieces (open_part text) ≡ []
open_no_lf [] = refl
open_no_lf (b ∷ bs) =
    elim (eqb b 10) as (λ t. eqb b 10 ≡ t → ended_pieces (cond t (open_part bs) (onto_open b (ended_pieces bs) (open_part bs))) ≡ []) [
      | true ↦ λ e. open_no_lf bs
      | false ↦ λ e. elim (ended_pieces bs) as (λ ls. ended_pieces (onto_open b ls (open_part bs)) ≡ []) [
        | [] ↦ rw (e, open_no_lf bs) refl
        | l ∷ ls ↦ open_no_lf bs
      ]
    ] refl

-- the ended pieces of a text and more
pub ended_more : (text more : List ℕ) → ended_pieces (text ++ more) ≡ ended_pieces text ++ ended_pieces (open_part text ++ more)
ended_more [] more = refl
ended_more (b ∷ bs) more =
    elim (eqb b 10) as (λ t. eqb b 10 ≡ t → cond t ([] ∷ ended_pieces (bs ++ more)) (onto_ended b (ended_pieces (bs ++ more))) ≡ cond t ([] ∷ ended_pieces bs) (onto_ended b (ended_pieces bs)) ++ ended_pieces (cond t (open_part bs) (onto_open b (ended_pieces bs) (open_part bs)) ++ more)) [
      | true ↦ λ e. ap (λ ls. [] ∷ ls) (ended_more bs more)
      | false ↦ λ e. ap (onto_ended b) (ended_more bs more) ∙ elim (ended_pieces bs) as (λ ls. onto_ended b (ls ++ ended_pieces (open_part bs ++ more)) ≡ onto_ended b ls ++ ended_pieces (onto_open b ls (open_part bs) ++ more)) [
        | [] ↦ rw e refl
        | l ∷ ls ↦ refl
      ]
    ] refl

pub open_more : (text more : List ℕ) → open_part (text ++ more) ≡ open_part (open_part text ++ more)
open_more [] more = refl
open_more (b ∷ bs) more =
    elim (eqb b 10) as (λ t. eqb b 10 ≡ t → cond t (open_part (bs ++ more)) (onto_open b (ended_pieces (bs ++ more)) (open_part (bs ++ more))) ≡ open_part (cond t (open_part bs) (onto_open b (ended_pieces bs) (open_part bs)) ++ more)) [
      | true ↦ λ e. open_more bs more
      | false ↦ λ e. (λ i. onto_open b (ended_more bs more i) (open_more bs more i)) ∙ elim (ended_pieces bs) as (λ ls. onto_open b (ls ++ ended_pieces (open_part bs ++ more)) (open_part (open_part bs ++ more)) ≡ open_part (onto_open b ls (open_part bs) ++ more)) [
        | [] ↦ rw e refl
        | l ∷ ls ↦ refl
      ]
    ] refl

pub pieces_more : (text more : List ℕ) → pieces_of (text ++ more) ≡ ended_pieces text ++ pieces_of (open_part text ++ more)
pieces_more [] more = refl
pieces_more (b ∷ bs) more =
    elim (eqb b 10) as (λ t. eqb b 10 ≡ t → cond t ([] ∷ pieces_of (bs ++ more)) (onto_first b (pieces_of (bs ++ more))) ≡ cond t ([] ∷ ended_pieces bs) (onto_ended b (ended_pieces bs)) ++ pieces_of (cond t (open_part bs) (onto_open b (ended_pieces bs) (open_part bs)) ++ more)) [
      | true ↦ λ e. ap (λ ls. [] ∷ ls) (pieces_more bs more)
      | false ↦ λ e. ap (onto_first b) (pieces_more bs more) ∙ elim (ended_pieces bs) as (λ ls. onto_first b (ls ++ pieces_of (open_part bs ++ more)) ≡ onto_ended b ls ++ pieces_of (onto_open b ls (open_part bs) ++ more)) [
        | [] ↦ rw e refl
        | l ∷ ls ↦ refl
      ]
    ] refl

pub map_append : {A B : Type 0} (f : A → B) (xs ys : List A) → map f (xs ++ ys) ≡ map f xs ++ map f ys
map_append f [] ys = refl
map_append f (x ∷ xs) ys = ap (λ l. f x ∷ l) (map_append f xs ys)

-- bytes without LF, one after another
pub still : (a b : List ℕ) → ended_pieces a ≡ [] → ended_pieces b ≡ [] → ended_pieces (a ++ b) ≡ []
still [] b h k = k
still (x ∷ xs) b h k = let p = no_lf_cases x xs h in rw (p.0, still xs b p.1 k) refl

pub open_then : (text line : List ℕ) → ended_pieces line ≡ [] → ended_pieces (open_part text ++ line) ≡ []
open_then text line h = still (open_part text) line (open_no_lf text) h

-- a line, its LF and more after a text
pub whole_line : (text line more : List ℕ) → ended_pieces line ≡ [] → whole_lines (text ++ (line ++ 10 ∷ more)) ≡ whole_lines text ++ drop_cr (open_part text ++ line) ∷ whole_lines more
whole_line text line more h =
    ap (map drop_cr) (ended_more text (line ++ 10 ∷ more)) ∙ map_append drop_cr (ended_pieces text) (ended_pieces (open_part text ++ (line ++ 10 ∷ more)))
    ∙ ap (λ ls. whole_lines text ++ map drop_cr ls) (ap ended_pieces (sym (append_assoc (open_part text) line (10 ∷ more))) ∙ ended_line (open_part text ++ line) more (open_then text line h))

pub open_after : (text line : List ℕ) → ended_pieces line ≡ [] → open_part (text ++ (line ++ 10 ∷ [])) ≡ []
open_after text line h = open_more text (line ++ 10 ∷ []) ∙ ap open_part (sym (append_assoc (open_part text) line (10 ∷ []))) ∙ open_line (open_part text ++ line) [] (open_then text line h)

-- bytes without LF after a text
pub whole_same : (text line : List ℕ) → ended_pieces line ≡ [] → whole_lines (text ++ line) ≡ whole_lines text
whole_same text line h = ap (map drop_cr) (ended_more text line ∙ ap (λ ls. ended_pieces text ++ ls) (open_then text line h) ∙ append-nil (ended_pieces text))

pub open_longer : (text line : List ℕ) → ended_pieces line ≡ [] → open_part (text ++ line) ≡ open_part text ++ line
open_longer text line h = open_more text line ∙ open_same (open_part text ++ line) (open_then text line h)

-- all lines: those that ended, and the open one
pub lines_split : (text : List ℕ) → lines_of text ≡ whole_lines text ++ lines_of (open_part text)
lines_split text =
    ap lines_of (sym (append-nil text)) ∙ ap (map drop_cr) (pieces_more text []) ∙ map_append drop_cr (ended_pieces text) (pieces_of (open_part text ++ []))
    ∙ ap (λ (t : List ℕ). whole_lines text ++ lines_of t) (append-nil (open_part text))

pub last_line : (line : List ℕ) → ended_pieces line ≡ [] → (line ≡ [] → ⊥) → lines_of line ≡ drop_cr line ∷ []
last_line [] h some = absurd (some refl)
last_line (b ∷ bs) h some = ap (map drop_cr) (piece_line b bs h)

parts_at : (text : List ℕ) (i : ℕ) → i < length text → get_or text i 0 ≡ 10 → text ≡ take i text ++ 10 ∷ drop (suc i) text
parts_at [] i h e = absurd (omega arith)
parts_at (b ∷ t) zero h e = let b_is : b ≡ 10 = e in rw b_is refl
parts_at (b ∷ t) (suc i) h e = ap (λ (l : List ℕ). b ∷ l) (parts_at t i (omega arith) e)

-- a slice to the end, as the code writes it
pub parts_after : (text : List ℕ) (i : ℕ) → i < length text → get_or text i 0 ≡ 10 → text ≡ take i text ++ 10 ∷ take (length text - (i + 1)) (drop (i + 1) text)
parts_after text i h e =
    let next : i + 1 ≡ suc i = omega arith in
    parts_at text i h e ∙ ap (λ (l : List ℕ). take i text ++ 10 ∷ l) (sym (take_all (length text - (i + 1)) (drop (i + 1) text) (omega (arith, length-drop (i + 1) text)) ∙ ap (λ n. drop n text) next))

-- where no byte is an LF up to i
pub nowhere_lf : (text : List ℕ) (i : ℕ) → Nowhere (Passes (is_byte 10) text) 0 i → NoLfBefore text i
nowhere_lf text i none k lt is = none k (omega arith) lt (rw is refl)

pub take_whole : (text : List ℕ) (i : ℕ) → length text ≤ i → take i text ≡ text
take_whole [] zero h = refl
take_whole [] (suc i) h = refl
take_whole (b ∷ t) zero h = absurd (omega arith)
take_whole (b ∷ t) (suc i) h = ap (λ (l : List ℕ). b ∷ l) (take_whole t i (omega arith))

pub lines_more : (text more : List ℕ) → lines_of (text ++ more) ≡ whole_lines text ++ lines_of (open_part text ++ more)
lines_more text more = ap (map drop_cr) (pieces_more text more) ∙ map_append drop_cr (ended_pieces text) (pieces_of (open_part text ++ more))

-- the first of the pieces between LF bytes
pub piece_first : (line more : List ℕ) → ended_pieces line ≡ [] → pieces_of (line ++ 10 ∷ more) ≡ line ∷ pieces_of more
piece_first [] more h = refl
piece_first (b ∷ bs) more h = let p = no_lf_cases b bs h in rw (p.0, piece_first bs more p.1) refl

pub piece_alone : (line : List ℕ) → ended_pieces line ≡ [] → (line ≡ [] → ⊥) → pieces_of line ≡ line ∷ []
piece_alone [] h some = absurd (some refl)
piece_alone (b ∷ bs) h some = piece_line b bs h
