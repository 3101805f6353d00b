-- Where a line begins and ends in a text.
use Rattle.std.proofs.Common.{◌≡◌, ℕ, true, false, cond, eqb, List, [], ◌∷◌, ◌++◌, refl, sym, ap, ◌∙◌, append_assoc, map}
use Rattle.std.proofs.lemmas.List.{append-nil}
use Rattle.pid_reader.specs.Lines.{drop_cr, pieces_of, onto_first, lines_of}
use Rattle.pid_reader.specs.WholeLines.{ended_pieces, open_part, whole_lines, onto_ended}
use Rattle.pid_file.proofs.Cuts.{lines_split, last_line, lines_more, open_longer, open_no_lf, open_then, piece_first, whole_same}

-- of bytes without LF, one more at the front
no_lf_cases : (b : ℕ) (bs : List ℕ) → ended_pieces (b ∷ bs) ≡ [] → (eqb b 10 ≡ false) × (ended_pieces bs ≡ [])
no_lf_cases b bs h =
    elim (eqb b 10) as (λ t. cond t ([] ∷ ended_pieces bs) (onto_ended b (ended_pieces bs)) ≡ [] → (t ≡ false) × (ended_pieces bs ≡ [])) [
      | true ↦ λ e. cc
      | false ↦ λ e. (refl, onto_none b (ended_pieces bs) e)
    ] h
  where
    onto_none : (b : ℕ) (ls : List (List ℕ)) → onto_ended b ls ≡ [] → ls ≡ []
    onto_none b [] h = refl
    onto_none b (l ∷ ls) h = cc

-- a first piece, and what stands behind it
record Begins (front all : List ℕ) : Type 0 where
  pub tail : List ℕ
  pub behind : List (List ℕ)
  pub is : pieces_of all ≡ (front ++ tail) ∷ behind

onto : (b : ℕ) (ls : List (List ℕ)) → (tail : List ℕ) × (behind : List (List ℕ)) × (onto_first b ls ≡ (b ∷ tail) ∷ behind)
onto b [] = ([], [], refl)
onto b (l ∷ ls) = (l, ls, refl)

-- bytes without LF begin the first piece of what follows
begins : (b : ℕ) (front more : List ℕ) → ended_pieces (b ∷ front) ≡ [] → Begins (b ∷ front) ((b ∷ front) ++ more)
begins b [] more h = let p = no_lf_cases b [] h in let o = onto b (pieces_of more) in record { tail = o.0; behind = o.1; is = ap (λ t. cond t ([] ∷ pieces_of more) (onto_first b (pieces_of more))) p.0 ∙ o.2 }
begins b (c ∷ cs) more h =
    let p = no_lf_cases b (c ∷ cs) h in
    let r = begins c cs more p.1 in
    record { tail = r.tail; behind = r.behind; is = ap (λ t. cond t ([] ∷ pieces_of ((c ∷ cs) ++ more)) (onto_first b (pieces_of ((c ∷ cs) ++ more)))) p.0 ∙ ap (onto_first b) r.is }

begins_some : (front more : List ℕ) → ended_pieces front ≡ [] → (front ≡ [] → ⊥) → Begins front (front ++ more)
begins_some [] more h some = absurd (some refl)
begins_some (b ∷ bs) more h some = begins b bs more h

-- a line with its LF behind a text
pub line_at : (text front behind : List ℕ) → ended_pieces front ≡ [] → lines_of (text ++ (front ++ 10 ∷ behind)) ≡ whole_lines text ++ drop_cr (open_part text ++ front) ∷ lines_of behind
line_at text front behind h =
    lines_more text (front ++ 10 ∷ behind)
    ∙ ap (λ ls. whole_lines text ++ map drop_cr ls) (ap pieces_of (sym (append_assoc (open_part text) front (10 ∷ behind))) ∙ piece_first (open_part text ++ front) behind (open_then text front h))

some_more : (a b : List ℕ) → (b ≡ [] → ⊥) → a ++ b ≡ [] → ⊥
some_more [] b h e = h e
some_more (x ∷ xs) b h e = absurd cc

-- the line that has begun behind a text
pub record Begun (text rest more : List ℕ) : Type 0 where
  pub tail : List ℕ
  pub behind : List (List ℕ)
  pub is : lines_of (text ++ (rest ++ more)) ≡ whole_lines text ++ drop_cr ((open_part text ++ rest) ++ tail) ∷ behind

pub begun : (text rest more : List ℕ) → ended_pieces rest ≡ [] → (rest ≡ [] → ⊥) → Begun text rest more
begun text rest more h some =
    let b = begins_some (open_part text ++ rest) more (open_then text rest h) (some_more (open_part text) rest some) in
    record {
      tail = b.tail;
      behind = map drop_cr b.behind;
      is = lines_more text (rest ++ more) ∙ ap (λ (l : List ℕ). whole_lines text ++ map drop_cr (pieces_of l)) (sym (append_assoc (open_part text) rest more)) ∙ ap (λ ls. whole_lines text ++ map drop_cr ls) b.is;
    }

no_lf_kept : (text kept : List ℕ) → kept ≡ open_part text → ended_pieces kept ≡ []
no_lf_kept text kept e = ap ended_pieces e ∙ open_no_lf text

-- the end of the text, where no line is open
pub all_lines : (text kept : List ℕ) → kept ≡ open_part text → kept ≡ [] → lines_of text ≡ whole_lines text
all_lines text kept is none = lines_split text ∙ ap (λ (l : List ℕ). whole_lines text ++ lines_of l) (sym is ∙ none) ∙ append-nil (whole_lines text)

-- and where one is
pub and_last : (text kept : List ℕ) → kept ≡ open_part text → (kept ≡ [] → ⊥) → lines_of text ≡ whole_lines text ++ drop_cr kept ∷ []
and_last text kept is some = lines_split text ∙ ap (λ (l : List ℕ). whole_lines text ++ lines_of l) (sym is) ∙ ap (λ ls. whole_lines text ++ ls) (last_line kept (no_lf_kept text kept is) some)

-- a text that ends within a line
pub within : (text rest : List ℕ) → ended_pieces rest ≡ [] → (rest ≡ [] → ⊥) → lines_of (text ++ rest) ≡ whole_lines text ++ drop_cr (open_part text ++ rest) ∷ []
within text rest h some =
    and_last (text ++ rest) (open_part text ++ rest) (sym (open_longer text rest h)) (some_more (open_part text) rest some)
    ∙ ap (λ (ls : List (List ℕ)). ls ++ drop_cr (open_part text ++ rest) ∷ []) (whole_same text rest h)
