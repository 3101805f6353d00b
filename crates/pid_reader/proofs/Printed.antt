-- The lines of a printed text.
use Rattle.std.proofs.Common.{◌≡◌, ℕ, true, false, cond, not, ◌&&◌, ◌||◌, eqb, leb, List, [], ◌∷◌, ◌++◌, map, refl, sym, ap, subst, ◌∙◌, arith}
use Rattle.std.specs.List.{AllByRecursion, list_all}
use Rattle.std.proofs.lemmas.Bool.Decides.{nat_tests}
use Rattle.pid_file.specs.declared.path.Path.{Path}
use Rattle.pid_file.specs.declared.path.Path.TheVariants.{Vendor, Device, Subsystem, Class, Subclass, ProgIf, Generic}
use Rattle.pid_file.specs.PathTexts.{IsTextOf, path_text}
use Rattle.pid_file.specs.Words.{is_name}
use Rattle.pid_file.specs.Bytes.{is_printed}
use Rattle.pid_file.specs.Identifiers.{hex4, hex2}
use Rattle.pid_file.specs.Lines.{pieces_of, drop_cr, lines_of}
use Rattle.pid_file.specs.Printing.{header, item_line, block_line, opens_block, lines_after, ended}
use Rattle.pid_reader.proofs.Cells.{hex4_is, hex2_is}
use Rattle.pid_reader.proofs.Written.{both_true, not_true}
use Rattle.pid_reader.proofs.Listing.{Items}

-- no LF and no CR
abbrev pub IsPlain : List ℕ → Type 0
IsPlain [] = Unit {0}
IsPlain (b ∷ bs) = (eqb b 10 ≡ false) × (eqb b 13 ≡ false) × IsPlain bs

pieces-line : (line rest : List ℕ) → IsPlain line → pieces_of (line ++ 10 ∷ rest) ≡ line ∷ pieces_of rest
pieces-line [] rest p = refl
pieces-line (b ∷ bs) rest p = rw (p.0, pieces-line bs rest p.2) refl

drop_cr-plain : (line : List ℕ) → IsPlain line → drop_cr line ≡ line
drop_cr-plain [] p = refl
drop_cr-plain (b ∷ []) p = rw p.1 refl
drop_cr-plain (b ∷ c ∷ bs) p = ap (λ l. b ∷ l) (drop_cr-plain (c ∷ bs) p.2)

-- lines without line ends are the lines of their text
pub lines_of-ended : (lines : List (List ℕ)) → AllByRecursion IsPlain lines → lines_of (ended lines) ≡ lines
lines_of-ended [] p = refl
lines_of-ended (line ∷ lines) p = ap (map drop_cr) (pieces-line line (ended lines) p.0) ∙ rw (drop_cr-plain line p.0, lines_of-ended lines p.1) refl

name_plain : (n : List ℕ) → list_all is_printed n ≡ true → IsPlain n
name_plain [] h = tt
name_plain (b ∷ bs) h =
    let parts = both_true (is_printed b) (list_all is_printed bs) h in
    let low : (leb 32 b || eqb b 9) ≡ true = (both_true (leb 32 b || eqb b 9) (not (eqb b 127)) parts.0).0 in
    (grind (arith, nat_tests), grind (arith, nat_tests), name_plain bs parts.1)

plain4 : (v : ℕ) (rest : List ℕ) → IsPlain rest → IsPlain (hex4 v ++ rest)
plain4 v rest p = let x = hex4_is v in (x.a_is.no_lf, x.a_is.no_cr, (x.b_is.no_lf, x.b_is.no_cr, (x.c_is.no_lf, x.c_is.no_cr, (x.d_is.no_lf, x.d_is.no_cr, p))))

plain2 : (v : ℕ) (rest : List ℕ) → IsPlain rest → IsPlain (hex2 v ++ rest)
plain2 v rest p = let x = hex2_is v in (x.a_is.no_lf, x.a_is.no_cr, (x.b_is.no_lf, x.b_is.no_cr, p))

plain-cons : (b : ℕ) (bs : List ℕ) → (not (eqb b 10) && not (eqb b 13)) ≡ true → IsPlain bs → IsPlain (b ∷ bs)
plain-cons b bs h p = let ends = both_true _ _ h in (not_true _ ends.0, not_true _ ends.1, p)

item_plain : (p : Path) (n : List ℕ) → IsPlain n → IsPlain (item_line (path_text p, n))
item_plain p n h = let behind : IsPlain (32 ∷ 32 ∷ n) = (refl, refl, (refl, refl, h)) in
    elim p as (λ p. IsPlain (item_line (path_text p, n))) [
      | Vendor v ↦ plain4 v (32 ∷ 32 ∷ n) behind
      | Device v d ↦ (refl, refl, plain4 d (32 ∷ 32 ∷ n) behind)
      | Subsystem v d s e ↦ let second : IsPlain (32 ∷ hex4 e ++ 32 ∷ 32 ∷ n) = (refl, refl, plain4 e (32 ∷ 32 ∷ n) behind) in (refl, refl, (refl, refl, plain4 s (32 ∷ hex4 e ++ 32 ∷ 32 ∷ n) second))
      | Class c ↦ (refl, refl, (refl, refl, plain2 c (32 ∷ 32 ∷ n) behind))
      | Subclass c s ↦ (refl, refl, plain2 s (32 ∷ 32 ∷ n) behind)
      | ProgIf c s i ↦ (refl, refl, (refl, refl, plain2 i (32 ∷ 32 ∷ n) behind))
      | Generic v d ↦ (refl, refl, plain4 d (32 ∷ 32 ∷ n) behind)
    ]

-- the lines of one more item
item_lines_plain : (p : Path) (before n : List ℕ) (rest : List (List ℕ)) → IsPlain n → AllByRecursion IsPlain rest → AllByRecursion IsPlain (cond (opens_block before (path_text p)) (block_line (path_text p) ∷ []) [] ++ item_line (path_text p, n) ∷ rest)
item_lines_plain p before n rest h q =
    let own : AllByRecursion IsPlain (item_line (path_text p, n) ∷ rest) = (item_plain p n h, q) in
    elim p as (λ p. AllByRecursion IsPlain (item_line (path_text p, n) ∷ rest) → AllByRecursion IsPlain (cond (opens_block before (path_text p)) (block_line (path_text p) ∷ []) [] ++ item_line (path_text p, n) ∷ rest)) [
      | Vendor v ↦ λ own. own
      | Device v d ↦ λ own. own
      | Subsystem v d s e ↦ λ own. own
      | Class c ↦ λ own. own
      | Subclass c s ↦ λ own. own
      | ProgIf c s i ↦ λ own. own
      | Generic v d ↦ λ own. elim (opens_block before (path_text (Generic v d))) as (λ b. AllByRecursion IsPlain (cond b (block_line (path_text (Generic v d)) ∷ []) [] ++ item_line (path_text (Generic v d), n) ∷ rest)) [
        | true ↦ ((refl, refl, (refl, refl, plain4 v [] tt)), own)
        | false ↦ own
      ]
    ] own

-- an item of a tree
abbrev pub IsItem : List ℕ × List ℕ → Type 0
IsItem e = (p : Path) × IsTextOf e.0 p × (is_name e.1 ≡ true)

pub lines_plain : (es : Items) (before : List ℕ) → AllByRecursion IsItem es → AllByRecursion IsPlain (lines_after before es)
lines_plain [] before h = tt
lines_plain (e ∷ es) before h =
    let rest = lines_plain es e.0 h.1 in
    subst (λ (k : List ℕ). AllByRecursion IsPlain (cond (opens_block before k) (block_line k ∷ []) [] ++ item_line (k, e.1) ∷ lines_after e.0 es)) (sym h.0.1.same) (item_lines_plain h.0.0 before e.1 _ (name_plain e.1 (both_true _ _ h.0.2).1) rest)

plain-from_test : (l : List ℕ) → list_all (λ b. not (eqb b 10) && not (eqb b 13)) l ≡ true → IsPlain l
plain-from_test [] h = tt
plain-from_test (b ∷ bs) h =
    let parts = both_true (not (eqb b 10) && not (eqb b 13)) (list_all (λ b. not (eqb b 10) && not (eqb b 13)) bs) h in
    plain-cons b bs parts.0 (plain-from_test bs parts.1)

pub header_plain : IsPlain header
header_plain = plain-from_test header refl
