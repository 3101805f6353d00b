-- What a line asks, by its length and by whether it is UTF-8.
use Rattle.std.proofs.Common.{◌≡◌, ℕ, ◌+◌, ◌<◌, ◌≤◌, ◌^◌, ◌-◌, min, Bool, true, false, cond, eqb, List, [], ◌∷◌, ◌++◌, length, Option, Some, None, refl, sym, ap, ◌∙◌, subst, arith, length-append}
use Rattle.std.proofs.lemmas.List.{append-nil}
use Rattle.std.specs.Prelude.{nat_lt, not, codes}
use Rattle.std.specs.Str.{is_utf8, bytes_eq}
use Rattle.std.proofs.lemmas.Bool.Decides.{nat_tests}
use Rattle.pid_reader.specs.Lines.{drop_cr}
use Rattle.pid_moderation.specs.declared.verb.Verb.{Verb}
use Rattle.pid_moderation.specs.Verbs.{verb_of}
use Rattle.pid_script.specs.ScriptLines.{LONGEST, Ask, AsksNothing, AsksExport, AsksName, AsksLookup, Unclear, TooLong, command_ask, is_idle_line, parted, text_ask, worded, ask_of}

longer : (n : ℕ) → LONGEST < n → nat_lt LONGEST n ≡ true
longer n h = grind (arith, nat_tests)

shorter : (n : ℕ) → n ≤ LONGEST → nat_lt LONGEST n ≡ false
shorter n h = grind (arith, nat_tests)

pub too_long : (line : List ℕ) → LONGEST < length line → TooLong ≡ ask_of line
unfolding ask_of
too_long line h = rw (longer (length line) h) refl

pub no_text : (line : List ℕ) → length line ≤ LONGEST → is_utf8 line ≡ false → Unclear ≡ ask_of line
unfolding ask_of
no_text line h e = rw (shorter (length line) h, e) refl

pub a_text : (line : List ℕ) → length line ≤ LONGEST → is_utf8 line ≡ true → text_ask line ≡ ask_of line
unfolding ask_of
a_text line h e = rw (shorter (length line) h, e) refl

-- what is one of two asks is not too long if neither is
of_two : (b : Bool) (x y : Ask) → (x ≡ TooLong → ⊥) → (y ≡ TooLong → ⊥) → cond b x y ≡ TooLong → ⊥
of_two true x y p q = p
of_two false x y p q = q

command_fits : (verb : Option Verb) (parts : Option (List ℕ × List ℕ)) → command_ask verb parts ≡ TooLong → ⊥
command_fits None parts is = absurd cc
command_fits (Some verb) None is = absurd cc
command_fits (Some verb) (Some parts) is = absurd cc

word_fits : (parts : Option (List ℕ × List ℕ)) → worded parts ≡ TooLong → ⊥
word_fits None = λ is. absurd cc
word_fits (Some p) =
    of_two (bytes_eq p.0 (codes "read")) (AsksName p.1) (cond (bytes_eq p.0 (codes "lookup")) (AsksLookup p.1) (command_ask (verb_of p.0) (parted p.1))) (λ e. absurd cc)
    (of_two (bytes_eq p.0 (codes "lookup")) (AsksLookup p.1) (command_ask (verb_of p.0) (parted p.1)) (λ e. absurd cc) (command_fits (verb_of p.0) (parted p.1)))

text_fits : (line : List ℕ) → text_ask line ≡ TooLong → ⊥
text_fits line =
    of_two (is_idle_line line) AsksNothing (cond (bytes_eq line (codes "export")) AsksExport (worded (parted line))) (λ e. absurd cc)
    (of_two (bytes_eq line (codes "export")) AsksExport (worded (parted line)) (λ e. absurd cc) (word_fits (parted line)))

-- a line that is short enough is not too long
pub short_fits : (line : List ℕ) → length line ≤ LONGEST → ask_of line ≡ TooLong → ⊥
unfolding ask_of
short_fits line h =
    subst (λ b. cond b TooLong (cond (not (is_utf8 line)) Unclear (text_ask line)) ≡ TooLong → ⊥) (sym (shorter (length line) h))
    (of_two (not (is_utf8 line)) Unclear (text_ask line) (λ e. absurd cc) (text_fits line))

-- what the test of a length says
pub is_longer : (n : ℕ) → true ≡ nat_lt LONGEST n → LONGEST < n
is_longer n e = grind (arith, nat_tests, e)

pub is_shorter : (n : ℕ) → false ≡ nat_lt LONGEST n → n ≤ LONGEST
is_shorter n e = grind (arith, nat_tests, e)

-- a sum that may be cut at the greatest number is tested as the whole one
pub cut_sum : (m n : ℕ) → m ≡ min n (2 ^ 64 - 1) → nat_lt LONGEST m ≡ nat_lt LONGEST n
cut_sum m n is = grind (arith, nat_tests, is)

never_longer : (line : List ℕ) → length (drop_cr line) ≤ length line
never_longer [] = omega arith
never_longer (b ∷ []) = elim (eqb b 13) as (λ t. length (cond t [] (b ∷ [])) ≤ 1) [ true ↦ omega arith | false ↦ omega arith ]
never_longer (b ∷ c ∷ bs) = let rest = never_longer (c ∷ bs) in omega arith

-- the CR of two parts is that of the second one
pub drop_after : (front line : List ℕ) → (line ≡ [] → ⊥) → drop_cr (front ++ line) ≡ front ++ drop_cr line
drop_after [] line some = refl
drop_after (b ∷ []) [] some = absurd (some refl)
drop_after (b ∷ []) (c ∷ line) some = refl
drop_after (b ∷ c ∷ front) line some = ap (λ (l : List ℕ). b ∷ l) (drop_after (c ∷ front) line some)

-- a line is no shorter than what it begins with
pub begins_shorter : (front tail : List ℕ) → length (drop_cr front) ≤ length (drop_cr (front ++ tail))
begins_shorter front [] = subst (λ (l : List ℕ). length (drop_cr front) ≤ length (drop_cr l)) (sym (append-nil front)) (omega arith)
begins_shorter front (b ∷ tail) =
    let n = never_longer front in
    let all : length (drop_cr (front ++ b ∷ tail)) ≡ length front + length (drop_cr (b ∷ tail)) = ap length (drop_after front (b ∷ tail) (λ e. absurd cc)) ∙ length-append front (drop_cr (b ∷ tail)) in
    omega arith
