-- A comment and a line are the entry of the command that the line says.
use Rattle.std.proofs.Common.{◌≡◌, ◌≤◌, arith, ℕ, Bool, true, false, cond, List, [], ◌∷◌, ◌++◌, length, map, Option, Some, None, Result, Ok, Err, refl, sym, ap, subst, ◌∙◌}
use Rattle.std.specs.Prelude.{nat_lt, not, slice_index, MatchOption, MatchResult, IsUtf8, ◌&&◌, ◌||◌, ◌==◌}
use Rattle.std.specs.Borrow.{Bor}
use Rattle.std.specs.Result.{result_ok}
use Rattle.std.specs.Str.{is_utf8}
use Rattle.std.proofs.lemmas.Bool.Decides.{nat_tests}
use Rattle.std.proofs.lemmas.Str.{is_utf8-from_IsUtf8}
use Rattle.pid_file.proofs.LineLemmas.{not_utf8}
use Rattle.pid_file.specs.Bytes.{is_empty}
use Rattle.pid_file.proofs.Cuts.{ended_line, open_line}
use Rattle.pid_file.specs.Lines.{drop_cr}
use Rattle.pid_file.specs.WholeLines.{ended_pieces}
use Rattle.pid_form.specs.FormFields.{fields_in}
use Rattle.pid_moderation.specs.History.{Asked}
use Rattle.pid_script.specs.Replies.{command_of}
use Rattle.pid_script.specs.ScriptLines.{LONGEST, Ask, AsksNothing, TooLong, Unclear, ask_of, is_idle_line}
use Rattle.pid_journal.specs.declared.counts.Counts.{Counts}
use Rattle.pid_journal.specs.Journals.{IsEntry, IsNote, counts_in_fields, counts_said}

says_none : (long fits idle : Bool) (other : Ask) → idle ≡ true → command_of (cond long TooLong (cond (not fits) Unclear (cond idle AsksNothing other))) ≡ []
says_none true fits idle other h = refl
says_none false false idle other h = refl
says_none false true idle other h = ap (λ (b : Bool). command_of (cond b AsksNothing other)) h

-- a comment asks no command
pub idle_says_none : (line : List ℕ) → is_idle_line line ≡ true → command_of (ask_of line) ≡ []
unfolding ask_of
idle_says_none line h = says_none (nat_lt LONGEST (length line)) (is_utf8 line) (is_idle_line line) _ h

-- WHAT A COMMENT SAYS

by_letter : (t u : Bool) (said : Option Counts) (k : Counts) → cond (t && u) said None ≡ Some k → t ≡ true
by_letter true u said k h = refl
by_letter false u said k h = cc

or_right : (a b : Bool) → b ≡ true → (a || b) ≡ true
or_right true b on = refl
or_right false b on = on

-- a line that says counts is a comment
pub said_is_idle : (line : List ℕ) (k : Counts) → counts_said line ≡ Some k → is_idle_line line ≡ true
unfolding counts_said
said_is_idle line k h = or_right (is_empty line) (slice_index line 0 == 35) (by_letter (slice_index line 0 == 35) (is_utf8 line) (counts_in_fields (fields_in line)) k h)

pub not_comment : (line : List ℕ) → (slice_index line 0 == 35) ≡ false → counts_said line ≡ None
unfolding counts_said
not_comment line off = λ i. cond (off i && is_utf8 line) (counts_in_fields (fields_in line)) None

by_text : (t u : Bool) (said : Option Counts) → u ≡ false → cond (t && u) said None ≡ None
by_text true u said off = λ i. cond (off i) said None
by_text false u said off = refl

pub not_text : (line : List ℕ) → is_utf8 line ≡ false → counts_said line ≡ None
unfolding counts_said
not_text line off = by_text (slice_index line 0 == 35) (is_utf8 line) (counts_in_fields (fields_in line)) off

pub says_fields : (line form : List ℕ) → (slice_index line 0 == 35) ≡ true → is_utf8 line ≡ true → form ≡ line → counts_said line ≡ counts_in_fields (fields_in form)
unfolding counts_said
says_fields line form on text same = (λ i. cond (on i && text i) (counts_in_fields (fields_in line)) None) ∙ ap (λ (l : List ℕ). counts_in_fields (fields_in l)) (sym same)

-- bytes as text
pub text_found : {E : Type 0} (More : E → Type 0) (bytes : List ℕ) (read : Result (Bor (List ℕ)) E) → MatchResult read (λ text. (text.now ≡ bytes) × IsUtf8 bytes) (λ e. (¬ (IsUtf8 bytes)) × More e)
    → MatchOption (result_ok read) (is_utf8 bytes ≡ false) (λ text. (text.now ≡ bytes) × (is_utf8 bytes ≡ true))
text_found More bytes (Ok text) h = (h.0, is_utf8-from_IsUtf8 bytes h.1)
text_found More bytes (Err e) h = not_utf8 bytes h.0

by_text_too : (t u : Bool) (said : Option Counts) (k : Counts) → cond (t && u) said None ≡ Some k → u ≡ true
by_text_too true true said k h = refl
by_text_too true false said k h = cc
by_text_too false u said k h = cc

said_is_text : (line : List ℕ) (k : Counts) → counts_said line ≡ Some k → is_utf8 line ≡ true
unfolding counts_said
said_is_text line k h = by_text_too (slice_index line 0 == 35) (is_utf8 line) (counts_in_fields (fields_in line)) k h

asks_none : (long fits idle : Bool) (other : Ask) → long ≡ false → fits ≡ true → idle ≡ true → cond long TooLong (cond (not fits) Unclear (cond idle AsksNothing other)) ≡ AsksNothing
asks_none long fits idle other short text on = λ i. cond (short i) TooLong (cond (not (text i)) Unclear (cond (on i) AsksNothing other))

not_long : (n : ℕ) → n ≤ 1000 → nat_lt LONGEST n ≡ false
not_long n short = grind (arith, nat_tests)

pub short_idle : (line : List ℕ) → is_utf8 line ≡ true → is_idle_line line ≡ true → length line ≤ 1000 → ask_of line ≡ AsksNothing
unfolding ask_of
short_idle line text idle short = asks_none (nat_lt LONGEST (length line)) (is_utf8 line) (is_idle_line line) _ (not_long (length line) short) text idle

-- a comment that says counts and is short asks nothing
comment_asks : (line : List ℕ) (k : Counts) → counts_said line ≡ Some k → length line ≤ 1000 → ask_of line ≡ AsksNothing
comment_asks line k says short = short_idle line (said_is_text line k says) (said_is_idle line k says) short

-- A COMMENT WITH A LINE

joined : (comment line : List ℕ) (k : Counts) → ended_pieces comment ≡ [] → ended_pieces line ≡ [] → counts_said (drop_cr comment) ≡ Some k → length (drop_cr comment) ≤ 1000 → IsNote (comment ++ 10 ∷ (line ++ 10 ∷ [])) k (drop_cr line)
joined comment line k one two says short = (
  open_line comment (line ++ 10 ∷ []) one ∙ open_line line [] two,
  drop_cr comment,
  ap (map drop_cr) (ended_line comment (line ++ 10 ∷ []) one ∙ ap (λ (pieces : List (List ℕ)). comment ∷ pieces) (ended_line line [] two)),
  says,
  comment_asks (drop_cr comment) k says short,
)

pub reads : (entry comment rest line behind : List ℕ) (k : Counts) → entry ≡ comment ++ 10 ∷ rest → ended_pieces comment ≡ [] → rest ≡ line ++ 10 ∷ behind → ended_pieces line ≡ []
    → behind ≡ [] → counts_said (drop_cr comment) ≡ Some k → length (drop_cr comment) ≤ 1000 → IsNote entry k (drop_cr line)
reads entry comment rest line behind k first one second two none says short =
    let is : entry ≡ comment ++ 10 ∷ (line ++ 10 ∷ []) = first ∙ ap (λ (l : List ℕ). comment ++ 10 ∷ l) (second ∙ ap (λ (l : List ℕ). line ++ 10 ∷ l) none) in
    subst (λ (l : List ℕ). IsNote l k (drop_cr line)) (sym is) (joined comment line k one two says short)

both_on : (a b : Bool) → (a && b) ≡ true → (a ≡ true) × (b ≡ true)
both_on true b on = (refl, on)
both_on false b on = let no : ⊥ = cc in absurd no

pub nat_same : (a b : ℕ) → (a == b) ≡ true → a ≡ b
nat_same a b on = grind (arith, nat_tests)

-- the derived test of counts that are the same
pub counts_same : (k l : Counts) → true ≡ (k.revision == l.revision && (k.accounts == l.accounts && (k.items == l.items && k.submissions == l.submissions))) → k ≡ l
counts_same k l on =
    let one = both_on (k.revision == l.revision) (k.accounts == l.accounts && (k.items == l.items && k.submissions == l.submissions)) (sym on) in
    let two = both_on (k.accounts == l.accounts) (k.items == l.items && k.submissions == l.submissions) one.1 in
    let three = both_on (k.items == l.items) (k.submissions == l.submissions) two.1 in
    λ i. record {
      revision = nat_same k.revision l.revision one.0 i;
      accounts = nat_same k.accounts l.accounts two.0 i;
      items = nat_same k.items l.items three.0 i;
      submissions = nat_same k.submissions l.submissions three.1 i;
    }

pub same_entry : (text bytes : List ℕ) (k l : Counts) (c d : Asked) → text ≡ bytes → k ≡ l → c ≡ d → IsEntry text k c → IsEntry bytes l d
same_entry text bytes k l c d text_is counts_are command_is is = subst (λ (x : List ℕ). IsEntry x l d) text_is (subst (λ (x : Counts). IsEntry text x d) counts_are (subst (IsEntry text k) command_is is))
