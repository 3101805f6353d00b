-- Marks, and what may be cut off.
use Rattle.std.proofs.Common.{◌≡◌, inl, inr, ℕ, suc, ◌+◌, ◌≤◌, List, [], ◌∷◌, ◌++◌, length, map, take, drop, Option, Some, None, Result, Ok, Err, refl, sym, ap, subst, ◌∙◌, arith, append_assoc, append-nil, length-append, take-append-drop}
use Rattle.std.specs.Prelude.{IfSome, IsErr, IsErrAnd}
use Rattle.pid_file.proofs.Cuts.{ended_line, ended_more, map_append, open_no_lf}
use Rattle.pid_file.specs.Lines.{drop_cr}
use Rattle.pid_file.specs.WholeLines.{ended_pieces, open_part, whole_lines}
use Rattle.pid_moderation.specs.declared.command.Reply.{Reply}
use Rattle.pid_moderation.specs.declared.refusal.Refusal.{Refusal}
use Rattle.pid_moderation.specs.History.{Asked, History}
use Rattle.pid_moderation.specs.RegistryStatus.{RegistryStatus, status_of_registry}
use Rattle.pid_script.specs.Replies.{command_of}
use Rattle.pid_script.specs.ScriptLines.{ask_of}
use Rattle.pid_service_laws.specs.Outcomes.{IsMemoryOrStore}
use Rattle.pid_service_laws.specs.Registries.{Showing}
use Rattle.pid_journal.specs.declared.counts.Counts.{Counts}
use Rattle.pid_journal.specs.Journals.{counts_said, IsEntry}
use Rattle.pid_journal.specs.Pairs.{AddsEntry}
use Rattle.pid_journal.specs.Steps.Parts.{CutsAfter, IsUnmarked, MarksAreWithin, MayBeMarked}
use Rattle.pid_journal.specs.Steps.Notes.{IsMark, MayBeAdded, counts_in}
use Rattle.pid_journal.specs.Doubts.{LeavesPart}
use Rattle.pid_journal.proofs.Appending.{empty_says_none}
use Rattle.pid_journal.proofs.InTurn.{in_parts}
use Rattle.pid_journal.proofs.Noted.{counted, leaves_part}
use Rattle.pid_journal.proofs.Reading.{idle_says_none}
use Rattle.pid_journal.proofs.Resuming.{counted_status}

-- the pieces around an LF
pieces_at : (a rest : List ℕ) → ended_pieces (a ++ 10 ∷ rest) ≡ ended_pieces a ++ open_part a ∷ ended_pieces rest
pieces_at a rest = ended_more a (10 ∷ rest) ∙ ap (λ (ls : List (List ℕ)). ended_pieces a ++ ls) (ended_line (open_part a) rest (open_no_lf a))

not_empty : {A : Type 0} (xs ys : List A) (y : A) → xs ++ y ∷ ys ≡ [] → ⊥
not_empty [] ys y is = let no : ⊥ = cc in no
not_empty (x ∷ xs) ys y is = let no : ⊥ = cc in no

has_lf : (a rest : List ℕ) → ended_pieces (a ++ 10 ∷ rest) ≡ [] → ⊥
has_lf a rest none = not_empty (ended_pieces a) (ended_pieces rest) (open_part a) (sym (pieces_at a rest) ∙ none)

far_enough : (a d f n : ℕ) → f ≡ a + d → 2 ≤ d → f ≡ n → a + 2 ≤ n
far_enough a d f n is two same = omega arith

at_least_two : (n : ℕ) → 2 ≤ suc (suc n)
at_least_two n = omega arith

within_front : (above b front : List ℕ) (x y : ℕ) (count : ℕ) → front ≡ above ++ x ∷ y ∷ b → length front ≡ count → length above + 2 ≤ count
within_front above b front x y count is counted = far_enough (length above) (length (x ∷ y ∷ b)) (length front) count (ap length is ∙ length-append above (x ∷ y ∷ b)) (at_least_two (length b)) counted

-- AN ENTRY

no_more : (xs ys : List (List ℕ)) (x : List ℕ) (comment line : List ℕ) → xs ++ x ∷ [] ∷ ys ≡ comment ∷ line ∷ [] → line ≡ []
no_more [] ys x comment line is = cc
no_more (a ∷ []) ys x comment line is = let rest : [] ∷ ys ≡ [] = cc in absurd (not_empty [] ys [] rest)
no_more (a ∷ b ∷ xs) ys x comment line is = let rest : xs ++ x ∷ [] ∷ ys ≡ [] = cc in absurd (not_empty xs ([] ∷ ys) x rest)

says_something : (comment : List ℕ) (k : Counts) → counts_said comment ≡ Some k → comment ≡ [] → ⊥
says_something comment k says none = let no : None ≡ Some k = sym empty_says_none ∙ ap counts_said (sym none) ∙ says in let never : ⊥ = cc in never

asks_something : (line : List ℕ) (c : Asked) → command_of (ask_of line) ≡ c ∷ [] → line ≡ [] → ⊥
asks_something line c asks none = let no : [] ≡ c ∷ [] = sym (idle_says_none [] refl) ∙ ap (λ (l : List ℕ). command_of (ask_of l)) (sym none) ∙ asks in let never : ⊥ = cc in never

lines_at_mark : (above rest : List ℕ) → whole_lines (above ++ 10 ∷ 10 ∷ rest) ≡ map drop_cr (ended_pieces above) ++ drop_cr (open_part above) ∷ [] ∷ map drop_cr (ended_pieces rest)
lines_at_mark above rest = ap (map drop_cr) (pieces_at above (10 ∷ rest)) ∙ map_append drop_cr (ended_pieces above) (open_part above ∷ [] ∷ ended_pieces rest)

pub unmarked : (entry : List ℕ) (k : Counts) (c : Asked) → IsEntry entry k c → IsUnmarked entry
unmarked entry k c is = let noted = is.1 in record {
  first = λ rest starts. let lines : [] ∷ map drop_cr (ended_pieces rest) ≡ noted.1 ∷ is.0 ∷ [] = ap whole_lines (sym starts) ∙ noted.2 in let none : noted.1 ≡ [] = cc in says_something noted.1 k noted.3 none;
  within = λ above rest has.
      asks_something is.0 c is.2 (no_more (map drop_cr (ended_pieces above)) (map drop_cr (ended_pieces rest)) (drop_cr (open_part above)) noted.1 is.0 (sym (lines_at_mark above rest) ∙ ap whole_lines (sym has) ∙ noted.2));
}

entered : (above b text part gone entry rest : List ℕ) (count : ℕ) → IsUnmarked entry → entry ≡ part ++ gone → text ≡ above ++ b → 10 ∷ 10 ∷ rest ≡ b ++ part → length text ≡ count → length above + 2 ≤ count
entered above [] text part gone entry rest count un parts is marks counted = absurd (un.first (10 ∷ (rest ++ gone)) (parts ∙ ap (λ (l : List ℕ). l ++ gone) (sym marks)))
entered above (x ∷ []) text part gone entry rest count un parts is marks counted = let same : 10 ∷ rest ≡ part = cc in absurd (un.first (rest ++ gone) (parts ∙ ap (λ (l : List ℕ). l ++ gone) (sym same)))
entered above (x ∷ y ∷ b) text part gone entry rest count un parts is marks counted = within_front above b text x y count is counted

-- a part of an entry after a text has no mark
pub part_within : (text part gone entry : List ℕ) (count : ℕ) → IsUnmarked entry → entry ≡ part ++ gone → length text ≡ count → MarksAreWithin (text ++ part) count
part_within text part gone entry count un parts counted above rest is =
    elim (in_parts above (10 ∷ 10 ∷ rest) text part (sym is)) [
      | inl (b, longer, marks) ↦ entered above b text part gone entry rest count un parts longer marks counted
      | inr (l, longer, has) ↦ absurd (un.within l (rest ++ gone) (parts ∙ ap (λ (t : List ℕ). t ++ gone) has ∙ append_assoc l (10 ∷ 10 ∷ rest) gone))
    ]

-- WHAT STAYS

whole_part : (now : Option (List ℕ)) (front behind : List ℕ) → now ≡ Some (front ++ behind) → LeavesPart now front behind
whole_part now front behind is = leaves_part now front behind behind [] (sym (append-nil behind)) is

pub appended_part : (old now : Option (List ℕ)) (entry : List ℕ) → ((front : List ℕ) → old ≡ Some front → now ≡ Some (front ++ entry)) → (front : List ℕ) → old ≡ Some front → LeavesPart now front entry
appended_part old now entry appends front is = whole_part now front entry (appends front is)

-- what an append left may be cut off again
pub left_within : (old mid : Option (List ℕ)) (entry : List ℕ) (count : ℕ) → IsUnmarked entry → IfSome old (λ text. count ≡ length text) → (old ≡ None → mid ≡ None) → ((front : List ℕ) → old ≡ Some front → LeavesPart mid front entry)
    → IfSome mid (λ text. MarksAreWithin text count)
left_within None mid entry count un counts unknown leaves = subst (λ (o : Option (List ℕ)). IfSome o (λ text. MarksAreWithin text count)) (sym (unknown refl)) tt
left_within (Some text) mid entry count un counts unknown leaves =
    let left = leaves text refl in
    subst (λ (o : Option (List ℕ)). IfSome o (λ t. MarksAreWithin t count)) (sym left.1) (part_within text (take left.0 entry) (drop left.0 entry) entry count un (sym (take-append-drop left.0 entry)) (sym counts))

pub stays : (safe : Option (List ℕ)) (c : Asked) (result : Result Reply Refusal) → AddsEntry safe safe c result
stays safe c result text is = inl is

-- an entry came to it whole
pub added : (old now : Option (List ℕ)) (entry : List ℕ) (k : Counts) (c : Asked) (result : Result Reply Refusal) → IsEntry entry k c → ((front : List ℕ) → old ≡ Some front → now ≡ Some (front ++ entry)) → AddsEntry old now c result
added old now entry k c result is appends text known = inr (entry, k, is, inl ([], appends text known ∙ ap (λ (l : List ℕ). Some l) (sym (append-nil (text ++ entry))), inl refl))

-- and maybe a mark
pub added_marked : {R : Type 0} (w : Showing R) (r s : R) (old mid now : Option (List ℕ)) (entry : List ℕ) (k : Counts) (c : Asked) (result : Result Reply Refusal) → IsEntry entry k c → ((front : List ℕ) → old ≡ Some front → mid ≡ Some (front ++ entry)) → MayBeMarked w r s mid now
    → AddsEntry old now c result
added_marked w r s old mid now entry k c result is appends marks text known =
    elim (marks (text ++ entry) (appends text known)) [
      | inl same ↦ inr (entry, k, is, inl ([], same ∙ ap (λ (l : List ℕ). Some l) (sym (append-nil (text ++ entry))), inl refl))
      | inr (mark, held, marked, more, told) ↦ inr (entry, k, is, inl (mark, more, inr (held, marked)))
    ]

-- a part of an entry came to it at a fault, and what came to it may be cut off again
pub added_back : (old mid now : Option (List ℕ)) (entry : List ℕ) (count : ℕ) (k : Counts) (c : Asked) (result : Result Reply Refusal) → IsEntry entry k c → IsErr result → IfSome old (λ text. count ≡ length text) → ((front : List ℕ) → old ≡ Some front → LeavesPart mid front entry)
    → CutsAfter mid now count → AddsEntry old now c result
added_back old mid now entry count k c result is fault counts leaves after text known =
    let left = leaves text known in
    let first = take left.0 entry in
    let gone = drop left.0 entry in
    let cut = after text first left.1 (counted old text count known counts) in
    let parts : entry ≡ take cut.0 first ++ (drop cut.0 first ++ gone) =
    sym (take-append-drop left.0 entry) ∙ ap (λ (l : List ℕ). l ++ gone) (sym (take-append-drop cut.0 first)) ∙ append_assoc (take cut.0 first) (drop cut.0 first) gone in
    let part : LeavesPart now text entry = leaves_part now text entry (take cut.0 first) (drop cut.0 first ++ gone) parts cut.1 in
    inr (entry, k, is, inr (fault, part))

pub cut_off : (now : Option (List ℕ)) (front behind : List ℕ) → now ≡ Some front → LeavesPart now front behind
cut_off now front behind is = leaves_part now front behind [] behind refl (is ∙ ap (λ (l : List ℕ). Some l) (sym (append-nil front)))

pub err_of : (result : Result Reply Refusal) → IsErrAnd result IsMemoryOrStore → IsErr result
err_of (Ok x) fault = absurd fault
err_of (Err e) fault = refl

-- a mark of the status that the registry told
pub marked_end : {R : Type 0} (w : Showing R) (r s : R) (safe now : Option (List ℕ)) (mark bytes : List ℕ) (status : RegistryStatus) → bytes ≡ mark → IsMark mark (counts_in status) → (w.is_clean s → (h : History) → w.shows r h → status ≡ status_of_registry h) → MayBeAdded safe now bytes
    → MayBeMarked w r s safe now
marked_end w r s safe now mark bytes status same is told adds text known =
    elim (adds text known) [
      | inl left ↦ inl left
      | inr more ↦ inr (mark, counts_in status, is, more ∙ ap (λ (l : List ℕ). Some (text ++ l)) same, λ clean h shown. sym (counted_status status h (told clean h shown)))
    ]

pub marks_within : (safe : Option (List ℕ)) (count : ℕ) → IfSome safe (λ text. MarksAreWithin text count) → (above rest : List ℕ) → safe ≡ Some (above ++ 10 ∷ 10 ∷ rest) → length above + 2 ≤ count
marks_within safe count within above rest is = (subst (λ (o : Option (List ℕ)). IfSome o (λ text. MarksAreWithin text count)) is within) above rest refl
