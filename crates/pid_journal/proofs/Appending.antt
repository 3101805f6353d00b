-- An entry more in a journal.
use Rattle.std.proofs.Common.{◌≡◌, inl, inr, ℕ, Bool, true, false, cond, List, [], ◌∷◌, ◌++◌, map, Option, Some, None, refl, sym, ap, subst, ◌∙◌, append_assoc, append-nil}
use Rattle.std.specs.Prelude.{IfSome, IsSomeAnd, is_some, ◌||◌}
use Rattle.pid_file.proofs.Cuts.{ended_more, lines_split, map_append, open_more}
use Rattle.pid_file.specs.Lines.{drop_cr, lines_of}
use Rattle.pid_file.specs.WholeLines.{ended_pieces, open_part, whole_lines}
use Rattle.pid_moderation.specs.History.{Asked, History}
use Rattle.pid_moderation.specs.Judgement.{after, after_all}
use Rattle.pid_script.specs.Replies.{command_of, commands_of_lines, history_after}
use Rattle.pid_script.specs.ScriptLines.{ask_of, is_idle_line}
use Rattle.pid_journal.specs.declared.counts.Counts.{Counts}
use Rattle.pid_journal.specs.Journals.{counts_held, counts_said, AreTrue, IsEntry, IsNote, JournalLeads}
use Rattle.pid_journal.specs.Steps.Notes.{EntryLeads, IsMark, after_line, noted_after}
use Rattle.pid_journal.proofs.Reading.{idle_says_none, said_is_idle}

pub after_both : (h : History) (xs ys : List Asked) → after_all h (xs ++ ys) ≡ after_all (after_all h xs) ys
after_both h [] ys = refl
after_both h (x ∷ xs) ys = after_both (after h x) xs ys

pub commands_both : (xs ys : List (List ℕ)) → commands_of_lines (xs ++ ys) ≡ commands_of_lines xs ++ commands_of_lines ys
commands_both [] ys = refl
commands_both (x ∷ xs) ys =
    ap (λ (l : List Asked). command_of (ask_of x) ++ l) (commands_both xs ys) ∙ sym (append_assoc (command_of (ask_of x)) (commands_of_lines xs) (commands_of_lines ys))

pub history_both : (h : History) (xs ys : List (List ℕ)) → history_after h (xs ++ ys) ≡ history_after (history_after h xs) ys
history_both h xs ys = ap (after_all h) (commands_both xs ys) ∙ after_both h (commands_of_lines xs) (commands_of_lines ys)

pub line_alone : (h : History) (line : List ℕ) → history_after h (line ∷ []) ≡ after_line h line
line_alone h line = ap (after_all h) (append-nil (command_of (ask_of line)))

pub whole_both : (text more : List ℕ) → open_part text ≡ [] → whole_lines (text ++ more) ≡ whole_lines text ++ whole_lines more
whole_both text more whole =
    ap (map drop_cr) (ended_more text more)
    ∙ map_append drop_cr (ended_pieces text) (ended_pieces (open_part text ++ more))
    ∙ ap (λ (o : List ℕ). whole_lines text ++ map drop_cr (ended_pieces (o ++ more))) whole

-- what is noted asks what its line asks
pub noted_asks : (text : List ℕ) (k : Counts) (line : List ℕ) → IsNote text k line → commands_of_lines (whole_lines text) ≡ command_of (ask_of line) ++ []
noted_asks text k line is = ap commands_of_lines is.2 ∙ (λ i. idle_says_none is.1 (said_is_idle is.1 k is.3) i ++ (command_of (ask_of line) ++ []))

-- an entry asks its command alone
pub entry_asks : (text : List ℕ) (k : Counts) (c : Asked) → IsEntry text k c → commands_of_lines (whole_lines text) ≡ c ∷ []
entry_asks text k c is = noted_asks text k is.0 is.1 ∙ (λ i. is.2 i ++ [])

-- a mark asks nothing
pub mark_asks : (text : List ℕ) (k : Counts) → IsMark text k → commands_of_lines (whole_lines text) ≡ []
mark_asks text k is = noted_asks text k [] is ∙ (λ i. idle_says_none [] refl i ++ [])

-- COMMENTS

pub after_first : (h : History) (x : List ℕ) (xs : List (List ℕ)) → history_after h (x ∷ xs) ≡ history_after (after_line h x) xs
after_first h x xs = after_both h (command_of (ask_of x)) (commands_of_lines xs)

pub true_both : (xs ys : List (List ℕ)) (h : History) (noted : Bool) → AreTrue h noted xs → ((m : Bool) → AreTrue (history_after h xs) m ys) → AreTrue h noted (xs ++ ys)
true_both [] ys h noted t u = u noted
true_both (x ∷ xs) ys h noted t u = (t.0, t.1, true_both xs ys (after_line h x) (noted_after noted x) t.2 (λ m. subst (λ (g : History). AreTrue g m ys) (after_first h x xs) (u m)))

if_said : (o : Option Counts) (k : Counts) → o ≡ Some k → IfSome o (λ x. x ≡ k)
if_said o k is = subst (λ (x : Option Counts). IfSome x (λ y. y ≡ k)) (sym is) refl

if_none : (o : Option Counts) (k : Counts) → ((x : Counts) → o ≡ Some x → ⊥) → IfSome o (λ x. x ≡ k)
if_none None k never = tt
if_none (Some x) k never = absurd (never x refl)

not_idle : (line : List ℕ) (c : Asked) → command_of (ask_of line) ≡ c ∷ [] → is_idle_line line ≡ true → ⊥
not_idle line c asks idle = let none : command_of (ask_of line) ≡ [] = idle_says_none line idle in cc

-- what is noted is true at its place, if the line itself says no counts
noted_true : (h : History) (noted : Bool) (text line : List ℕ) → IsNote text (counts_held h) line → ((x : Counts) → counts_said line ≡ Some x → ⊥) → AreTrue h noted (whole_lines text)
noted_true h noted text line is never =
    let idle : is_idle_line is.1 ≡ true = said_is_idle is.1 (counts_held h) is.3 in
    let g : History = after_line h is.1 in
    subst (λ (ls : List (List ℕ)). AreTrue h noted ls) (sym is.2) (
      if_said (counts_said is.1) (counts_held h) is.3,
      (λ off. absurd (let no : ⊥ = cc in no)),
      (if_none (counts_said line) (counts_held g) never, (λ off. λ i. cond (idle i) (is_some (is.3 i) || noted) false), tt),
    )

-- an entry is true at its place
pub entry_true : (h : History) (noted : Bool) (text : List ℕ) (c : Asked) → IsEntry text (counts_held h) c → AreTrue h noted (whole_lines text)
entry_true h noted text c is = noted_true h noted text is.0 is.1 (λ x says. not_idle is.0 c is.2 (said_is_idle is.0 x says))

pub empty_says_none : counts_said [] ≡ None
unfolding counts_said
empty_says_none = refl

-- so is a mark
pub mark_true : (h : History) (noted : Bool) (text : List ℕ) → IsMark text (counts_held h) → AreTrue h noted (whole_lines text)
mark_true h noted text is = noted_true h noted text [] is (λ x says. let no : None ≡ Some x = sym empty_says_none ∙ says in let never : ⊥ = cc in never)

pub on_true : (h next : History) (noted : Bool) (text : List ℕ) → EntryLeads text h next → AreTrue h noted (whole_lines text)
on_true h next noted text (inl (c, is, ends)) = entry_true h noted text c is
on_true h next noted text (inr (inl none, same)) = subst (λ (l : List ℕ). AreTrue h noted (whole_lines l)) (sym none) tt
on_true h next noted text (inr (inr mark, same)) = mark_true h noted text mark

pub on_leads : (h next : History) (text : List ℕ) → EntryLeads text h next → after_all h (commands_of_lines (whole_lines text)) ≡ next
on_leads h next text (inl (c, is, ends)) = ap (after_all h) (entry_asks text (counts_held h) c is) ∙ sym ends
on_leads h next text (inr (inl none, same)) = ap (λ (l : List ℕ). after_all h (commands_of_lines (whole_lines l))) none ∙ sym same
on_leads h next text (inr (inr mark, same)) = ap (after_all h) (mark_asks text (counts_held h) mark) ∙ sym same

on_whole : (h next : History) (text : List ℕ) → EntryLeads text h next → open_part text ≡ []
on_whole h next text (inl (c, is, ends)) = is.1.0
on_whole h next text (inr (inl none, same)) = ap open_part none
on_whole h next text (inr (inr mark, same)) = mark.0

-- a text that is whole lines is them as a script
pub all_whole : (text : List ℕ) → open_part text ≡ [] → lines_of text ≡ whole_lines text
all_whole text whole = lines_split text ∙ ap (λ (o : List ℕ). whole_lines text ++ lines_of o) whole ∙ append-nil (whole_lines text)

pub journal_from : (start h : History) (text : List ℕ) → open_part text ≡ [] → AreTrue start false (whole_lines text) → history_after start (whole_lines text) ≡ h → JournalLeads start text h
journal_from start h text whole told leads =
    let same = sym (all_whole text whole) in
    (whole, subst (λ (ls : List (List ℕ)). AreTrue start false ls) same told, ap (history_after start) (sym same) ∙ leads)

pub told_in : (start h : History) (text : List ℕ) → JournalLeads start text h → AreTrue start false (whole_lines text)
told_in start h text is = subst (λ (ls : List (List ℕ)). AreTrue start false ls) (all_whole text is.0) is.1

pub leads_in : (start h : History) (text : List ℕ) → JournalLeads start text h → history_after start (whole_lines text) ≡ h
leads_in start h text is = ap (history_after start) (sym (all_whole text is.0)) ∙ is.2

-- a journal leads on with what leads on
longer : (start h next : History) (text more : List ℕ) → JournalLeads start text h → EntryLeads more h next → JournalLeads start (text ++ more) next
longer start h next text more before on =
    journal_from start next (text ++ more) (open_more text more ∙ ap (λ (o : List ℕ). open_part (o ++ more)) before.0 ∙ on_whole h next more on)
    (subst (λ (ls : List (List ℕ)). AreTrue start false ls) (sym (whole_both text more before.0))
    (true_both (whole_lines text) (whole_lines more) start false (told_in start h text before) (λ m. subst (λ (g : History). AreTrue g m (whole_lines more)) (sym (leads_in start h text before)) (on_true h next m more on))))
    (ap (history_after start) (whole_both text more before.0)
    ∙ ap (after_all start) (commands_both (whole_lines text) (whole_lines more))
    ∙ after_both start (commands_of_lines (whole_lines text)) (commands_of_lines (whole_lines more))
    ∙ ap (λ (g : History). after_all g (commands_of_lines (whole_lines more))) (leads_in start h text before)
    ∙ on_leads h next more on)

-- a journal with an entry more leads on to the history after its command
pub appended : (start h : History) (text entry : List ℕ) (c : Asked) → JournalLeads start text h → IsEntry entry (counts_held h) c → JournalLeads start (text ++ entry) (after h c)
appended start h text entry c before is = longer start h (after h c) text entry before (inl (c, is, refl))

-- a journal with a mark more leads to the same history
pub marked : (start h : History) (text mark : List ℕ) → JournalLeads start text h → IsMark mark (counts_held h) → JournalLeads start (text ++ mark) h
marked start h text mark before is = longer start h h text mark before (inr (inr is, refl))

-- THE JOURNAL OF A REGISTRY

pub kept : (start h : History) (safe : Option (List ℕ)) → IsSomeAnd safe (λ text. JournalLeads start text h) → (text : List ℕ) × (safe ≡ Some text) × JournalLeads start text h
kept start h None leads = absurd leads
kept start h (Some text) leads = (text, refl, leads)

pub is_kept : (start h : History) (safe : Option (List ℕ)) (text : List ℕ) → safe ≡ Some text → JournalLeads start text h → IsSomeAnd safe (λ t. JournalLeads start t h)
is_kept start h safe text is leads = subst (λ (o : Option (List ℕ)). IsSomeAnd o (λ t. JournalLeads start t h)) (sym is) leads
