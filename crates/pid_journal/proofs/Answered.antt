-- What a script answers that is a journal.
use Rattle.std.proofs.Common.{◌≡◌, arith, ℕ, List, [], ◌∷◌, ◌++◌, Result, Ok, Err, refl, sym, ap, ◌∙◌, append_assoc, append-nil}
use Rattle.std.proofs.lemmas.Str.{IsUtf8-nil, is_utf8-from_IsUtf8}
use Rattle.pid_file.proofs.Cuts.{open_more}
use Rattle.pid_file.specs.Lines.{lines_of}
use Rattle.pid_file.specs.WholeLines.{open_part, whole_lines}
use Rattle.pid_moderation.specs.declared.command.Command.{Command}
use Rattle.pid_moderation.specs.declared.refusal.Refusal.{Refusal}
use Rattle.pid_moderation.specs.Files.{asks}
use Rattle.pid_moderation.specs.History.{Asked, History}
use Rattle.pid_moderation.specs.Judgement.{after_all, answer, judge}
use Rattle.pid_moderation.specs.ReplyLines.{outcome_line}
use Rattle.pid_moderation.specs.Views.{views_of}
use Rattle.pid_script.specs.Asking.{command_in_form}
use Rattle.pid_script.specs.Replies.{command_of, history_after, line_reply, outcome_of, replies, those_sent}
use Rattle.pid_script.specs.ScriptLines.{Ask, AsksNothing, AsksCommand, AsksExport, AsksName, AsksLookup, Unclear, TooLong, ask_of}
use Rattle.pid_journal.specs.Journals.{counts_held, IsEntry, IsNote, JournalLeads}
use Rattle.pid_journal.specs.Laws.{EntriesAreAnswered}
use Rattle.pid_journal.specs.Steps.Notes.{after_line}
use Rattle.pid_journal.proofs.Appending.{after_first, all_whole, leads_in, whole_both}
use Rattle.pid_journal.proofs.Reading.{short_idle}

replies_both : (h : History) (xs ys : List (List ℕ)) → replies h (xs ++ ys) ≡ replies h xs ++ replies (history_after h xs) ys
replies_both h [] ys = refl
replies_both h (x ∷ xs) ys =
    ap (λ (l : List ℕ). line_reply (ask_of x) h ++ l) (replies_both (after_line h x) xs ys ∙ ap (λ (g : History). replies (after_line h x) xs ++ replies g ys) (sym (after_first h x xs)))
    ∙ sym (append_assoc (line_reply (ask_of x) h) (replies (after_line h x) xs) (replies (history_after h (x ∷ xs)) ys))

-- whole lines more are answered after those before them
more_answered : (start h : History) (text more : List ℕ) → JournalLeads start text h → open_part more ≡ [] → replies start (lines_of (text ++ more)) ≡ replies start (lines_of text) ++ replies h (whole_lines more)
more_answered start h text more leads whole =
    let all : open_part (text ++ more) ≡ [] = open_more text more ∙ ap (λ (o : List ℕ). open_part (o ++ more)) leads.0 ∙ whole in
    ap (replies start) (all_whole (text ++ more) all ∙ whole_both text more leads.0)
    ∙ replies_both start (whole_lines text) (whole_lines more)
    ∙ ap (λ (g : History). replies start (whole_lines text) ++ replies g (whole_lines more)) (leads_in start h text leads)
    ∙ ap (λ (ls : List (List ℕ)). replies start ls ++ replies h (whole_lines more)) (sym (all_whole text leads.0))

-- ONE COMMAND

of_those : (said : Result Command Refusal) (h : History) (c : Asked) → those_sent said ≡ c ∷ [] → outcome_of said h ≡ outcome_line (answer (judge (views_of h) c))
of_those (Err e) h c is = absurd (let no : ⊥ = cc in no)
of_those (Ok command) h c is = let same : asks command ≡ c = cc in ap (λ (d : Asked). outcome_line (answer (judge (views_of h) d))) same

reply_of : (ask : Ask) (h : History) (c : Asked) → command_of ask ≡ c ∷ [] → line_reply ask h ≡ outcome_line (answer (judge (views_of h) c))
reply_of (AsksCommand verb account fields) h c is = of_those (command_in_form verb account fields) h c is
reply_of AsksNothing h c is = absurd (let no : ⊥ = cc in no)
reply_of AsksExport h c is = absurd (let no : ⊥ = cc in no)
reply_of (AsksName fields) h c is = absurd (let no : ⊥ = cc in no)
reply_of (AsksLookup fields) h c is = absurd (let no : ⊥ = cc in no)
reply_of Unclear h c is = absurd (let no : ⊥ = cc in no)
reply_of TooLong h c is = absurd (let no : ⊥ = cc in no)

-- a line that asks nothing
nothing_first : (h : History) (line : List ℕ) (lines : List (List ℕ)) → ask_of line ≡ AsksNothing → replies h (line ∷ lines) ≡ replies h lines
nothing_first h line lines idle = ap (λ (a : Ask). line_reply a h ++ replies (after_all h (command_of a)) lines) idle

noted_answered : (h : History) (text line : List ℕ) → IsNote text (counts_held h) line → replies h (whole_lines text) ≡ line_reply (ask_of line) h
noted_answered h text line is = ap (replies h) is.2 ∙ nothing_first h is.1 (line ∷ []) is.4 ∙ append-nil (line_reply (ask_of line) h)

entry_answered : (h : History) (entry : List ℕ) (c : Asked) → IsEntry entry (counts_held h) c → replies h (whole_lines entry) ≡ outcome_line (answer (judge (views_of h) c))
entry_answered h entry c is = noted_answered h entry is.0 is.1 ∙ reply_of (ask_of is.0) h c is.2

empty_asks : ask_of [] ≡ AsksNothing
empty_asks = short_idle [] (is_utf8-from_IsUtf8 [] IsUtf8-nil) refl (omega arith)

pub answered : EntriesAreAnswered
answered start h text more leads = (
  (λ c is. more_answered start h text more leads is.1.0 ∙ ap (λ (l : List ℕ). replies start (lines_of text) ++ l) (entry_answered h more c is)),
  λ is.
      more_answered start h text more leads is.0
      ∙ ap (λ (l : List ℕ). replies start (lines_of text) ++ l) (noted_answered h more [] is ∙ ap (λ (a : Ask). line_reply a h) empty_asks)
      ∙ append-nil (replies start (lines_of text)),
)
