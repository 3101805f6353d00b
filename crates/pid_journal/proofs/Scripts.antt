-- What the text of a journal says as a script.
use Rattle.std.proofs.Common.{◌≡◌, ◌⊎◌, inl, inr, ℕ, Bool, false, List, [], ◌∷◌, ◌++◌, map, take, drop, take-append-drop, Some, refl, sym, ap, subst, ◌∙◌}
use Rattle.pid_file.proofs.Cuts.{ended_more, map_append}
use Rattle.pid_file.specs.Lines.{drop_cr}
use Rattle.pid_file.specs.WholeLines.{ended_pieces, open_part, whole_lines}
use Rattle.pid_moderation.specs.History.{Asked, History}
use Rattle.pid_moderation.specs.Judgement.{after, after_all}
use Rattle.pid_script.specs.Replies.{commands_of_lines, history_after}
use Rattle.pid_journal.specs.Journals.{counts_held, AreTrue, JournalLeads}
use Rattle.pid_journal.specs.Doubts.{IsInDoubt}
use Rattle.pid_journal.specs.Steps.Ways.{IsOnWay}
use Rattle.pid_journal.specs.Steps.Notes.{EntryLeads, after_line, noted_after}
use Rattle.pid_journal.proofs.Appending.{after_both, commands_both, entry_asks, leads_in, mark_asks, on_leads, on_true, told_in, true_both, whole_both}

-- of one command there is a part without it, or one with it
one_part : (h : History) (xs ys : List Asked) (c : Asked) → xs ++ ys ≡ c ∷ [] → (after_all h xs ≡ h) ⊎ (after_all h xs ≡ after h c)
one_part h [] ys c is = inl refl
one_part h (x ∷ []) ys c is = inr (let same : x ≡ c = cc in ap (after h) same)
one_part h (x ∷ y ∷ xs) ys c is = absurd (let no : ⊥ = cc in no)

part_lines : (part gone : List ℕ) → whole_lines part ++ map drop_cr (ended_pieces (open_part part ++ gone)) ≡ whole_lines (part ++ gone)
part_lines part gone = sym (ap (map drop_cr) (ended_more part gone) ∙ map_append drop_cr (ended_pieces part) (ended_pieces (open_part part ++ gone)))

-- the whole lines of a part of what asks some commands
part_asks : (part gone : List ℕ) (cs : List Asked) → commands_of_lines (whole_lines (part ++ gone)) ≡ cs → commands_of_lines (whole_lines part) ++ commands_of_lines (map drop_cr (ended_pieces (open_part part ++ gone))) ≡ cs
part_asks part gone cs is =
    sym (commands_both (whole_lines part) (map drop_cr (ended_pieces (open_part part ++ gone))))
    ∙ ap commands_of_lines (part_lines part gone)
    ∙ is

-- the history after the whole lines of a text and a part
joined_history : (start h : History) (text before part : List ℕ) → text ≡ before ++ part → JournalLeads start before h → history_after start (whole_lines text) ≡ after_all h (commands_of_lines (whole_lines part))
joined_history start h text before part parts is =
    ap (λ (t : List ℕ). history_after start (whole_lines t)) parts
    ∙ ap (history_after start) (whole_both before part is.0)
    ∙ ap (after_all start) (commands_both (whole_lines before) (whole_lines part))
    ∙ after_both start (commands_of_lines (whole_lines before)) (commands_of_lines (whole_lines part))
    ∙ ap (λ (g : History). after_all g (commands_of_lines (whole_lines part))) (leads_in start h before is)

no_part : {A : Type 0} (part gone : List A) → part ++ gone ≡ [] → part ≡ []
no_part [] gone none = refl
no_part (b ∷ bs) gone none = absurd (let no : ⊥ = cc in no)

-- of an entry, or of none, a part leads nowhere or to the next history
part_leads : (h next : History) (part gone : List ℕ) → EntryLeads (part ++ gone) h next → (after_all h (commands_of_lines (whole_lines part)) ≡ h) ⊎ (after_all h (commands_of_lines (whole_lines part)) ≡ next)
part_leads h next part gone (inl (c, is, ends)) =
    elim (one_part h (commands_of_lines (whole_lines part)) (commands_of_lines (map drop_cr (ended_pieces (open_part part ++ gone)))) c (part_asks part gone (c ∷ []) (entry_asks (part ++ gone) (counts_held h) c is))) [
      | inl same ↦ inl same
      | inr one ↦ inr (one ∙ sym ends)
    ]
part_leads h next part gone (inr (inl none, same)) = inl (ap (λ (l : List ℕ). after_all h (commands_of_lines (whole_lines l))) (no_part part gone none))
part_leads h next part gone (inr (inr mark, same)) =
    inl (ap (after_all h) (no_part (commands_of_lines (whole_lines part)) (commands_of_lines (map drop_cr (ended_pieces (open_part part ++ gone)))) (part_asks part gone [] (mark_asks (part ++ gone) (counts_held h) mark))))

-- THE TEXT THAT IS SAFE

same_some : (a b : List ℕ) → Some a ≡ Some b → a ≡ b
same_some a b is = cc

doubt_parts : (start h next : History) (text : List ℕ) (doubt : IsInDoubt start (Some text) h next) → text ≡ doubt.text ++ (take doubt.left.0 doubt.more)
doubt_parts start h next text doubt = same_some text (doubt.text ++ (take doubt.left.0 doubt.more)) doubt.left.1

doubt_leads : (start h next : History) (text : List ℕ) (doubt : IsInDoubt start (Some text) h next) → EntryLeads ((take doubt.left.0 doubt.more) ++ (drop doubt.left.0 doubt.more)) h next
doubt_leads start h next text doubt = subst (λ (l : List ℕ). EntryLeads l h next) (sym (take-append-drop doubt.left.0 doubt.more)) doubt.last

pub either : (start h next : History) (text : List ℕ) → IsInDoubt start (Some text) h next → (history_after start (whole_lines text) ≡ h) ⊎ (history_after start (whole_lines text) ≡ next)
either start h next text doubt =
    let joined = joined_history start h text doubt.text (take doubt.left.0 doubt.more) (doubt_parts start h next text doubt) doubt.leads in
    elim (part_leads h next (take doubt.left.0 doubt.more) (drop doubt.left.0 doubt.more) (doubt_leads start h next text doubt)) [
      | inl same ↦ inl (joined ∙ same)
      | inr one ↦ inr (joined ∙ one)
    ]

-- THE WAY

true_front : (xs ys : List (List ℕ)) (h : History) (noted : Bool) → AreTrue h noted (xs ++ ys) → AreTrue h noted xs
true_front [] ys h noted all = tt
true_front (x ∷ xs) ys h noted all = (all.0, all.1, true_front xs ys (after_line h x) (noted_after noted x) all.2)

-- the comments of a journal and of a part of an entry
part_true : (start h next : History) (text : List ℕ) (doubt : IsInDoubt start (Some text) h next) → AreTrue start false (whole_lines doubt.text ++ whole_lines (take doubt.left.0 doubt.more))
part_true start h next text doubt =
    let part = (take doubt.left.0 doubt.more) in
    let rest = map drop_cr (ended_pieces (open_part part ++ (drop doubt.left.0 doubt.more))) in
    true_both (whole_lines doubt.text) (whole_lines part) start false (told_in start h doubt.text doubt.leads) (λ m. subst (λ (g : History). AreTrue g m (whole_lines part)) (sym (leads_in start h doubt.text doubt.leads))
    (true_front (whole_lines part) rest h m (subst (λ (ls : List (List ℕ)). AreTrue h m ls) (sym (part_lines part (drop doubt.left.0 doubt.more))) (on_true h next m (part ++ (drop doubt.left.0 doubt.more)) (doubt_leads start h next text doubt)))))

doubt_lines : (start h next : History) (text : List ℕ) (doubt : IsInDoubt start (Some text) h next) → whole_lines text ≡ whole_lines doubt.text ++ whole_lines (take doubt.left.0 doubt.more)
doubt_lines start h next text doubt = ap whole_lines (doubt_parts start h next text doubt) ∙ whole_both doubt.text (take doubt.left.0 doubt.more) doubt.leads.0

-- the history before is on the way, and that after it is at the end if the entry is whole
pub doubts : (start h next : History) (text : List ℕ) (doubt : IsInDoubt start (Some text) h next) → IsOnWay start false (whole_lines text) h × (text ≡ doubt.text ++ doubt.more → history_after start (whole_lines text) ≡ next)
doubts start h next text doubt =
    let lines = doubt_lines start h next text doubt in
    let told = subst (λ (ls : List (List ℕ)). AreTrue start false ls) (sym lines) (part_true start h next text doubt) in (
      record { told = told; before = whole_lines doubt.text; later = whole_lines (take doubt.left.0 doubt.more); parts = lines; so_far = leads_in start h doubt.text doubt.leads },
      λ whole. joined_history start h text doubt.text doubt.more whole doubt.leads ∙ on_leads h next doubt.more doubt.last,
    )
