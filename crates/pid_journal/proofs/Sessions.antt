-- What a stop leaves of a journal of segments.
use Rattle.std.proofs.Common.{◌≡◌, inl, inr, ℕ, false, List, [], ◌∷◌, ◌++◌, sym, ap, subst, ◌∙◌, append_assoc, append-nil}
use Rattle.pid_file.specs.WholeLines.{whole_lines}
use Rattle.pid_moderation.specs.History.{History}
use Rattle.pid_moderation.specs.Views.{revision_of}
use Rattle.pid_script.specs.Replies.{history_after}
use Rattle.pid_journal.specs.Journals.{AreTrue, AreSegments, lines_in}
use Rattle.pid_journal.specs.Laws.{StopsLeaveTheWay}
use Rattle.pid_journal.specs.Steps.Ways.{IsInSegments, IsOnWay}
use Rattle.pid_journal.proofs.Along.{passed_along, segments_along}
use Rattle.pid_journal.proofs.InTurn.{lines_both}
use Rattle.pid_journal.proofs.Appending.{history_both}
use Rattle.pid_journal.proofs.Scripts.{doubts, either}

-- one segment more
segments_more : (text : ℕ → List ℕ) (h : History) (front : List ℕ) (name : ℕ) → AreSegments text h front → revision_of (history_after h (lines_in text front)) ≡ name → AreTrue (history_after h (lines_in text front)) false (whole_lines (text name)) → AreSegments text h (front ++ name ∷ [])
segments_more text h [] name told is lines = (is, lines, tt)
segments_more text h (n ∷ ns) name told is lines =
    let both : history_after h (lines_in text (n ∷ ns)) ≡ history_after (history_after h (whole_lines (text n))) (lines_in text ns) = history_both h (whole_lines (text n)) (lines_in text ns) in
    (told.0, told.1, segments_more text (history_after h (whole_lines (text n))) ns name told.2 (ap revision_of (sym both) ∙ is) (subst (λ (g : History). AreTrue g false (whole_lines (text name))) both lines))

pub all_lines : (text : ℕ → List ℕ) (front : List ℕ) (name : ℕ) → lines_in text (front ++ name ∷ []) ≡ lines_in text front ++ whole_lines (text name)
all_lines text front name = lines_both text front (name ∷ []) ∙ ap (λ (ls : List (List ℕ)). lines_in text front ++ ls) (append-nil (whole_lines (text name)))

-- what is on the way of the last segment
on_last : (start g : History) (text : ℕ → List ℕ) (front : List ℕ) (name : ℕ) → AreSegments text start (front ++ name ∷ []) → IsOnWay (history_after start (lines_in text front)) false (whole_lines (text name)) g → IsInSegments text start (front ++ name ∷ []) g
on_last start g text front name told way = record {
  told = told;
  before = lines_in text front ++ way.before;
  later = way.later;
  parts = all_lines text front name ∙ ap (λ (ls : List (List ℕ)). lines_in text front ++ ls) way.parts ∙ sym (append_assoc (lines_in text front) way.before way.later);
  so_far = history_both start (lines_in text front) way.before ∙ way.so_far;
}

pub stops : StopsLeaveTheWay
stops start h next text front name told is doubt =
    let begin = history_after start (lines_in text front) in
    let ways = doubts begin h next (text name) doubt in
    let all = segments_more text start front name told is ways.0.told in
    let end : history_after start (lines_in text (front ++ name ∷ [])) ≡ history_after begin (whole_lines (text name)) =
    ap (history_after start) (all_lines text front name) ∙ history_both start (lines_in text front) (whole_lines (text name)) in (
      all,
      passed_along start h (lines_in text (front ++ name ∷ [])) (segments_along text start h (front ++ name ∷ []) (on_last start h text front name all ways.0)),
      λ whole. end ∙ ways.1 whole,
      elim (either begin h next (text name) doubt) [
        | inl same ↦ inl (end ∙ same)
        | inr one ↦ inr (end ∙ one)
      ],
    )
