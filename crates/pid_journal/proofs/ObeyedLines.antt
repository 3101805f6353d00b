-- Which lines of segments lead from one history to another.
use Rattle.std.proofs.Common.{◌≡◌, inl, inr, ℕ, ◌≤◌, List, [], ◌∷◌, ◌++◌, length, take, drop, refl, sym, ap, subst, ◌∙◌, append-nil, take_at, drop_at}
use Rattle.pid_file.specs.WholeLines.{whole_lines}
use Rattle.pid_moderation.specs.History.{History}
use Rattle.pid_moderation.specs.Views.{revision_of}
use Rattle.pid_script.specs.Replies.{history_after}
use Rattle.pid_journal.specs.Journals.{counts_held}
use Rattle.pid_journal.specs.Openings.{FollowsInTurn}
use Rattle.pid_journal.specs.Steps.Comparing.{IsWithin}
use Rattle.pid_journal.specs.Steps.Places.{IsEndOf}
use Rattle.pid_journal.specs.Steps.Ways.{IsAlong}
use Rattle.pid_journal.proofs.Appending.{whole_both}
use Rattle.pid_journal.proofs.Comparing.{within}

pub obeys_none : (text : ℕ → List ℕ) (names : List ℕ) (h : History) → FollowsInTurn text names h h
obeys_none text [] h = refl
obeys_none text (name ∷ names) h = inl (obeys_none text names h)

pub obeys_both : (text : ℕ → List ℕ) (xs ys : List ℕ) (h m g : History) → FollowsInTurn text xs h m → FollowsInTurn text ys m g → FollowsInTurn text (xs ++ ys) h g
obeys_both text [] ys h m g is more = subst (λ (x : History). FollowsInTurn text ys x g) (sym is) more
obeys_both text (x ∷ xs) ys h m g (inl far) more = inl (obeys_both text xs ys h m g far more)
obeys_both text (x ∷ xs) ys h m g (inr (stands, next, along, far)) more = inr (stands, next, along, obeys_both text xs ys next m g far more)

-- of the first one alone
pub obeys_first : (text : ℕ → List ℕ) (name : ℕ) (rest : List ℕ) (h g : History) → FollowsInTurn text (name ∷ []) h g → FollowsInTurn text (name ∷ rest) h g
obeys_first text name rest h g one = obeys_both text (name ∷ []) rest h g g one (obeys_none text rest g)

-- lines of a segment from where the registry stands
pub obeys_in : (text : ℕ → List ℕ) (name : ℕ) (rest : List ℕ) (h g : History) → name ≤ revision_of h → IsWithin (counts_held h) name (whole_lines (text name)) → IsEndOf (text name) rest → IsAlong h (whole_lines rest) g → FollowsInTurn text (name ∷ []) h g
obeys_in text name rest h g begun stands end along =
    let lines : whole_lines (text name) ≡ whole_lines end.front ++ whole_lines rest = ap whole_lines end.parts ∙ whole_both end.front rest end.whole in
    let later : drop (length (whole_lines end.front)) (whole_lines (text name)) ≡ whole_lines rest = ap (λ (ls : List (List ℕ)). drop (length (whole_lines end.front)) ls) lines ∙ drop_at (whole_lines end.front) (whole_lines rest) (length (whole_lines end.front)) refl in
    let first : take (length along.before) (drop (length (whole_lines end.front)) (whole_lines (text name))) ≡ along.before =
    ap (λ (ls : List (List ℕ)). take (length along.before) ls) (later ∙ along.parts) ∙ take_at along.before along.later (length along.before) refl in
    inr (within text name h begun stands, g, (length (whole_lines end.front), (length along.before, ap (history_after h) first ∙ along.so_far)), refl)

pub all_along : (h : History) (lines : List (List ℕ)) → IsAlong h lines (history_after h lines)
all_along h lines = record { before = lines; later = []; parts = sym (append-nil lines); so_far = refl }
