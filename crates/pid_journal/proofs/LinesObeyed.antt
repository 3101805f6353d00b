-- Lines of a journal, obeyed one after the other.
use Rattle.std.proofs.Common.{◌≡◌, ◌≢◌, ◌⊎◌, inl, inr, ℕ, List, [], ◌∷◌, ◌++◌, Result, Ok, Err, refl, sym, ap, subst, ◌∙◌, append_assoc, append-nil}
use mathlib.Core.Bool.{false≢true}
use Rattle.std.specs.Prelude.{IsErr, IsErrAnd, IsOkAnd, MatchResult}
use Rattle.pid_file.specs.Lines.{drop_cr}
use Rattle.pid_file.specs.WholeLines.{ended_pieces, whole_lines}
use Rattle.pid_moderation.specs.declared.command.Reply.{Reply}
use Rattle.pid_moderation.specs.declared.refusal.Refusal.{Refusal}
use Rattle.pid_moderation.specs.declared.refusal.Refusal.TheVariants.{Memory}
use Rattle.pid_moderation.specs.History.{Asked, History}
use Rattle.pid_moderation.specs.Judgement.{after_all}
use Rattle.pid_script.specs.Replies.{command_of, history_after}
use Rattle.pid_script.specs.ScriptLines.{ask_of}
use Rattle.pid_service_laws.specs.Outcomes.{IsMemoryOrStore}
use Rattle.pid_service_laws.specs.Registries.{CommandLeaves, Showing}
use Rattle.pid_journal.specs.Steps.Following.{FaultsAtLine}
use Rattle.pid_journal.specs.Steps.Places.{IsEndOf}
use Rattle.pid_journal.specs.Steps.Notes.{after_line}
use Rattle.pid_journal.specs.Openings.{StopsAtOne}
use Rattle.pid_journal.specs.Steps.Ways.{IsAlong}
use Rattle.pid_journal.proofs.Along.{FaultsWithin, stops_at, stops_within}
use Rattle.pid_journal.proofs.Appending.{history_both, line_alone}
use Rattle.pid_journal.proofs.Places.{end_more, line_first, none_left}

module _ {R : Type 0} (w : Showing R) where
  -- ONE LINE

  pub none_asked : {X : Type 0} (result : Result X Refusal) (r : R) (h : History) (line : List ℕ) (e : Refusal) → (e ≢ Memory → command_of (ask_of line) ≡ []) → IsOkAnd result (λ x. e ≢ Memory) ⊎ IsErr result → w.shows r h
      → MatchResult result (λ x. w.shows r (after_line h line)) (λ d. FaultsAtLine w r h line)
  none_asked (Ok x) r h line e none (inl other) shown = subst (λ (g : History). w.shows r g) (sym (ap (after_all h) (none other))) shown
  none_asked (Ok x) r h line e none (inr is) shown = absurd (false≢true is)
  none_asked (Err d) r h line e none is shown = inl shown

  pub went_on : (result : Result Reply Refusal) (new : R) (h : History) (line : List ℕ) (c : Asked) → command_of (ask_of line) ≡ c ∷ [] → (IsErrAnd result IsMemoryOrStore → ⊥) → CommandLeaves w result new h c → w.shows new (after_line h line)
  went_on result new h line c one judged (inl told) = subst (λ (g : History). w.shows new g) (sym (ap (after_all h) one)) told.1
  went_on result new h line c one judged (inr left) = absurd (judged left.0)

  stopped_at : (result : Result Reply Refusal) (new : R) (h : History) (line : List ℕ) (c : Asked) → command_of (ask_of line) ≡ c ∷ [] → CommandLeaves w result new h c → FaultsAtLine w new h line
  stopped_at result new h line c one (inl told) = inr (inl (subst (λ (g : History). w.shows new g) (sym (ap (after_all h) one)) told.1))
  stopped_at result new h line c one (inr (fault, inl shows)) = inl shows
  stopped_at result new h line c one (inr (fault, inr fails)) = inr (inr (subst (λ (g : History). w.fails_between new h g) (sym (ap (after_all h) one)) fails))

  pub refused_on : {X : Type 0} (result : Result X Refusal) (new : R) (h : History) (line : List ℕ) (c : Asked) (e : Refusal) → command_of (ask_of line) ≡ c ∷ [] → IsOkAnd result (λ x. IsMemoryOrStore e → ⊥) ⊎ IsErr result → CommandLeaves w (Err e) new h c
      → MatchResult result (λ x. w.shows new (after_line h line)) (λ d. FaultsAtLine w new h line)
  refused_on (Ok x) new h line c e one (inl judged) leaves = went_on (Err e) new h line c one judged leaves
  refused_on (Ok x) new h line c e one (inr is) leaves = absurd (false≢true is)
  refused_on (Err d) new h line c e one is leaves = stopped_at (Err e) new h line c one leaves

  -- ALL LINES

  -- the registry shows the history after the first lines
  pub record ShowsSoFar (now : R) (h : History) (text rest : List ℕ) : Type 0 where
    pub before : List (List ℕ)
    pub parts : whole_lines text ≡ before ++ whole_lines rest
    pub shown : w.shows now (history_after h before)

  pub record IsFollowing (old now : R) (text rest : List ℕ) : Type 0 where
    pub end : IsEndOf text rest
    pub shows : w.is_clean now → (h : History) → w.shows old h → ShowsSoFar now h text rest

  pub follows_first : (r : R) (text : List ℕ) → IsFollowing r r text text
  follows_first r text = record {
    end = record { front = []; parts = refl; whole = refl };
    shows = λ clean h shown. record { before = []; parts = refl; shown = shown };
  }

  one_line_more : (h : History) (mid new : R) (text rest line behind : List ℕ) → rest ≡ line ++ 10 ∷ behind → ended_pieces line ≡ [] → (far : ShowsSoFar mid h text rest) → w.shows new (after_line (history_after h far.before) (drop_cr line)) → ShowsSoFar new h text behind
  one_line_more h mid new text rest line behind parts one far shown = record {
    before = far.before ++ drop_cr line ∷ [];
    parts = far.parts ∙ ap (λ (ls : List (List ℕ)). far.before ++ ls) (line_first rest line behind parts one) ∙ sym (append_assoc far.before (drop_cr line ∷ []) (whole_lines behind));
    shown = subst (λ (g : History). w.shows new g) (sym (history_both h far.before (drop_cr line ∷ []) ∙ line_alone (history_after h far.before) (drop_cr line))) shown;
  }

  pub follows_on : (old mid new : R) (text rest line behind : List ℕ) → IsFollowing old mid text rest → rest ≡ line ++ 10 ∷ behind → ended_pieces line ≡ [] → (w.is_clean new → w.is_clean mid)
      → (w.is_clean new → (h : History) → w.shows mid h → w.shows new (after_line h (drop_cr line)))
      → IsFollowing old new text behind
  follows_on old mid new text rest line behind far parts one honest obeyed = record {
    end = end_more text rest line behind far.end parts one;
    shows = λ clean h shown. let so_far = far.shows (honest clean) h shown in
        one_line_more h mid new text rest line behind parts one so_far (obeyed clean (history_after h so_far.before) so_far.shown);
  }

  pub follows_stopped : (old mid new : R) (text rest line behind : List ℕ) (h : History) → IsFollowing old mid text rest → rest ≡ line ++ 10 ∷ behind → ended_pieces line ≡ [] → (w.is_clean new → w.is_clean mid)
      → (w.is_clean new → (g : History) → w.shows mid g → FaultsAtLine w new g (drop_cr line))
      → w.is_clean new → w.shows old h → StopsAtOne w (IsAlong h (whole_lines text)) new
  follows_stopped old mid new text rest line behind h far parts one honest stops clean shown =
      let so_far = far.shows (honest clean) h shown in
      let within : FaultsWithin w new h (whole_lines text) = record {
        before = so_far.before;
        line = drop_cr line;
        later = whole_lines behind;
        parts = so_far.parts ∙ ap (λ (ls : List (List ℕ)). so_far.before ++ ls) (line_first rest line behind parts one);
        stops = stops clean (history_after h so_far.before) so_far.shown;
      } in
      stops_within w new h (whole_lines text) within

  -- no more could be read
  pub follows_unread : (old now : R) (text rest : List ℕ) (h : History) → IsFollowing old now text rest → w.is_clean now → w.shows old h → StopsAtOne w (IsAlong h (whole_lines text)) now
  follows_unread old now text rest h far clean shown =
      let so_far = far.shows clean h shown in
      stops_at w now (IsAlong h (whole_lines text)) (history_after h so_far.before) so_far.shown (record { before = so_far.before; later = whole_lines rest; parts = so_far.parts; so_far = refl })

  pub follows_all : (old now : R) (text rest : List ℕ) (h : History) → IsFollowing old now text rest → ended_pieces rest ≡ [] → w.is_clean now → w.shows old h → w.shows now (history_after h (whole_lines text))
  follows_all old now text rest h far none clean shown =
      let so_far = far.shows clean h shown in
      let all : whole_lines text ≡ so_far.before = so_far.parts ∙ ap (λ (ls : List (List ℕ)). so_far.before ++ ls) (none_left rest none) ∙ append-nil so_far.before in
      subst (λ (ls : List (List ℕ)). w.shows now (history_after h ls)) (sym all) so_far.shown
