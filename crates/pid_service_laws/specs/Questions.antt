-- What a registry under moderation answers to a question, by the history that it shows, which it
-- goes on showing. A choice of this project.
use Rattle.std.specs.Prelude.{◌≡◌, ◌⊎◌, Bool, true, false, Option, Some, None, Result, Err}
use Rattle.std.specs.Prelude.{MatchResult}
use Rattle.pid_moderation.specs.declared.refusal.Refusal.{Refusal}
use Rattle.pid_moderation.specs.declared.refusal.Refusal.TheVariants.{Failed, NoSubmission}
use Rattle.pid_moderation.specs.History.{History}
use Rattle.pid_service_laws.specs.Calls.{nothing_sent}
use Rattle.pid_service_laws.specs.Outcomes.{IsMemoryOrStore}
use Rattle.pid_service_laws.specs.Registries.{Does, Showing}

-- there is no such submission; or memory ran out, or the store failed
abbrev pub IsMissing : {X : Type 0} → Option X → Refusal → Type 0
IsMissing found e = ((e ≡ NoSubmission) × (found ≡ None)) ⊎ IsMemoryOrStore e

-- how a registry is described, and whether it is live
module _ {R : Type 0} (w : Showing R) (is_live : R → Bool) where
  -- one that shows a history is live, and one that has failed between two is not
  pub record ShowsWhileLive : Type 0 where
    pub shown : (r : R) (h : History) → w.shows r h → is_live r ≡ true
    pub fallen : (r : R) (h next : History) → w.fails_between r h next → is_live r ≡ false

  -- A question was asked: it is a call of the session that sends nothing.
  pub record IsAsked {X : Type 0} (old new : R) (result : Result X Refusal)
      (Says : History → X → Type 0) (Denies : History → Refusal → Type 0) : Type 0 where
    pub calls : Does w old nothing_sent new
    -- one that has failed answers nothing else, and stays as it is
    pub failed : is_live old ≡ false → (result ≡ Err Failed) × (new ≡ old)
    pub told : w.is_clean new → (h : History) → w.shows old h
        → MatchResult result (Says h) (Denies h) × w.shows new h
    -- apart from the history it has what it had
    pub beside : w.beside old new

  -- it is answered by the history, unless memory runs out or the store fails
  abbrev pub IsAnswered : {X : Type 0} → R → R → Result X Refusal → (History → X → Type 0) → Type 0
  IsAnswered old new result Says = IsAsked old new result Says (λ h e. IsMemoryOrStore e)

  -- the same for something that may not be there; then the answer is `NoSubmission`
  abbrev pub IsAnsweredIfThere : {X Y : Type 0} → R → R → Result X Refusal → (History → Option Y)
      → (X → Y) → Type 0
  IsAnsweredIfThere old new result found means = IsAsked old new result
      (λ h x. found h ≡ Some (means x)) (λ h e. IsMissing (found h) e)
