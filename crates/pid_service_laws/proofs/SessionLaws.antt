-- From calls to sessions, for any type of registries: what the lemmas of `Calling` say.
use Rattle.std.specs.Prelude.{◌≡◌, ◌⊎◌, ◌<◌, ◌+◌, ℕ, Bool, true, false, List, [], ◌∷◌, ◌++◌, length, take, Option, Some, IsSomeAnd, Err, Result}
use Rattle.pid_moderation.specs.declared.command.Reply.{Reply}
use Rattle.pid_moderation.specs.declared.refusal.Refusal.{Refusal}
use Rattle.pid_moderation.specs.declared.refusal.Refusal.TheVariants.{Failed}
use Rattle.pid_moderation.specs.History.{Asked, Begins, History}
use Rattle.pid_moderation.specs.Judgement.{after, after_all, answer, answers, judge}
use Rattle.pid_moderation.specs.Views.{views_of}
use Rattle.pid_service_laws.specs.Calls.{Call, nothing_sent, obeyed, ran, sent_in}
use Rattle.pid_service_laws.specs.CallLaws.{StaysClean}
use Rattle.pid_service_laws.specs.CrashPrefix.{IsAfterPrefixes}
use Rattle.pid_service_laws.specs.Outcomes.{IsMemoryOrStore, is_outcome}
use Rattle.pid_service_laws.specs.Registries.{CallsLead, CommandLeaves, Does, Showing, ShowsAgain}

module _ {R : Type 0} (w : Showing R) where
  -- After a list of commands over a history: the replies are the answers to the first ones, and the
  -- registry shows the history after these. Or memory ran out or the store failed, and it has
  -- failed at the next one.
  pub record ListLeaves (replies : List (Result Reply Refusal)) (fault : Option Refusal) (new : R)
      (h : History) (commands : List Asked) : Type 0 where
    pub replied : replies ≡ answers h (take (length replies) commands)
    pub ends : w.shows new (after_all h (take (length replies) commands))
        ⊎ (IsSomeAnd fault IsMemoryOrStore × (length replies < length commands)
        × w.fails_between new (after_all h (take (length replies) commands))
        (after_all h (take (length replies + 1) commands)))

  -- while the disk returns what was written, this is left of the history that was shown
  abbrev pub OverShown : R → R → (History → Type 0) → Type 0
  OverShown old new CallLeaves = w.is_clean new → (h : History) → w.shows old h → CallLeaves h

  -- a registry that has failed between two histories has this of them
  abbrev pub WhereFailed : R → (History → History → Type 0) → Type 0
  WhereFailed r Has = (h next : History) → w.fails_between r h next → Has h next

  -- whether the registry is live: never if it has failed
  abbrev pub SaysLive : Bool → R → Type 0
  SaysLive live r = WhereFailed r (λ h next. live ≡ false)

  -- A call that obeys a command. `live` is whether the registry is live after the call.
  abbrev pub ObeyingDoes : Type 0
  ObeyingDoes = (old new : R) (c : Asked) (result : Result Reply Refusal) (live : Bool)
      → StaysClean w old new
      → OverShown old new (λ h. CommandLeaves w result new h c)
      → WhereFailed old (λ h next. (result ≡ Err Failed) × w.fails_between new h next)
      → SaysLive live new
      → Does w old (obeyed c result live) new

  -- a call that runs a list of commands
  abbrev pub RunningDoes : Type 0
  RunningDoes = (old new : R) (commands : List Asked) (replies : List (Result Reply Refusal))
      (fault : Option Refusal) (live : Bool)
      → StaysClean w old new
      → OverShown old new (λ h. ListLeaves replies fault new h commands)
      → WhereFailed old
      (λ h next. (replies ≡ []) × (fault ≡ Some Failed) × w.fails_between new h next)
      → SaysLive live new
      → Does w old (ran commands replies fault live) new

  -- a call that leaves the registry showing what it showed
  abbrev pub LookingDoes : Type 0
  LookingDoes = (old new : R)
      → StaysClean w old new
      → OverShown old new (λ h. w.shows new h)
      → WhereFailed old (λ h next. w.fails_between new h next)
      → Does w old nothing_sent new

-- Without a session the history is that of the start.
abbrev pub NoSessionIsAPrefix : Type 0
NoSessionIsAPrefix = (mark : ℕ) (before : List Asked) → let start = after_all (Begins mark) before in
    IsAfterPrefixes start [] start

module _ {R T : Type 0} (w : Showing R) (u : Showing T) where
  -- One session more. A registry shows the history after earlier ones. After its calls another is
  -- opened, which shows again what it showed: that shows the history after one session more.
  abbrev pub OneSessionMore : Type 0
  OneSessionMore = (mark : ℕ) (before : List Asked) (opened ended : R) (next : T) (h : History)
      (sessions : List (List Call)) (calls : List Call) → let start = after_all (Begins mark) before in
      w.shows opened h
      → IsAfterPrefixes start sessions h
      → CallsLead w opened calls ended
      → ShowsAgain w u ended next
      → u.is_clean next
      → (g : History) × u.shows next g × IsAfterPrefixes start (sessions ++ calls ∷ []) g

  -- A command under a key met a fault by which the registry failed. After the next opening, and
  -- calls that sent nothing, it is sent again and has an outcome: that of the judgement before.
  abbrev pub DoubtsEndWhenSentAgain : Type 0
  DoubtsEndWhenSentAgain = (ended : R) (opened between last : T) (h : History) (c : Asked)
      (key : List ℕ) (calls : List Call) (result : Result Reply Refusal) (live : Bool)
      → c.key ≡ Some key
      → w.fails_between ended h (after h c)
      → ShowsAgain w u ended opened
      → CallsLead u opened calls between
      → sent_in calls ≡ []
      → Does u between (obeyed c result live) last
      → is_outcome result ≡ true
      → u.is_clean last
      → (result ≡ answer (judge (views_of h) c)) × u.shows last (after h c)
