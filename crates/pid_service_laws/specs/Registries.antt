-- What the public calls of a registry promise, as far as sessions speak of it. A choice of this
-- project.
--
-- The way to the crash prefix, for any types of registries: each call `Does` what it promises;
-- through a session `CallsLead` from the registry as it was opened to how it ended; a later
-- opening, maybe of another type, `ShowsAgain` what the one before it showed. The laws of `calls`
-- say, session by session, what it shows.
use Rattle.std.specs.Prelude.{◌≡◌, ◌⊎◌, true, false, List, [], ◌∷◌, Some, Result, IsErrAnd}
use Rattle.pid_moderation.specs.declared.command.Reply.{Reply}
use Rattle.pid_moderation.specs.declared.refusal.Refusal.{Refusal}
use Rattle.pid_moderation.specs.History.{Asked, History}
use Rattle.pid_moderation.specs.Judgement.{answer, judge, after}
use Rattle.pid_moderation.specs.Views.{views_of}
use Rattle.pid_service_laws.specs.Outcomes.{IsMemoryOrStore}
use Rattle.pid_service_laws.specs.Sessions.{after_sent, AreJudged, NoDoubt, InDoubt, after_session}
use Rattle.pid_service_laws.specs.Calls.{Call, nothing_sent, sent_in, StopsAt, session_of}
use Rattle.pid_service_laws.specs.Doubts.{left_at_stop}

-- the relations by which a registry is described
pub record Showing (R : Type 0) : Type 1 where
  -- so far its disk has returned what was written
  pub is_clean : R → Type 0
  -- it is live and shows the history, and so does everything that a crash may leave
  pub shows : R → History → Type 0
  -- it has failed, and everything that a crash may leave shows the one history or the other
  pub fails_between : R → History → History → Type 0
  -- the second one has, apart from the history, what the first one had
  pub beside : R → R → Type 0

module _ {R : Type 0} (w : Showing R) where
  -- After a command over a history: the answer is that of the judgement, and the registry shows the
  -- history after it. Or memory ran out or the store failed: then it shows the history as before,
  -- or it has failed between the two.
  abbrev pub CommandLeaves : Result Reply Refusal → R → History → Asked → Type 0
  CommandLeaves result new h c =
      ((result ≡ answer (judge (views_of h) c)) × w.shows new (after h c))
      ⊎ (IsErrAnd result IsMemoryOrStore × (w.shows new h ⊎ w.fails_between new h (after h c)))

  -- After any call over a history: each outcome is that of the judgement, over the history so far,
  -- and the registry shows the history after them. Or it has failed between that and the history
  -- after one command more.
  abbrev pub CallLeaves : Call → R → History → Type 0
  CallLeaves call new h =
      AreJudged h call.sent
      × (w.shows new (after_sent h call.sent)
      ⊎ ((c : Asked) × (call.stopped ≡ Some c)
      × w.fails_between new (left_at_stop (after_sent h call.sent) c false)
      (left_at_stop (after_sent h call.sent) c true)))

  -- a look-up or an export: what was shown still is, and all else is as it was
  pub record GoesOnShowing (old new : R) : Type 0 where
    pub shown : w.is_clean new → (h : History) → w.shows old h → w.shows new h
    pub beside : w.beside old new

  -- what a call does, from the registry before it to the registry after it
  pub record Does (old : R) (call : Call) (new : R) : Type 0 where
    pub clean : w.is_clean new → w.is_clean old
    -- one that is live, while the disk returns what was written
    pub live : w.is_clean new → (h : History) → w.shows old h → CallLeaves call new h
    -- one that has failed obeys nothing, and stays so
    pub failed : (h next : History) → w.fails_between old h next
        → (call ≡ nothing_sent) × w.fails_between new h next

  -- calls in turn lead from a registry to a registry
  abbrev pub CallsLead : R → List Call → R → Type 0
  CallsLead old [] new = new ≡ old
  CallsLead old (call ∷ calls) new = (between : R) × Does old call between
      × CallsLead between calls new

  -- After the calls of a session: each outcome is that of the judgement, and the registry shows the
  -- history after the session, without a doubt. Or it has failed at a command: then it shows the
  -- history after the session with that command or without it.
  pub record EndsSession (h : History) (calls : List Call) (ended : R) : Type 0 where
    pub judged : AreJudged h (sent_in calls)
    pub ends : w.shows ended (after_session h (session_of calls NoDoubt))
        ⊎ ((c : Asked) × StopsAt c calls
        × w.fails_between ended (after_session h (session_of calls (InDoubt c false)))
        (after_session h (session_of calls (InDoubt c true))))

module _ {R T : Type 0} (w : Showing R) (u : Showing T) where
  -- A later opening, maybe over another store, shows what the registry showed; if that had
  -- failed, the one history or the other.
  pub record ShowsAgain (ended : R) (opened : T) : Type 0 where
    pub clean : u.is_clean opened → w.is_clean ended
    pub shown : u.is_clean opened → (h : History) → w.shows ended h → u.shows opened h
    pub either : u.is_clean opened → (h next : History) → w.fails_between ended h next
        → u.shows opened h ⊎ u.shows opened next
