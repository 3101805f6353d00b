-- From the calls on a registry to sessions.
use Rattle.std.proofs.Common.{◌≡◌, ◌⊎◌, ◌<◌, ◌≤◌, ◌+◌, ℕ, suc, Bool, true, false, cond, List, [], ◌∷◌, ◌++◌, length, take, Option, Some, None, Result, Ok, Err, refl, sym, ap, subst, ◌∙◌, inl, inr, arith}
use Rattle.std.specs.Prelude.{IsErrAnd, IsSomeAnd, nat_le, not, ◌&&◌, slice_get}
use Rattle.std.specs.List.{AllZip, flat_map}
use Rattle.pid_moderation.specs.declared.command.Reply.{Reply}
use Rattle.pid_moderation.specs.declared.refusal.Refusal.{Refusal}
use Rattle.pid_moderation.specs.declared.refusal.Refusal.TheVariants.{Memory, Store, Failed}
use Rattle.pid_moderation.specs.History.{Asked, Begins, History, mark_of}
use Rattle.pid_moderation.specs.Refusals.{is_judged_refusal}
use Rattle.pid_moderation.specs.Judgement.{after, after_all, answer, answers, judge}
use Rattle.pid_moderation.specs.Keys.{times_under}
use Rattle.pid_moderation.specs.Laws.{KeysStandOnce}
use Rattle.pid_moderation.specs.Views.{views_of}
use Rattle.pid_service_laws.specs.Outcomes.{IsMemoryOrStore, is_fault, is_outcome}
use Rattle.pid_service_laws.specs.Sessions.{Sent, NoDoubt, InDoubt, Session, AreJudged, AreSessions, after_session, after_sessions, after_sent, commands_in, prefix_of}
use Rattle.pid_service_laws.specs.Calls.{AreNothing, Call, IsSessionOf, StopsAt, session_of, nothing_sent, obeyed, paired, ran, refusal_answered, sent_in, stopped_by}
use Rattle.pid_service_laws.specs.CallLaws.{CallsAreASession}
use Rattle.pid_service_laws.proofs.SessionLaws.{DoubtsEndWhenSentAgain, ListLeaves, LookingDoes, NoSessionIsAPrefix, ObeyingDoes, OneSessionMore, RunningDoes, SaysLive}
use Rattle.pid_service_laws.specs.CrashPrefix.{IsAfterPrefixes}
use Rattle.pid_service_laws.specs.Doubts.{left_at_stop}
use Rattle.pid_service_laws.specs.Registries.{CallsLead, Does, CallLeaves, CommandLeaves, Showing}
use Rattle.pid_service_laws.proofs.Joining.{after_more, after_parts, joined, joins, sessions_hold, sessions_keep}
use Rattle.pid_service_laws.proofs.Keeping.{OwnKept, each_own}
use Rattle.pid_service_laws.proofs.Judging.{outcome_of}
use Rattle.pid_service_laws.proofs.Settling.{doubt_settled}

-- WHAT WAS SENT

judged_then : (xs ys : List Sent) (h : History) → AreJudged h xs → AreJudged (after_sent h xs) ys → AreJudged h (xs ++ ys)
judged_then [] ys h j k = k
judged_then (x ∷ xs) ys h j k = (j.0, judged_then xs ys (after h x.command) j.1 k)

sent_more : (xs ys : List Sent) (h : History) → after_sent h (xs ++ ys) ≡ after_sent (after_sent h xs) ys
sent_more [] ys h = refl
sent_more (x ∷ xs) ys h = sent_more xs ys (after h x.command)

nothing-sent : (calls : List Call) → AreNothing calls → sent_in calls ≡ []
nothing-sent [] n = refl
nothing-sent (call ∷ calls) n = let rest = nothing-sent calls n.1 in λ i. (n.0 i).sent ++ rest i

-- A LIST OF COMMANDS

same_head : (r s : Result Reply Refusal) (rs ss : List (Result Reply Refusal)) → r ∷ rs ≡ s ∷ ss → r ≡ s
same_head r s rs ss e = cc

same_tail : (r s : Result Reply Refusal) (rs ss : List (Result Reply Refusal)) → r ∷ rs ≡ s ∷ ss → rs ≡ ss
same_tail r s rs ss e = cc

ran_judged : (cs : List Asked) (rs : List (Result Reply Refusal)) (h : History) → rs ≡ answers h (take (length rs) cs) → AreJudged h (paired cs rs)
ran_judged [] rs h e = tt
ran_judged (c ∷ cs) [] h e = tt
ran_judged (c ∷ cs) (r ∷ rs) h e =
    let a = answer (judge (views_of h) c) in
    let rest = answers (after h c) (take (length rs) cs) in
    (same_head r a rs rest e, ran_judged cs rs (after h c) (same_tail r a rs rest e))

ran_sent : (cs : List Asked) (rs : List (Result Reply Refusal)) → commands_in (paired cs rs) ≡ take (length rs) cs
ran_sent [] [] = refl
ran_sent [] (r ∷ rs) = refl
ran_sent (c ∷ cs) [] = refl
ran_sent (c ∷ cs) (r ∷ rs) = ap (λ x. c ∷ x) (ran_sent cs rs)

-- the next one, at which it stopped
record StopsNext (cs : List Asked) (rs : List (Result Reply Refusal)) : Type 0 where
  pub next : Asked
  pub stopped : slice_get cs (length rs) ≡ Some next
  pub more : take (length rs + 1) cs ≡ take (length rs) cs ++ next ∷ []

one_later : (c : Asked) (cs : List Asked) (r : Result Reply Refusal) (rs : List (Result Reply Refusal)) → StopsNext cs rs → StopsNext (c ∷ cs) (r ∷ rs)
one_later c cs r rs s =
    let counted : length (r ∷ rs) + 1 ≡ suc (length rs + 1) = omega arith in
    let same : slice_get (c ∷ cs) (length (r ∷ rs)) ≡ slice_get cs (length rs) = refl in
    record { next = s.next; stopped = same ∙ s.stopped; more = ap (λ n. take n (c ∷ cs)) counted ∙ ap (λ x. c ∷ x) s.more }

ran_stops : (cs : List Asked) (rs : List (Result Reply Refusal)) → length rs < length cs → StopsNext cs rs
ran_stops [] rs few = let none : ⊥ = omega arith in absurd none
ran_stops (c ∷ cs) [] few = record { next = c; stopped = refl; more = refl }
ran_stops (c ∷ cs) (r ∷ rs) few = one_later c cs r rs (ran_stops cs rs (omega arith))

ran_none : (cs : List Asked) (live : Bool) → ran cs [] (Some Failed) live ≡ nothing_sent
ran_none [] live = refl
ran_none (c ∷ cs) live = refl

fault_stops : (fault : Option Refusal) (live : Bool) (next : Option Asked) → IsSomeAnd fault IsMemoryOrStore → live ≡ false → stopped_by fault live next ≡ next
fault_stops None live next f off = absurd f
fault_stops (Some e) live next (inl is) off = λ i. stopped_by (Some (is i)) (off i) next
fault_stops (Some e) live next (inr is) off = λ i. stopped_by (Some (is i)) (off i) next

-- AN ANSWER

obeyed-fault : (c : Asked) (result : Result Reply Refusal) (live : Bool) → IsErrAnd result IsMemoryOrStore → obeyed c result live ≡ record { sent = []; stopped = cond (not live) (Some c) None }
obeyed-fault c (Ok reply) live f = absurd f
obeyed-fault c (Err e) live (inl is) = ap (λ (r : Refusal). obeyed c (Err r) live) is
obeyed-fault c (Err e) live (inr is) = ap (λ (r : Refusal). obeyed c (Err r) live) is

judges_no_fault : (e : Refusal) → is_judged_refusal e ≡ true → is_fault e ≡ false
judges_no_fault Memory h = absurd cc
judges_no_fault Store h = absurd cc
judges_no_fault e h = refl

stopped-outcome : (c : Asked) (result : Result Reply Refusal) (live : Bool) → is_outcome result ≡ true → stopped_by (refusal_answered result) live (Some c) ≡ None
stopped-outcome c (Ok reply) live is = refl
stopped-outcome c (Err e) live is = ap (λ b. cond (b && not live) (Some c) None) (judges_no_fault e is)

pub obeyed-outcome : (c : Asked) (result : Result Reply Refusal) (live : Bool) → is_outcome result ≡ true → obeyed c result live ≡ record { sent = record { command = c; outcome = result } ∷ []; stopped = None }
obeyed-outcome c result live is = λ i. record { sent = cond (is i) (record { command = c; outcome = result } ∷ []) []; stopped = stopped-outcome c result live is i }

module _ {R : Type 0} (w : Showing R) where
  -- WHAT EACH CALL DOES

  fault_leaves : (new : R) (h : History) (c : Asked) (live : Bool) → SaysLive w live new → w.shows new h ⊎ w.fails_between new h (after h c) → CallLeaves w (record { sent = []; stopped = cond (not live) (Some c) None }) new h
  fault_leaves new h c live told (inl s) = (tt, inl s)
  fault_leaves new h c live told (inr f) = (tt, inr (c, ap (λ (b : Bool). cond (not b) (Some c) None) (told h (after h c) f), f))

  obeyed_leaves : (c : Asked) (result : Result Reply Refusal) (live : Bool) (new : R) (h : History) → SaysLive w live new → CommandLeaves w result new h c → CallLeaves w (obeyed c result live) new h
  obeyed_leaves c result live new h told (inl o) =
      subst (λ (call : Call). CallLeaves w call new h) (sym (obeyed-outcome c result live (ap is_outcome o.0 ∙ outcome_of (views_of h) c))) ((o.0, tt), inl o.1)
  obeyed_leaves c result live new h told (inr o) =
      subst (λ (call : Call). CallLeaves w call new h) (sym (obeyed-fault c result live o.0)) (fault_leaves new h c live told o.1)

  pub obeyed_does : ObeyingDoes w
  obeyed_does old new c result live clean obeys failed told = record {
    clean = clean;
    live = λ k h s. obeyed_leaves c result live new h told (obeys k h s);
    failed = λ h next f. let d = failed h next f in (ap (λ (r : Result Reply Refusal). obeyed c r live) d.0, d.1);
  }

  ran_ends : (commands : List Asked) (replies : List (Result Reply Refusal)) (fault : Option Refusal) (live : Bool) (new : R) (h g : History) → SaysLive w live new → g ≡ after_all h (take (length replies) commands)
      → w.shows new (after_all h (take (length replies) commands))
      ⊎ (IsSomeAnd fault IsMemoryOrStore × (length replies < length commands)
      × w.fails_between new (after_all h (take (length replies) commands)) (after_all h (take (length replies + 1) commands)))
      → w.shows new g ⊎ ((c : Asked) × ((ran commands replies fault live).stopped ≡ Some c) × w.fails_between new (left_at_stop g c false) (left_at_stop g c true))
  ran_ends commands replies fault live new h g told is (inl s) = inl (subst (λ x. w.shows new x) (sym is) s)
  ran_ends commands replies fault live new h g told is (inr f) =
      let s = ran_stops commands replies f.1 in
      let so_far = take (length replies) commands in
      let next : after_all h (take (length replies + 1) commands) ≡ after g s.next =
      ap (after_all h) s.more ∙ after_more so_far h (s.next ∷ []) ∙ ap (λ x. after x s.next) (sym is) in
      inr (s.next, fault_stops fault live (slice_get commands (length replies)) f.0 (told _ _ f.2) ∙ s.stopped, subst (λ x. w.fails_between new g x) next (subst (λ x. w.fails_between new x (after_all h (take (length replies + 1) commands))) (sym is) f.2))

  ran_leaves : (commands : List Asked) (replies : List (Result Reply Refusal)) (fault : Option Refusal) (live : Bool) (new : R) (h : History) → SaysLive w live new → ListLeaves w replies fault new h commands
      → CallLeaves w (ran commands replies fault live) new h
  ran_leaves commands replies fault live new h told r = (
    ran_judged commands replies h r.replied,
    ran_ends commands replies fault live new h (after_sent h (paired commands replies)) told (ap (after_all h) (ran_sent commands replies)) r.ends,
  )

  pub ran_does : RunningDoes w
  ran_does old new commands replies fault live clean runs failed told = record {
    clean = clean;
    live = λ k h s. ran_leaves commands replies fault live new h told (runs k h s);
    failed = λ h next f. let d = failed h next f in ((λ i. ran commands (d.0 i) (d.1 i) live) ∙ ran_none commands live, d.2);
  }

  pub looked_does : LookingDoes w
  looked_does old new clean shown failed = record {
    clean = clean;
    live = λ k h s. (tt, inl (shown k h s));
    failed = λ h next f. (refl, failed h next f);
  }

  -- THE CALLS OF ONE SESSION

  calls_clean : (calls : List Call) (old new : R) → CallsLead w old calls new → w.is_clean new → w.is_clean old
  calls_clean [] old new same k = subst (λ r. w.is_clean r) same k
  calls_clean (call ∷ calls) old new (between, does, rest) k = does.clean (calls_clean calls between new rest k)

  -- after a failure
  record StaysFailed (calls : List Call) (new : R) (h next : History) : Type 0 where
    pub nothing : AreNothing calls
    pub fails : w.fails_between new h next

  stays_failed : (calls : List Call) (old new : R) (h next : History) → CallsLead w old calls new → w.fails_between old h next → StaysFailed calls new h next
  stays_failed [] old new h next same f = record { nothing = tt; fails = subst (λ r. w.fails_between r h next) (sym same) f }
  stays_failed (call ∷ calls) old new h next (between, does, rest) f =
      let d = does.failed h next f in
      let s = stays_failed calls between new h next rest d.1 in
      record { nothing = (d.0, s.nothing); fails = s.fails }

  -- how calls end, by what they sent
  record Ended (h : History) (calls : List Call) (new : R) : Type 0 where
    pub judged : AreJudged h (sent_in calls)
    pub ends : w.shows new (after_sent h (sent_in calls))
        ⊎ ((c : Asked) × StopsAt c calls × w.fails_between new (left_at_stop (after_sent h (sent_in calls)) c false) (left_at_stop (after_sent h (sent_in calls)) c true))

  then_ends : (call : Call) (calls : List Call) (new : R) (h : History)
      → w.shows new (after_sent (after_sent h call.sent) (sent_in calls))
      ⊎ ((c : Asked) × StopsAt c calls × w.fails_between new (left_at_stop (after_sent (after_sent h call.sent) (sent_in calls)) c false) (left_at_stop (after_sent (after_sent h call.sent) (sent_in calls)) c true))
      → w.shows new (after_sent h (sent_in (call ∷ calls)))
      ⊎ ((c : Asked) × StopsAt c (call ∷ calls) × w.fails_between new (left_at_stop (after_sent h (sent_in (call ∷ calls))) c false) (left_at_stop (after_sent h (sent_in (call ∷ calls))) c true))
  then_ends call calls new h (inl s) = inl (subst (λ g. w.shows new g) (sym (sent_more call.sent (sent_in calls) h)) s)
  then_ends call calls new h (inr (c, stops, f)) =
      inr (c, inr stops, subst (λ g. w.fails_between new (left_at_stop g c false) (left_at_stop g c true)) (sym (sent_more call.sent (sent_in calls) h)) f)

  one_call : (call : Call) (calls : List Call) (between new : R) (h : History) → CallsLead w between calls new
      → ((g : History) → w.shows between g → Ended g calls new)
      → AreJudged h call.sent
      → w.shows between (after_sent h call.sent)
      ⊎ ((c : Asked) × (call.stopped ≡ Some c) × w.fails_between between (left_at_stop (after_sent h call.sent) c false) (left_at_stop (after_sent h call.sent) c true))
      → Ended h (call ∷ calls) new
  one_call call calls between new h rest then_on judged (inl s) =
      let e = then_on (after_sent h call.sent) s in
      record { judged = judged_then call.sent (sent_in calls) h judged e.judged; ends = then_ends call calls new h e.ends }
  one_call call calls between new h rest then_on judged (inr (c, stopped, f)) =
      let g = after_sent h call.sent in
      let s = stays_failed calls between new (left_at_stop g c false) (left_at_stop g c true) rest f in
      let none = nothing-sent calls s.nothing in
      let same : after_sent h (call.sent ++ sent_in calls) ≡ g = sent_more call.sent (sent_in calls) h ∙ ap (after_sent g) none in
      record {
        judged = judged_then call.sent (sent_in calls) h judged (subst (λ (xs : List Sent). AreJudged g xs) (sym none) tt);
        ends = inr (c, inl (stopped, s.nothing), subst (λ x. w.fails_between new (left_at_stop x c false) (left_at_stop x c true)) (sym same) s.fails);
      }

  calls_end : (calls : List Call) (old new : R) (h : History) → w.shows old h → CallsLead w old calls new → w.is_clean new → Ended h calls new
  calls_end [] old new h s same k = record { judged = tt; ends = inl (subst (λ r. w.shows r h) (sym same) s) }
  calls_end (call ∷ calls) old new h s (between, does, rest) k =
      let l = does.live (calls_clean calls between new rest k) h s in
      one_call call calls between new h rest (λ g shown. calls_end calls between new g shown rest k) l.0 l.1

  as_session : (calls : List Call) (new : R) (h : History)
      → w.shows new (after_sent h (sent_in calls))
      ⊎ ((c : Asked) × StopsAt c calls × w.fails_between new (left_at_stop (after_sent h (sent_in calls)) c false) (left_at_stop (after_sent h (sent_in calls)) c true))
      → w.shows new (after_session h (session_of calls NoDoubt))
      ⊎ ((c : Asked) × StopsAt c calls × w.fails_between new (after_session h (session_of calls (InDoubt c false))) (after_session h (session_of calls (InDoubt c true))))
  as_session calls new h (inl s) = inl (subst (λ g. w.shows new g) (sym (after_parts h (session_of calls NoDoubt))) s)
  as_session calls new h (inr (c, stops, f)) =
      inr (
        c,
        stops,
        subst (λ g. w.fails_between new g (after_session h (session_of calls (InDoubt c true)))) (sym (after_parts h (session_of calls (InDoubt c false))))
            (subst (λ g. w.fails_between new (after_sent h (sent_in calls)) g) (sym (after_parts h (session_of calls (InDoubt c true)))) f),
      )

  pub session_ends : CallsAreASession w
  session_ends old new h calls s lead k =
      let e = calls_end calls old new h s lead k in
      record { judged = e.judged; ends = as_session calls new h e.ends }

  -- SENT AGAIN

  -- calls that sent nothing left the registry showing what it showed, or it has failed
  sent_nothing : (calls : List Call) (new : R) (h : History) → sent_in calls ≡ [] → Ended h calls new → w.shows new h ⊎ ((next : History) × w.fails_between new h next)
  sent_nothing calls new h none e = by_end e.ends
    where
      by_end : w.shows new (after_sent h (sent_in calls))
          ⊎ ((c : Asked) × StopsAt c calls × w.fails_between new (left_at_stop (after_sent h (sent_in calls)) c false) (left_at_stop (after_sent h (sent_in calls)) c true))
          → w.shows new h ⊎ ((next : History) × w.fails_between new h next)
      by_end (inl s) = inl (subst (λ xs. w.shows new (after_sent h xs)) none s)
      by_end (inr (c, stops, f)) = inr (after h c, subst (λ xs. w.fails_between new (after_sent h xs) (after (after_sent h xs) c)) none f)

  -- an outcome is that of the judgement, and the registry shows the history after the command
  record Judges (g : History) (c : Asked) (result : Result Reply Refusal) (new : R) : Type 0 where
    pub outcome : result ≡ answer (judge (views_of g) c)
    pub shown : w.shows new (after g c)

  one_judged : (new : R) (g : History) (c : Asked) (result : Result Reply Refusal) → CallLeaves w (record { sent = record { command = c; outcome = result } ∷ []; stopped = None }) new g → Judges g c result new
  one_judged new g c result (judged, inl s) = record { outcome = judged.0; shown = s }
  one_judged new g c result (judged, inr (other, stopped, f)) = let none : ⊥ = cc in absurd none

  something_sent : (c : Asked) (result : Result Reply Refusal) (live : Bool) → is_outcome result ≡ true → obeyed c result live ≡ nothing_sent → ⊥
  something_sent c result live is none = not_empty (record { command = c; outcome = result }) (ap (λ (call : Call). call.sent) (sym (obeyed-outcome c result live is) ∙ none))
    where
      not_empty : (s : Sent) → s ∷ [] ≡ [] → ⊥
      not_empty s e = cc

  judged_after : (between last : R) (g : History) (c : Asked) (result : Result Reply Refusal) (live : Bool) → is_outcome result ≡ true → w.is_clean last → Does w between (obeyed c result live) last
      → w.shows between g ⊎ ((next : History) × w.fails_between between g next) → Judges g c result last
  judged_after between last g c result live is k does (inl s) =
      one_judged last g c result (subst (λ (call : Call). CallLeaves w call last g) (obeyed-outcome c result live is) (does.live k g s))
  judged_after between last g c result live is k does (inr (next, f)) = absurd (something_sent c result live is (does.failed g next f).0)

  settled_by : (h : History) (c : Asked) (key : List ℕ) (stands : Bool) (result : Result Reply Refusal) (last : R) → c.key ≡ Some key → Judges (left_at_stop h c stands) c result last → (result ≡ answer (judge (views_of h) c)) × w.shows last (after h c)
  settled_by h c key stands result last keyed j =
      let s = doubt_settled h c key stands keyed in
      (j.outcome ∙ s.outcome, subst (λ g. w.shows last g) s.history j.shown)

-- SESSIONS

sessions_more : (ls : List Session) (h : History) (session : Session) → AreSessions h ls → AreJudged (after_sessions h ls) session.sent → AreSessions h (ls ++ session ∷ [])
sessions_more [] h session a j = (j, tt)
sessions_more (l ∷ ls) h session a j = (a.0, sessions_more ls (after_session h l) session a.1 j)

after_one_more : (ls : List Session) (h : History) (session : Session) → after_sessions h (ls ++ session ∷ []) ≡ after_session (after_sessions h ls) session
after_one_more [] h session = refl
after_one_more (l ∷ ls) h session = after_one_more ls (after_session h l) session

zip_more : (cs : List (List Call)) (ls : List Session) (calls : List Call) (session : Session) → AllZip IsSessionOf cs ls → IsSessionOf calls session → AllZip IsSessionOf (cs ++ calls ∷ []) (ls ++ session ∷ [])
zip_more [] [] calls session z is = (is, tt)
zip_more [] (l ∷ ls) calls session z is = absurd z
zip_more (c ∷ cs) [] calls session z is = absurd z
zip_more (c ∷ cs) (l ∷ ls) calls session z is = (z.0, zip_more cs ls calls session z.1 is)

abbrev KeepMarks : Type 0
KeepMarks = (h : History) (cs : List Asked) → mark_of (after_all h cs) ≡ mark_of h

-- what any sessions leave of a start
led_by : KeysStandOnce → KeepMarks → (mark : ℕ) (before : List Asked) (calls : List (List Call)) (sessions : List Session) → let start = after_all (Begins mark) before in
    AllZip IsSessionOf calls sessions → AreSessions start sessions → IsAfterPrefixes start calls (after_sessions start sessions)
led_by at_most_once same_mark mark before calls sessions are judged =
    let start = after_all (Begins mark) before in
    let behind = flat_map prefix_of sessions in
    record {
      sessions = sessions;
      are_of = are;
      judged = judged;
      joined = joined sessions start;
      marked = ap mark_of (joined sessions start) ∙ same_mark start behind;
      holds = sessions_hold sessions start judged;
      once = λ account key. joins (λ h. times_under account key h ≤ 1) mark before sessions (at_most_once mark (before ++ behind) account key);
      kept = sessions_keep sessions start judged;
      own = joins OwnKept mark before sessions (each_own mark (before ++ behind));
    }

pub no_session : KeysStandOnce → KeepMarks → NoSessionIsAPrefix
no_session at_most_once same_mark mark before = led_by at_most_once same_mark mark before [] [] tt tt

-- one session more after sessions that led to the history
one_more : KeysStandOnce → KeepMarks → (mark : ℕ) (before : List Asked) (sessions : List (List Call)) (h : History) (calls : List Call) (session : Session) → let start = after_all (Begins mark) before in
    IsAfterPrefixes start sessions h → IsSessionOf calls session → AreJudged h session.sent → IsAfterPrefixes start (sessions ++ calls ∷ []) (after_session h session)
one_more at_most_once same_mark mark before sessions h calls session p is judged =
    let start = after_all (Begins mark) before in
    let all = p.sessions ++ session ∷ [] in
    let so_far : h ≡ after_sessions start p.sessions = p.joined ∙ sym (joined p.sessions start) in
    let ends : after_sessions start all ≡ after_session h session = after_one_more p.sessions start session ∙ ap (λ x. after_session x session) (sym so_far) in
    let are : AreSessions start all = sessions_more p.sessions start session p.judged (subst (λ x. AreJudged x session.sent) so_far judged) in
    subst (λ x. IsAfterPrefixes start (sessions ++ calls ∷ []) x) ends (led_by at_most_once same_mark mark before (sessions ++ calls ∷ []) all (zip_more sessions p.sessions calls session p.are_of is) are)

module _ {R T : Type 0} (w : Showing R) (u : Showing T) where
  pub session_more : KeysStandOnce → KeepMarks → OneSessionMore w u
  session_more at_most_once same_mark mark before opened ended next h sessions calls shows p lead again k =
      let e = session_ends w opened ended h calls shows lead (again.clean k) in
      let start = after_all (Begins mark) before in
      let led : (session : Session) → IsSessionOf calls session → AreJudged h session.sent → u.shows next (after_session h session) → (g : History) × u.shows next g × IsAfterPrefixes start (sessions ++ calls ∷ []) g =
      λ session is judged shown. (after_session h session, shown, one_more at_most_once same_mark mark before sessions h calls session p is judged) in
      elim e.ends [
        | inl s ↦ led (session_of calls NoDoubt) (refl, tt) e.judged (again.shown k (after_session h (session_of calls NoDoubt)) s)
        | inr (c, stops, f) ↦
            elim (again.either k (after_session h (session_of calls (InDoubt c false))) (after_session h (session_of calls (InDoubt c true))) f) [
              | inl s ↦ led (session_of calls (InDoubt c false)) (refl, stops) e.judged s
              | inr s ↦ led (session_of calls (InDoubt c true)) (refl, stops) e.judged s
            ]
      ]

  pub sent_again : DoubtsEndWhenSentAgain w u
  sent_again ended opened between last h c key calls result live keyed fails again lead none does is k =
      by_found (again.either (calls_clean u calls opened between lead (does.clean k)) h (after h c) fails)
    where
      over : (stands : Bool) → u.shows opened (left_at_stop h c stands) → (result ≡ answer (judge (views_of h) c)) × u.shows last (after h c)
      over stands s =
          let g = left_at_stop h c stands in
          settled_by u h c key stands result last keyed
          (judged_after u between last g c result live is k does (sent_nothing u calls between g none (calls_end u calls opened between g s lead (does.clean k))))

      by_found : u.shows opened h ⊎ u.shows opened (after h c) → (result ≡ answer (judge (views_of h) c)) × u.shows last (after h c)
      by_found (inl s) = over false s
      by_found (inr s) = over true s
