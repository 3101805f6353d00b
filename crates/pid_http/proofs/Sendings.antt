-- What the requests of a stream send a registry, from one request to all.
use Rattle.std.proofs.Common.{◌≡◌, ℕ, true, false, Bool, cond, List, [], ◌∷◌, ◌++◌, Option, Some, None, Result, Err, refl, sym, ap, subst, ◌∙◌, inl, inr, append_assoc}
use Rattle.std.proofs.lemmas.List.{append-nil}
use Rattle.pid_service_laws.specs.declared.registry_calls.RegistryCalls.{Ghosts}
use Rattle.pid_service_laws.specs.Calls.{AreNothing, Call, StopsAt, obeyed, sent_in}
use Rattle.pid_service_laws.specs.Sessions.{Sent, after_sent, commands_in}
use Rattle.pid_service_laws.specs.Outcomes.{is_outcome}
use Rattle.pid_moderation.specs.History.{Asked, History}
use Rattle.pid_moderation.specs.Judgement.{after, after_all, answer, judge}
use Rattle.pid_moderation.specs.Views.{Views, views_of}
use Rattle.pid_moderation.specs.declared.command.Reply.{Reply as Outcome}
use Rattle.pid_moderation.specs.declared.refusal.Refusal.{Refusal}
use Rattle.pid_service_laws.specs.Outcomes.{IsMemoryOrStore}
use Rattle.pid_http_stream.specs.Conducts.{AreReplies}
use Rattle.pid_http_stream.specs.Replies.{Answer}
use Rattle.pid_http_stream.specs.Requests.{Request}
use Rattle.pid_http.proofs.Meeting.{history_after}
use Rattle.pid_http.specs.Answering.{RequestMeaning, command_sent, meaning_of}
use Rattle.pid_http.specs.Steps.Handling.{nothing_then}
use Rattle.pid_http.specs.Known.{Known, Live, Between, SessionState, ByCalls}
use Rattle.pid_http.specs.Sending.{AreSomeOf, SendsSome, commands_asked, if_any}
use Rattle.pid_http.specs.Serving.{AreCallsOver, AreUndone, IsFailedAnswer, Refused, AsEver, Short, most_questions, IsMeaningMet, IsMetOver, AnsweredOver, NotAsked, NotDone, InDoubt, serving}

-- ---- calls one behind the other

nothing_in : (calls : List Call) → AreNothing calls → sent_in calls ≡ []
nothing_in [] n = refl
nothing_in (call ∷ calls) n = let rest = nothing_in calls n.1 in λ i. (n.0 i).sent ++ rest i

sent_on : (xs ys : List Call) → sent_in (xs ++ ys) ≡ sent_in xs ++ sent_in ys
sent_on [] ys = refl
sent_on (x ∷ xs) ys = ap (λ (l : List Sent). x.sent ++ l) (sent_on xs ys) ∙ sym (append_assoc x.sent (sent_in xs) (sent_in ys))

commands_on : (xs ys : List Sent) → commands_in (xs ++ ys) ≡ commands_in xs ++ commands_in ys
commands_on [] ys = refl
commands_on (x ∷ xs) ys = ap (λ (l : List Asked). x.command ∷ l) (commands_on xs ys)

both_sent : (xs ys : List Call) → commands_in (sent_in (xs ++ ys)) ≡ commands_in (sent_in xs) ++ commands_in (sent_in ys)
both_sent xs ys = ap commands_in (sent_on xs ys) ∙ commands_on (sent_in xs) (sent_in ys)

pub first_sent : (xs ys : List Call) → AreNothing ys → commands_in (sent_in (xs ++ ys)) ≡ commands_in (sent_in xs)
first_sent xs ys n = both_sent xs ys ∙ ap (λ (l : List Sent). commands_in (sent_in xs) ++ commands_in l) (nothing_in ys n) ∙ append-nil (commands_in (sent_in xs))

after_on : (h : History) (cs ds : List Asked) → after_all h (cs ++ ds) ≡ after_all (after_all h cs) ds
after_on h [] ds = refl
after_on h (c ∷ cs) ds = after_on (after h c) cs ds

pub stops_then : (c : Asked) (xs ys : List Call) → StopsAt c xs → AreNothing ys → StopsAt c (xs ++ ys)
stops_then c [] ys s n = absurd s
stops_then c (x ∷ xs) ys (inl (is, none)) n = inl (is, nothing_then xs ys none n)
stops_then c (x ∷ xs) ys (inr s) n = inr (stops_then c xs ys s n)

stops_after : (c : Asked) (xs ys : List Call) → StopsAt c ys → StopsAt c (xs ++ ys)
stops_after c [] ys s = s
stops_after c (x ∷ xs) ys s = inr (stops_after c xs ys s)

-- ---- some of the commands

none_of : (all : List Asked) → AreSomeOf [] all
none_of [] = refl
none_of (c ∷ all) = inl (none_of all)

some_join : (xs ys cs ds : List Asked) → AreSomeOf xs cs → AreSomeOf ys ds → AreSomeOf (xs ++ ys) (cs ++ ds)
some_join xs ys [] ds p q = subst (λ (l : List Asked). AreSomeOf (l ++ ys) ds) (sym p) q
some_join xs ys (c ∷ cs) ds (inl p) q = inl (some_join xs ys cs ds p q)
some_join xs ys (c ∷ cs) ds (inr (others, e, p)) q = inr (others ++ ys, ap (λ (l : List Asked). l ++ ys) e, some_join others ys cs ds p q)

some_more : (xs cs ds : List Asked) → AreSomeOf xs cs → AreSomeOf xs (cs ++ ds)
some_more xs cs ds p = subst (λ (l : List Asked). AreSomeOf l (cs ++ ds)) (append-nil xs) (some_join xs [] cs ds p (none_of ds))

-- ---- one request

pub live_so : (h : History) (commands sent : List Asked) (calls : List Call) (k : Known) → commands_in (sent_in calls) ≡ sent → AreSomeOf sent commands → k ≡ Live (after_all h sent) → SendsSome h commands calls k
live_so h commands sent calls k e some is = inl (subst (λ (l : List Asked). AreSomeOf l commands) (sym e) some, is ∙ ap (λ (l : List Asked). Live (after_all h l)) (sym e))

pub stopped_so : (h : History) (commands sent : List Asked) (c : Asked) (calls : List Call) (k : Known) → commands_in (sent_in calls) ≡ sent → StopsAt c calls → AreSomeOf (sent ++ c ∷ []) commands
    → k ≡ Between (after_all h sent) (after (after_all h sent) c) → SendsSome h commands calls k
stopped_so h commands sent c calls k e stops some is =
    inr (c, stops, subst (λ (l : List Asked). AreSomeOf (l ++ c ∷ []) commands) (sym e) some, is ∙ ap (λ (l : List Asked). Between (after_all h l) (after (after_all h l) c)) (sym e))

quiet : (h : History) (commands : List Asked) (calls : List Call) (k : Known) → AreNothing calls → k ≡ Live h → SendsSome h commands calls k
quiet h commands calls k nothing is = live_so h commands [] calls k (ap commands_in (nothing_in calls nothing)) (none_of commands) is

-- every judgement is an outcome
abbrev pub AreOutcomes : Type 0
AreOutcomes = (v : Views) (c : Asked) → is_outcome (answer (judge v c)) ≡ true

one_sent : (c : Asked) (r : Result Outcome Refusal) (live : Bool) → is_outcome r ≡ true → commands_in (sent_in (obeyed c r live ∷ [])) ≡ c ∷ []
one_sent c r live e = ap (λ (b : Bool). commands_in (cond b (record { command = c; outcome = r } ∷ []) [] ++ [])) e

over : AreOutcomes → (h : History) (o : Option Asked) (most : ℕ) (calls : List Call) (k : Known) → AreCallsOver h o most calls → k ≡ Live (history_after h o) → SendsSome h (if_any o) calls k
over outcomes h None most calls k asked is = quiet h [] calls k asked.0 is
over outcomes h (Some c) most calls k by is =
    live_so h (c ∷ []) (c ∷ []) calls k (ap (λ (l : List Call). commands_in (sent_in l)) by ∙ one_sent c (answer (judge (views_of h) c)) true (outcomes (views_of h) c)) (inr ([], refl, refl)) is

fault_sends : (c : Asked) (refusal : Refusal) (live : Bool) → IsMemoryOrStore refusal → commands_in (sent_in (obeyed c (Err refusal) live ∷ [])) ≡ []
fault_sends c refusal live (inl e) = ap (λ (r : Refusal). commands_in (sent_in (obeyed c (Err r) live ∷ []))) e
fault_sends c refusal live (inr e) = ap (λ (r : Refusal). commands_in (sent_in (obeyed c (Err r) live ∷ []))) e

fault_stops : (c : Asked) (refusal : Refusal) → IsMemoryOrStore refusal → StopsAt c (obeyed c (Err refusal) false ∷ [])
fault_stops c refusal (inl e) = subst (λ (r : Refusal). StopsAt c (obeyed c (Err r) false ∷ [])) (sym e) (inl (refl, tt))
fault_stops c refusal (inr e) = subst (λ (r : Refusal). StopsAt c (obeyed c (Err r) false ∷ [])) (sym e) (inl (refl, tt))

not_done : (h : History) (o : Option Asked) (refusal : Refusal) (most : ℕ) (calls : List Call) (k : Known) → IsMemoryOrStore refusal → AreUndone o refusal most calls → k ≡ Live h → SendsSome h (if_any o) calls k
not_done h None refusal most calls k fault asked is = quiet h [] calls k asked.0 is
not_done h (Some c) refusal most calls k fault by is =
    live_so h (c ∷ []) [] calls k (ap (λ (l : List Call). commands_in (sent_in l)) by ∙ fault_sends c refusal true fault) (none_of (c ∷ [])) is

in_doubt : (h : History) (c : Asked) (refusal : Refusal) (calls : List Call) (k : Known) → IsMemoryOrStore refusal → calls ≡ obeyed c (Err refusal) false ∷ [] → k ≡ Between h (after h c) → SendsSome h (if_any (Some c)) calls k
in_doubt h c refusal calls k fault by is =
    stopped_so h (c ∷ []) [] c calls k (ap (λ (l : List Call). commands_in (sent_in l)) by ∙ fault_sends c refusal false fault) (subst (StopsAt c) (sym by) (fault_stops c refusal fault)) (inr ([], refl, refl)) is

met_sends : AreOutcomes → (h : History) (meaning : RequestMeaning) (given : Answer) (calls : List Call) (k : Known) → IsMetOver h meaning given calls k → SendsSome h (if_any (command_sent meaning)) calls k
met_sends outcomes h meaning given calls k (AnsweredOver e by is) = over outcomes h (command_sent meaning) (most_questions meaning) calls k by is
met_sends outcomes h meaning given calls k (NotAsked short none is) = quiet h (if_any (command_sent meaning)) calls k (subst AreNothing (sym none) tt) is
met_sends outcomes h meaning given calls k (NotDone refusal fault refused undone is) = not_done h (command_sent meaning) refusal (most_questions meaning) calls k fault undone is
met_sends outcomes h meaning given calls k (InDoubt refusal c fault refused command by is) =
    subst (λ (o : Option Asked). SendsSome h (if_any o) calls k) (sym command) (in_doubt h c refusal calls k fault by is)

-- one that has failed was sent nothing
failed_nothing : (meaning : RequestMeaning) (given : Answer) (calls : List Call) → IsFailedAnswer meaning given calls → AreNothing calls
failed_nothing meaning given calls (Refused refused asked) = asked.0
failed_nothing meaning given calls (AsEver known none) = subst AreNothing (sym none) tt
failed_nothing meaning given calls (Short short none) = subst AreNothing (sym none) tt

-- ---- requests in turn

module _ {R : Type 0} (registry : Ghosts R) where
  pub by_join : (t mid u : SessionState registry) (P Q R : List Call → Type 0) → ((xs ys : List Call) → P xs → Q ys → R (xs ++ ys)) → ByCalls registry t mid P → ByCalls registry mid u Q → ByCalls registry t u R
  by_join t mid u P Q R f p q = record {
    same_session = q.same_session ∙ p.same_session;
    more = p.more ++ q.more;
    joined = q.joined ∙ ap (λ (l : List Call). l ++ q.more) p.joined ∙ append_assoc t.calls p.more q.more;
    holds = f p.more q.more p.holds q.holds;
  }

  pub by_none : (t u : SessionState registry) (P : SessionState registry → List Call → Type 0) → t ≡ u → P t [] → ByCalls registry t u (P u)
  by_none t u P same holds = subst (λ v. ByCalls registry t v (P v)) same (record { same_session = refl; more = []; joined = sym (append-nil t.calls); holds = holds })

  send_on : (h h' : History) (cs ds : List Asked) (xs ys : List Call) (k : Known) → AreSomeOf (commands_in (sent_in xs)) cs → h' ≡ after_sent h (sent_in xs) → SendsSome h' ds ys k → SendsSome h (cs ++ ds) (xs ++ ys) k
  send_on h h' cs ds xs ys k some at (inl (more, is)) =
      live_so h (cs ++ ds) (commands_in (sent_in xs) ++ commands_in (sent_in ys)) (xs ++ ys) k (both_sent xs ys) (some_join (commands_in (sent_in xs)) (commands_in (sent_in ys)) cs ds some more)
      (is ∙ ap (λ (x : History). Live (after_sent x (sent_in ys))) at ∙ ap Live (sym (after_on h (commands_in (sent_in xs)) (commands_in (sent_in ys)))))
  send_on h h' cs ds xs ys k some at (inr (c, stops, more, is)) =
      stopped_so h (cs ++ ds) (commands_in (sent_in xs) ++ commands_in (sent_in ys)) c (xs ++ ys) k (both_sent xs ys) (stops_after c xs ys stops)
      (subst (λ (l : List Asked). AreSomeOf l (cs ++ ds)) (sym (append_assoc (commands_in (sent_in xs)) (commands_in (sent_in ys)) (c ∷ []))) (some_join (commands_in (sent_in xs)) (commands_in (sent_in ys) ++ c ∷ []) cs ds some more))
      (is ∙ ap (λ (x : History). Between (after_sent x (sent_in ys)) (after (after_sent x (sent_in ys)) c)) at
      ∙ ap (λ (x : History). Between x (after x c)) (sym (after_on h (commands_in (sent_in xs)) (commands_in (sent_in ys)))))

  stop_on : (h : History) (cs ds : List Asked) (xs ys : List Call) (c : Asked) (k : Known) → StopsAt c xs → AreSomeOf (commands_in (sent_in xs) ++ c ∷ []) cs → AreNothing ys
      → k ≡ Between (after_sent h (sent_in xs)) (after (after_sent h (sent_in xs)) c) → SendsSome h (cs ++ ds) (xs ++ ys) k
  stop_on h cs ds xs ys c k stops some nothing is =
      stopped_so h (cs ++ ds) (commands_in (sent_in xs)) c (xs ++ ys) k (first_sent xs ys nothing) (stops_then c xs ys stops nothing) (some_more (commands_in (sent_in xs) ++ c ∷ []) cs ds some) is

  -- some calls, and then others: over the history that is shown then, or where it has failed
  pub then_send : (t mid u : SessionState registry) (h : History) (cs ds : List Asked) → ByCalls registry t mid (λ calls. SendsSome h cs calls mid.known)
      → ((next : History) → mid.known ≡ Live next → ByCalls registry mid u (λ calls. SendsSome next ds calls u.known))
      → ((x y : History) → mid.known ≡ Between x y → ByCalls registry mid u (λ calls. AreNothing calls × (u.known ≡ Between x y)))
      → ByCalls registry t u (λ calls. SendsSome h (cs ++ ds) calls u.known)
  then_send t mid u h cs ds first live failed = by_case first.holds
    where
      at : (P : List Call → Type 0) → P first.more → ByCalls registry t mid P
      at P p = record { same_session = first.same_session; more = first.more; joined = first.joined; holds = p }

      by_case : SendsSome h cs first.more mid.known → ByCalls registry t u (λ calls. SendsSome h (cs ++ ds) calls u.known)
      by_case (inl (some, is)) =
          by_join t mid u (λ xs. AreSomeOf (commands_in (sent_in xs)) cs × (after_sent h (sent_in first.more) ≡ after_sent h (sent_in xs))) (λ ys. SendsSome (after_sent h (sent_in first.more)) ds ys u.known)
          (λ calls. SendsSome h (cs ++ ds) calls u.known) (λ xs ys p q. send_on h (after_sent h (sent_in first.more)) cs ds xs ys u.known p.0 p.1 q) (at _ (some, refl)) (live _ is)
      by_case (inr (c, stops, some, is)) =
          let x = after_sent h (sent_in first.more) in
          by_join t mid u (λ xs. StopsAt c xs × AreSomeOf (commands_in (sent_in xs) ++ c ∷ []) cs × (x ≡ after_sent h (sent_in xs))) (λ ys. AreNothing ys × (u.known ≡ Between x (after x c)))
          (λ calls. SendsSome h (cs ++ ds) calls u.known)
          (λ xs ys p q. stop_on h cs ds xs ys c u.known p.0 p.1 q.0 (q.1 ∙ ap (λ (a : History). Between a (after a c)) p.2)) (at _ (stops, some, refl)) (failed x (after x c) is)

  pub met_by : AreOutcomes → (t u : SessionState registry) (h : History) (meaning : RequestMeaning) (given : Answer) → t.known ≡ Live h → ByCalls registry t u (λ calls. IsMeaningMet t.known meaning given calls u.known)
      → ByCalls registry t u (λ calls. SendsSome h (if_any (command_sent meaning)) calls u.known)
  met_by outcomes t u h meaning given live b = record {
    same_session = b.same_session;
    more = b.more;
    joined = b.joined;
    holds = met_sends outcomes h meaning given b.more u.known (subst (λ k. IsMeaningMet k meaning given b.more u.known) live b.holds);
  }

  pub failed_by : (t u : SessionState registry) (x y : History) (meaning : RequestMeaning) (given : Answer) → t.known ≡ Between x y → ByCalls registry t u (λ calls. IsMeaningMet t.known meaning given calls u.known)
      → ByCalls registry t u (λ calls. AreNothing calls × (u.known ≡ Between x y))
  failed_by t u x y meaning given is b = record {
    same_session = b.same_session;
    more = b.more;
    joined = b.joined;
    holds = let m : IsMeaningMet (Between x y) meaning given b.more u.known = subst (λ k. IsMeaningMet k meaning given b.more u.known) is b.holds in (failed_nothing meaning given b.more m.0, m.1);
  }

  -- one that has failed is sent nothing more
  failed_replies : (t u : SessionState registry) (x y : History) (requests : List Request) (bytes : List ℕ) → t.known ≡ Between x y → AreReplies (serving registry) t requests bytes u
      → ByCalls registry t u (λ calls. AreNothing calls × (u.known ≡ Between x y))
  failed_replies t u x y [] bytes is (e, same) = by_none t u (λ v calls. AreNothing calls × (v.known ≡ Between x y)) same (tt, is)
  failed_replies t u x y (request ∷ requests) bytes is (mid, given, later, step, e, rest) =
      let b = failed_by t mid x y (meaning_of request) given is step in
      by_join t mid u _ _ _ (λ xs ys p q. (nothing_then xs ys p.0 q.0, q.1)) b (failed_replies mid u x y requests later b.holds.1 rest)

  -- requests that were answered
  pub replies_send : AreOutcomes → (t u : SessionState registry) (h : History) (requests : List Request) (bytes : List ℕ) → t.known ≡ Live h → AreReplies (serving registry) t requests bytes u
      → ByCalls registry t u (λ calls. SendsSome h (commands_asked requests) calls u.known)
  replies_send outcomes t u h [] bytes live (e, same) = by_none t u (λ v calls. SendsSome h [] calls v.known) same (inl (refl, live))
  replies_send outcomes t u h (request ∷ requests) bytes live (mid, given, later, step, e, rest) =
      then_send t mid u h (if_any (command_sent (meaning_of request))) (commands_asked requests) (met_by outcomes t mid h (meaning_of request) given live step)
      (λ next is. replies_send outcomes mid u next requests later is rest) (λ x y is. failed_replies mid u x y requests later is rest)
