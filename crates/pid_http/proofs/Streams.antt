-- What a whole stream sends a registry, by each way in which it may end.
use Rattle.std.proofs.Common.{◌≡◌, ℕ, List, [], ◌∷◌, ◌++◌, Option, Some, None, refl, sym, ap, subst, ◌∙◌, inl, inr, append_assoc}
use Rattle.std.proofs.lemmas.List.{append-nil}
use Rattle.std.specs.Io.KnownBytes.{Consumes}
use Rattle.pid_service_laws.specs.declared.registry_calls.RegistryCalls.{Ghosts}
use Rattle.pid_service_laws.specs.Calls.{AreNothing, Call, sent_in}
use Rattle.pid_service_laws.specs.Sessions.{commands_in}
use Rattle.pid_moderation.specs.History.{Asked, History}
use Rattle.pid_http_stream.specs.Conducts.{StandsOver}
use Rattle.pid_http_stream.specs.Laws.{RequestsStay}
use Rattle.pid_http_stream.specs.Replies.{Answer, answer_after}
use Rattle.pid_http_stream.specs.Requests.{Request, IsRequest}
use Rattle.pid_http_stream.specs.Serving.{AnswersAll, AnswersFront, AnswersThen, ReadsThen, IsCutInReply, IsServed, IsWrittenNext, ReplyNext, HeadNext, RefusalNext, Outside, RestsAfter, RunsOut, WaitsOver}
use Rattle.pid_http_stream.specs.Streams.{Ending, clean, closed, faulty, Fronts, Splits}
use Rattle.pid_http_stream.specs.declared.refusal.StreamFault.TheVariants.{BadHead, Encoding, BodyTooLong, BodyShort}
use Rattle.pid_http_stream.specs.declared.reply_head.ReplyHead.{ReplyHead}
use Rattle.pid_http_stream.specs.declared.stream.StreamEnd.{StreamEnd}
use Rattle.pid_http_stream.specs.declared.stream.StreamEnd.TheVariants.{Clean, Closed, Refused, ReadFault, WriteFault, StoreFault, Memory, TurnsSpent}
use Rattle.pid_http.specs.Answering.{RequestMeaning, command_sent, meaning_of}
use Rattle.pid_http.specs.Known.{Known, Live, Between, Down, SessionState, ByCalls}
use Rattle.pid_http.specs.Sending.{SendsOf, SendsSome, StandInFront, commands_asked, if_any}
use Rattle.pid_http.specs.Serving.{IsMeaningMet, IsPromised, serving}
use Rattle.pid_http.proofs.Sendings.{AreOutcomes, by_join, by_none, failed_by, first_sent, live_so, met_by, replies_send, stopped_so, stops_then, then_send}

-- ---- requests at the front

in_front : (stream : List ℕ) (rs : List Request) (rest : List ℕ) → Fronts stream rs rest → StandInFront stream rs
in_front stream [] rest e = tt
in_front stream (r ∷ rs) rest (behind, is, stays, later) = (behind, is, in_front behind rs rest later)

next_in_front : (stream : List ℕ) (rs : List Request) (rest : List ℕ) (r : Request) (behind : List ℕ) → Fronts stream rs rest → IsRequest rest r behind → StandInFront stream (rs ++ r ∷ [])
next_in_front stream [] rest r behind e is = (behind, subst (λ (l : List ℕ). IsRequest l r behind) (sym e) is, tt)
next_in_front stream (q ∷ rs) rest r behind (middle, was, stays, later) is = (middle, was, next_in_front middle rs rest r behind later is)

split_in_front : (stream : List ℕ) (rs : List Request) (ending : Ending) → Splits stream rs ending → StandInFront stream rs
split_in_front stream [] ending s = tt
split_in_front stream (r ∷ rs) ending (behind, is, inl (shut, none, ends)) = (behind, is, subst (StandInFront behind) (sym none) tt)
split_in_front stream (r ∷ rs) ending (behind, is, inr (stays, later)) = (behind, is, split_in_front behind rs ending later)

still_in_front : RequestsStay → (front more : List ℕ) (rs : List Request) → StandInFront front rs → StandInFront (front ++ more) rs
still_in_front stay front more [] s = tt
still_in_front stay front more (r ∷ rs) (behind, is, later) = (behind ++ more, stay front more r behind is, still_in_front stay behind more rs later)

read_in_front : RequestsStay → (stream read : List ℕ) (left : Option (List ℕ)) (rs : List Request) → Consumes (Some stream) left read → StandInFront read rs → StandInFront stream rs
read_in_front stay stream read None rs consumed s = absurd consumed
read_in_front stay stream read (Some more) rs consumed s = subst (λ (l : List ℕ). StandInFront l rs) (sym consumed) (still_in_front stay read more rs s)

commands_snoc : (rs : List Request) (r : Request) → commands_asked rs ++ if_any (command_sent (meaning_of r)) ≡ commands_asked (rs ++ r ∷ [])
commands_snoc [] r = sym (append-nil (if_any (command_sent (meaning_of r))))
commands_snoc (q ∷ rs) r =
    append_assoc (if_any (command_sent (meaning_of q))) (commands_asked rs) (if_any (command_sent (meaning_of r))) ∙ ap (λ (l : List Asked). if_any (command_sent (meaning_of q)) ++ l) (commands_snoc rs r)

-- ---- what comes behind the requests that were answered

quiet_on : (h : History) (cs : List Asked) (xs ys : List Call) (k next : Known) → SendsSome h cs xs k → AreNothing ys → k ≡ next → SendsSome h cs (xs ++ ys) next
quiet_on h cs xs ys k next (inl (some, is)) nothing same = live_so h cs (commands_in (sent_in xs)) (xs ++ ys) next (first_sent xs ys nothing) some (sym same ∙ is)
quiet_on h cs xs ys k next (inr (c, stops, some, is)) nothing same = stopped_so h cs (commands_in (sent_in xs)) c (xs ++ ys) next (first_sent xs ys nothing) (stops_then c xs ys stops nothing) some (sym same ∙ is)

promised_so : (k : Known) (meaning : RequestMeaning) (head : ReplyHead) (content_length : ℕ) (calls : List Call) (next : Known) → IsPromised k meaning head content_length calls next → AreNothing calls × (k ≡ next)
promised_so (Live h) meaning head content_length calls next (export, text, asked, same) = (asked.0, sym same)
promised_so (Between x y) meaning head content_length calls next promised = absurd promised
promised_so Down meaning head content_length calls next promised = absurd promised

module _ {R : Type 0} (registry : Ghosts R) where
  same_still : (t u : SessionState registry) → t ≡ u → ByCalls registry t u (λ calls. AreNothing calls × (t.known ≡ u.known))
  same_still t u same = by_none registry t u (λ v calls. AreNothing calls × (t.known ≡ v.known)) same (tt, refl)

  still : (t : SessionState registry) (came : List ℕ) (u : SessionState registry) → StandsOver (serving registry) t came u → ByCalls registry t u (λ calls. AreNothing calls × (t.known ≡ u.known))
  still t came u (inl same) = same_still t u same
  still t came u (inr (head, behind, has, b)) = record { same_session = b.same_session; more = b.more; joined = b.joined; holds = (b.holds.0.0, b.holds.1) }

  rests_still : (ending : Ending) (IsRest : List ℕ → Type 0) (t u : SessionState registry) → RestsAfter (serving registry) ending IsRest t u → ByCalls registry t u (λ calls. AreNothing calls × (t.known ≡ u.known))
  rests_still clean IsRest t u r = same_still t u r
  rests_still closed IsRest t u r = same_still t u r
  rests_still (faulty BadHead) IsRest t u r = same_still t u r
  rests_still (faulty Encoding) IsRest t u r = same_still t u r
  rests_still (faulty BodyTooLong) IsRest t u r = same_still t u r
  rests_still (faulty BodyShort) IsRest t u (rest, is, stands) = still t rest u stands

  then_quiet : (t mid u : SessionState registry) (h : History) (cs : List Asked) → ByCalls registry t mid (λ calls. SendsSome h cs calls mid.known) → ByCalls registry mid u (λ calls. AreNothing calls × (mid.known ≡ u.known))
      → ByCalls registry t u (λ calls. SendsSome h cs calls u.known)
  then_quiet t mid u h cs first next =
      by_join registry t mid u (λ xs. SendsSome h cs xs mid.known) (λ ys. AreNothing ys × (mid.known ≡ u.known)) (λ calls. SendsSome h cs calls u.known) (λ xs ys p q. quiet_on h cs xs ys mid.known u.known p q.0 q.1) first next

  then_request : AreOutcomes → (t mid u : SessionState registry) (h : History) (rs : List Request) (r : Request) (given : Answer) → ByCalls registry t mid (λ calls. SendsSome h (commands_asked rs) calls mid.known)
      → ByCalls registry mid u (λ calls. IsMeaningMet mid.known (meaning_of r) given calls u.known) → ByCalls registry t u (λ calls. SendsSome h (commands_asked (rs ++ r ∷ [])) calls u.known)
  then_request outcomes t mid u h rs r given first step =
      subst (λ (l : List Asked). ByCalls registry t u (λ calls. SendsSome h l calls u.known)) (commands_snoc rs r)
      (then_send registry t mid u h (commands_asked rs) (if_any (command_sent (meaning_of r))) first (λ next is. met_by registry outcomes mid u next (meaning_of r) given is step) (λ x y is. failed_by registry mid u x y (meaning_of r) given is step))

  -- the whole stream was answered
  all_send : AreOutcomes → (h : History) (o : Outside (SessionState registry)) (stream : List ℕ) (ending : Ending) (tail : List ℕ) (count : ℕ) → o.handler.known ≡ Live h → AnswersAll (serving registry) o stream ending tail count
      → SendsOf registry h o.handler o.handler_after stream
  all_send outcomes h o stream ending tail count live a = record {
    requests = a.requests;
    stand = split_in_front stream a.requests ending a.splits;
    sends = then_quiet o.handler a.last o.handler_after h (commands_asked a.requests) (replies_send registry outcomes o.handler a.last h a.requests a.replies live a.answered)
        (rests_still ending _ a.last o.handler_after a.rests);
  }

  -- a front of it was, and nothing more was sent
  front_quiet : AreOutcomes → (h : History) (t mid u : SessionState registry) (stream rest : List ℕ) (taken taken_after : Option (List ℕ)) (count : ℕ) → t.known ≡ Live h
      → AnswersFront (serving registry) (record { handler = t; handler_after = mid; taken = taken; taken_after = taken_after }) stream rest count → ByCalls registry mid u (λ calls. AreNothing calls × (mid.known ≡ u.known))
      → SendsOf registry h t u stream
  front_quiet outcomes h t mid u stream rest taken taken_after count live f next = record {
    requests = f.requests;
    stand = in_front stream f.requests rest f.fronts;
    sends = then_quiet t mid u h (commands_asked f.requests) (replies_send registry outcomes t mid h f.requests f.replies live f.answered) next;
  }

  -- and then one request more
  front_then : AreOutcomes → (h : History) (t mid u : SessionState registry) (stream rest : List ℕ) (taken taken_after : Option (List ℕ)) (count : ℕ) (r : Request) (behind : List ℕ) (given : Answer) → t.known ≡ Live h
      → AnswersFront (serving registry) (record { handler = t; handler_after = mid; taken = taken; taken_after = taken_after }) stream rest count → IsRequest rest r behind
      → ByCalls registry mid u (λ calls. IsMeaningMet mid.known (meaning_of r) given calls u.known) → SendsOf registry h t u stream
  front_then outcomes h t mid u stream rest taken taken_after count r behind given live f is step = record {
    requests = f.requests ++ r ∷ [];
    stand = next_in_front stream f.requests rest r behind f.fronts is;
    sends = then_request outcomes t mid u h f.requests r given (replies_send registry outcomes t mid h f.requests f.replies live f.answered) step;
  }

  stopped_sends : AreOutcomes → RequestsStay → (h : History) (o : Outside (SessionState registry)) (stream : List ℕ) (left : Option (List ℕ)) (count : ℕ) → o.handler.known ≡ Live h → ReadsThen (serving registry) o stream left count (WaitsOver (serving registry))
      → SendsOf registry h o.handler o.handler_after stream
  stopped_sends outcomes stay h o stream left count live (read, consumed, s) =
      let f = front_quiet outcomes h o.handler s.mid o.handler_after read s.rest o.taken s.taken count live s.before (still s.mid s.rest o.handler_after s.next.0.0) in
      record { requests = f.requests; stand = read_in_front stay stream read left f.requests consumed f.stand; sends = f.sends }

  lacking_sends : AreOutcomes → RequestsStay → (h : History) (o : Outside (SessionState registry)) (stream : List ℕ) (left : Option (List ℕ)) (count : ℕ) → o.handler.known ≡ Live h → ReadsThen (serving registry) o stream left count (RunsOut (serving registry))
      → SendsOf registry h o.handler o.handler_after stream
  lacking_sends outcomes stay h o stream left count live (read, consumed, s) =
      let f = by_case s.next.0 in
      record { requests = f.requests; stand = read_in_front stay stream read left f.requests consumed f.stand; sends = f.sends }
    where
      stood : StandsOver (serving registry) s.mid s.rest o.handler_after → SendsOf registry h o.handler o.handler_after read
      stood stands = front_quiet outcomes h o.handler s.mid o.handler_after read s.rest o.taken s.taken count live s.before (still s.mid s.rest o.handler_after stands)

      by_case : RunsOut (serving registry) s.mid s.rest o.handler_after → SendsOf registry h o.handler o.handler_after read
      by_case (inl (stands, waits)) = stood stands
      by_case (inr (request, behind, is, inl stands)) = stood stands
      by_case (inr (request, behind, is, inr b)) =
          front_then outcomes h o.handler s.mid o.handler_after read s.rest o.taken s.taken count request behind b.holds.0 live s.before is
          (record { same_session = b.same_session; more = b.more; joined = b.joined; holds = b.holds.1 })

  broken_sends : AreOutcomes → (h : History) (o : Outside (SessionState registry)) (stream : List ℕ) (count : ℕ) → o.handler.known ≡ Live h → AnswersThen (serving registry) o stream count (IsCutInReply (serving registry)) → SendsOf registry h o.handler o.handler_after stream
  broken_sends outcomes h o stream count live s = by_case s.next.1
    where
      by_case : IsWrittenNext (serving registry) s.mid s.rest s.next.0 o.handler_after → SendsOf registry h o.handler o.handler_after stream
      by_case (ReplyNext request behind given is step e) = front_then outcomes h o.handler s.mid o.handler_after stream s.rest o.taken s.taken count request behind given live s.before is step
      by_case (HeadNext request behind head content_length is b e) =
          front_quiet outcomes h o.handler s.mid o.handler_after stream s.rest o.taken s.taken count live s.before
          (record { same_session = b.same_session; more = b.more; joined = b.joined; holds = promised_so s.mid.known (meaning_of request) head content_length b.more o.handler_after.known b.holds })
      by_case (RefusalNext fault has e rests) =
          front_quiet outcomes h o.handler s.mid o.handler_after stream s.rest o.taken s.taken count live s.before (rests_still (faulty fault) _ s.mid o.handler_after rests)

  -- whichever way it ended
  pub served_sends : AreOutcomes → RequestsStay → (o : Outside (SessionState registry)) (h : History) (stream : List ℕ) (left : Option (List ℕ)) (end : StreamEnd) (count : ℕ) → o.handler.known ≡ Live h
      → IsServed (serving registry) o stream left end count → SendsOf registry h o.handler o.handler_after stream
  served_sends outcomes stay o h stream left Clean count live s = all_send outcomes h o stream clean [] count live s
  served_sends outcomes stay o h stream left Closed count live s = all_send outcomes h o stream closed [] count live s
  served_sends outcomes stay o h stream left (Refused fault) count live (answered, s, e) = all_send outcomes h o stream (faulty fault) _ answered live s
  served_sends outcomes stay o h stream left ReadFault count live s = stopped_sends outcomes stay h o stream left count live s
  served_sends outcomes stay o h stream left TurnsSpent count live s = stopped_sends outcomes stay h o stream left count live s
  served_sends outcomes stay o h stream left Memory count live s = lacking_sends outcomes stay h o stream left count live s
  served_sends outcomes stay o h stream left WriteFault count live s = broken_sends outcomes h o stream count live s
  served_sends outcomes stay o h stream left StoreFault count live s =
      front_then outcomes h o.handler s.mid o.handler_after stream s.rest o.taken s.taken count s.next.0 s.next.1 (answer_after s.next.3.head s.next.3.content_length s.next.3.body) live s.before s.next.2 s.next.3.answered
