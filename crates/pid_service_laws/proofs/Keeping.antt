-- Every reply under a key is the one that is kept there.
use Rattle.std.proofs.Common.{◌≡◌, ℕ, Bool, true, false, cond, List, [], ◌∷◌, Option, Some, None, Result, Ok, Err, refl, sym, ap, subst, ◌∙◌, inl, inr}
use Rattle.std.specs.Prelude.{◌&&◌}
use Rattle.std.specs.Str.{bytes_eq}
use Rattle.std.proofs.lemmas.Slice.Eq.{bytes_eq-Decides}
use Rattle.pid_moderation.specs.declared.command.Reply.{Reply}
use Rattle.pid_moderation.specs.declared.refusal.Refusal.{Refusal}
use Rattle.pid_moderation.specs.FactsOfViews.{kept_in}
use Rattle.pid_moderation.specs.History.{Deed, Asked, Accepted, Begins, More, History}
use Rattle.pid_moderation.specs.Judgement.{Outcome, Refused, Repeated, Accepts, judge, answer, added, after, after_all}
use Rattle.pid_moderation.specs.Views.{views_of, kept_of, receipted}
use Rattle.pid_service_laws.specs.Acknowledged.{IsAcceptedIn}
use Rattle.pid_service_laws.specs.KeptReplies.{IsKept, KeepsOutcome, KeepsSent}
use Rattle.pid_service_laws.specs.Sessions.{Sent, AreJudged, after_sent, commands_in}
use Rattle.pid_moderation.proofs.Knowing.{same_text}
use Rattle.pid_service_laws.proofs.Judging.{asks, entry, old_key}
use Rattle.pid_service_laws.proofs.Staying.{stay}

pub own_kept : (h : History) (account key : List ℕ) (deed : Deed) (reply : Reply) → kept_in (views_of (More (entry (asks account (Some key) deed) reply) h)) account (Some key) ≡ Some reply
own_kept h account key deed reply = rw (same_text account, same_text key) refl

not_that : (b d : Bool) (old new : Reply) (kept : Option Reply) → kept ≡ Some old → (b ≡ true → d ≡ true → kept ≡ None) → cond (b && d) (Some new) kept ≡ Some old
not_that true true old new kept e clash = let n = clash refl refl in absurd cc
not_that true false old new kept e clash = e
not_that false d old new kept e clash = e

kept_step : (h : History) (a k account : List ℕ) (key : Option (List ℕ)) (old reply : Reply) → kept_in (views_of h) account key ≡ None → kept_of a k h ≡ Some old → receipted a k account key reply (kept_of a k h) ≡ Some old
kept_step h a k account None old reply new e = e
kept_step h a k account (Some key) old reply new e = not_that (bytes_eq a account) (bytes_eq k key) old reply (kept_of a k h) e (λ p q. let pa : a ≡ account = (bytes_eq-Decides a account).0 p in let pk : k ≡ key = (bytes_eq-Decides k key).0 q in (λ i. kept_of (pa i) (pk i) h) ∙ new)

reply_later : (h : History) (c : Asked) (reply : Reply) (account : List ℕ) (key : Option (List ℕ)) (old : Reply) → kept_in (views_of h) c.account c.key ≡ None → IsKept h account key old → IsKept (More (entry c reply) h) account key old
reply_later h c reply account None old new k = tt
reply_later h c reply account (Some key) old new k = kept_step h account key c.account c.key old reply new k

kept_later : (h : History) (c : Asked) (reply : Reply) (account : List ℕ) (key : Option (List ℕ)) (o : Result Reply Refusal) → kept_in (views_of h) c.account c.key ≡ None → KeepsOutcome h account key o → KeepsOutcome (More (entry c reply) h) account key o
kept_later h c reply account key (Err refusal) new k = tt
kept_later h c reply account key (Ok old) new k = reply_later h c reply account key old new k

kept_now : (h : History) (account : List ℕ) (key : Option (List ℕ)) (deed : Deed) (r : Result Reply Refusal) (o : Outcome) → judge (views_of h) (asks account key deed) ≡ o → r ≡ answer o → KeepsOutcome (added h (asks account key deed) o) account key r
kept_now h account key deed (Err refusal) o is a = tt
kept_now h account None deed (Ok reply) o is a = tt
kept_now h account (Some key) deed (Ok reply) (Refused e) is a = absurd cc
kept_now h account (Some key) deed (Ok reply) (Repeated r) is a = let e : r ≡ reply = cc in old_key h (asks account (Some key) deed) r is ∙ ap Some e
kept_now h account (Some key) deed (Ok reply) (Accepts r) is a = let e : r ≡ reply = cc in own_kept h account key deed r ∙ ap Some e

pub sent_kept : (sent : List Sent) (h : History) → AreJudged h sent → KeepsSent (after_sent h sent) sent
sent_kept [] h j = tt
sent_kept (s ∷ sent) h j = (
  stay (λ g. KeepsOutcome g s.command.account s.command.key s.outcome) (λ g c reply new k. kept_later g c reply s.command.account s.command.key s.outcome new k) (commands_in sent) (after h s.command)
      (kept_now h s.command.account s.command.key s.command.deed s.outcome (judge (views_of h) s.command) refl j.0),
  sent_kept sent (after h s.command) j.1,
)

kept_all : (h : History) (c : Asked) (reply : Reply) (sent : List Sent) → kept_in (views_of h) c.account c.key ≡ None → KeepsSent h sent → KeepsSent (More (entry c reply) h) sent
kept_all h c reply [] new k = tt
kept_all h c reply (s ∷ sent) new k = (kept_later h c reply s.command.account s.command.key s.outcome new k.0, kept_all h c reply sent new k.1)

pub keeping_stays : (sent : List Sent) (cs : List Asked) (h : History) → KeepsSent h sent → KeepsSent (after_all h cs) sent
keeping_stays sent cs h k = stay (λ g. KeepsSent g sent) (λ g c reply new j. kept_all g c reply sent new j) cs h k

-- THE COMMAND'S OWN REPLY

abbrev pub OwnKept : History → Type 0
OwnKept h = (e : Accepted) → IsAcceptedIn e h → IsKept h e.asked.account e.asked.key e.reply

own_reply : (h : History) (account : List ℕ) (key : Option (List ℕ)) (deed : Deed) (reply : Reply) → IsKept (More (entry (asks account key deed) reply) h) account key reply
own_reply h account None deed reply = tt
own_reply h account (Some key) deed reply = own_kept h account key deed reply

own_stays : (h : History) (c : Asked) (reply : Reply) → kept_in (views_of h) c.account c.key ≡ None → OwnKept h → OwnKept (More (entry c reply) h)
own_stays h c reply new old e (inl is) = subst (λ (x : Accepted). IsKept (More (entry c reply) h) x.asked.account x.asked.key x.reply) (sym is) (own_reply h c.account c.key c.deed reply)
own_stays h c reply new old e (inr s) = reply_later h c reply e.asked.account e.asked.key e.reply new (old e s)

pub each_own : (mark : ℕ) (cs : List Asked) (e : Accepted) → IsAcceptedIn e (after_all (Begins mark) cs) → IsKept (after_all (Begins mark) cs) e.asked.account e.asked.key e.reply
each_own mark cs = stay OwnKept own_stays cs (Begins mark) (λ e s. absurd s)
