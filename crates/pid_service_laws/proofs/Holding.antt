-- Every acknowledged command stands in the history, and nothing stands there that was not sent.
use Rattle.std.proofs.Common.{◌≡◌, ◌⊎◌, ℕ, Bool, true, false, cond, List, [], ◌∷◌, Option, Some, None, Result, Ok, Err, refl, sym, ap, ◌∙◌, inl, inr}
use Rattle.std.specs.Prelude.{◌&&◌}
use Rattle.std.specs.Str.{bytes_eq}
use Rattle.std.proofs.lemmas.Slice.Eq.{bytes_eq-Decides}
use Rattle.pid_moderation.specs.declared.command.Reply.{Reply}
use Rattle.pid_moderation.specs.declared.refusal.Refusal.{Refusal}
use Rattle.pid_moderation.specs.FactsOfViews.{kept_in}
use Rattle.pid_moderation.specs.History.{Asked, Accepted, Begins, More, History}
use Rattle.pid_moderation.specs.Judgement.{Outcome, Refused, Repeated, Accepts, judge, answer, added, after, after_all}
use Rattle.pid_moderation.specs.Views.{views_of, kept_of, receipted}
use Rattle.pid_service_laws.specs.Acknowledged.{IsAcceptedIn, IsIn, HoldsReply, HoldsOutcome, HoldsAll}
use Rattle.pid_service_laws.specs.Sessions.{Sent, AreJudged, after_sent, commands_in}
use Rattle.pid_service_laws.proofs.Judging.{entry, old_key}
use Rattle.pid_service_laws.proofs.Staying.{stay}

-- what is kept is the reply of a command that stands there
record KeptBy (h : History) (account key : List ℕ) (reply : Reply) : Type 0 where
  pub entry : Accepted
  pub stands : IsAcceptedIn entry h
  pub account_is : entry.asked.account ≡ account
  pub key_is : entry.asked.key ≡ Some key
  pub reply_is : entry.reply ≡ reply

later : (e : Accepted) (h : History) (account key : List ℕ) (reply : Reply) → KeptBy h account key reply → KeptBy (More e h) account key reply
later e h account key reply k = record { entry = k.entry; stands = inr k.stands; account_is = k.account_is; key_is = k.key_is; reply_is = k.reply_is }

kept_here : (e : Accepted) (h : History) (a k key : List ℕ) (reply : Reply) (b d : Bool) → bytes_eq a e.asked.account ≡ b → bytes_eq k key ≡ d → e.asked.key ≡ Some key → cond (b && d) (Some e.reply) (kept_of a k h) ≡ Some reply → (kept_of a k h ≡ Some reply → KeptBy h a k reply) → KeptBy (More e h) a k reply
kept_here e h a k key reply true true p q is h2 rest = record {
  entry = e;
  stands = inl refl;
  account_is = sym ((bytes_eq-Decides a e.asked.account).0 p);
  key_is = is ∙ ap Some (sym ((bytes_eq-Decides k key).0 q));
  reply_is = cc;
}
kept_here e h a k key reply true false p q is h2 rest = later e h a k reply (rest h2)
kept_here e h a k key reply false d p q is h2 rest = later e h a k reply (rest h2)

kept_at : (e : Accepted) (h : History) (a k : List ℕ) (reply : Reply) (o : Option (List ℕ)) → e.asked.key ≡ o → receipted a k e.asked.account o e.reply (kept_of a k h) ≡ Some reply → (kept_of a k h ≡ Some reply → KeptBy h a k reply) → KeptBy (More e h) a k reply
kept_at e h a k reply None is h2 rest = later e h a k reply (rest h2)
kept_at e h a k reply (Some key) is h2 rest = kept_here e h a k key reply (bytes_eq a e.asked.account) (bytes_eq k key) refl refl is h2 rest

kept_by : (h : History) (a k : List ℕ) (reply : Reply) → kept_of a k h ≡ Some reply → KeptBy h a k reply
kept_by (Begins mark) a k reply is = absurd cc
kept_by (More e h) a k reply is = kept_at e h a k reply e.asked.key refl is (kept_by h a k reply)

repeated_holds : (h : History) (c : Asked) (reply : Reply) (o : Option (List ℕ)) → c.key ≡ o → kept_in (views_of h) c.account o ≡ Some reply → HoldsReply h c reply
repeated_holds h c reply None is k = absurd cc
repeated_holds h c reply (Some key) is k = let b = kept_by h c.account key reply k in record { entry = b.entry; stands = b.stands; replied = b.reply_is; is_for = inr (key, b.account_is, b.key_is, is) }

same_reply : (r reply : Reply) → answer (Repeated r) ≡ Ok reply → Some r ≡ Some reply
same_reply r reply a = let e : r ≡ reply = cc in ap Some e

answered_holds : (h : History) (c : Asked) (reply : Reply) (o : Outcome) → judge (views_of h) c ≡ o → answer o ≡ Ok reply → HoldsReply (added h c o) c reply
answered_holds h c reply (Refused e) is a = absurd cc
answered_holds h c reply (Repeated r) is a = repeated_holds h c reply c.key refl (old_key h c r is ∙ same_reply r reply a)
answered_holds h c reply (Accepts r) is a = record { entry = entry c r; stands = inl refl; replied = cc; is_for = inl refl }

outcome_later : (h : History) (e : Accepted) (c : Asked) (o : Result Reply Refusal) → HoldsOutcome h c o → HoldsOutcome (More e h) c o
outcome_later h e c (Ok reply) k = record { entry = k.entry; stands = inr k.stands; replied = k.replied; is_for = k.is_for }
outcome_later h e c (Err refusal) k = tt

all_later : (h : History) (e : Accepted) (sent : List Sent) → HoldsAll h sent → HoldsAll (More e h) sent
all_later h e [] k = tt
all_later h e (s ∷ sent) k = (outcome_later h e s.command s.outcome k.0, all_later h e sent k.1)

outcome_holds : (h : History) (c : Asked) (o : Result Reply Refusal) → o ≡ answer (judge (views_of h) c) → HoldsOutcome (after h c) c o
outcome_holds h c (Ok reply) is = answered_holds h c reply (judge (views_of h) c) refl (sym is)
outcome_holds h c (Err refusal) is = tt

pub sent_hold : (sent : List Sent) (h : History) → AreJudged h sent → HoldsAll (after_sent h sent) sent
sent_hold [] h j = tt
sent_hold (s ∷ sent) h j = (
  stay (λ g. HoldsOutcome g s.command s.outcome) (λ g c reply new k. outcome_later g (entry c reply) s.command s.outcome k) (commands_in sent) (after h s.command) (outcome_holds h s.command s.outcome j.0),
  sent_hold sent (after h s.command) j.1,
)

pub holding_stays : (sent : List Sent) (cs : List Asked) (h : History) → HoldsAll h sent → HoldsAll (after_all h cs) sent
holding_stays sent cs h k = stay (λ g. HoldsAll g sent) (λ g c reply new j. all_later g (entry c reply) sent j) cs h k

-- NOTHING ELSE

one_only : (h : History) (c : Asked) (o : Outcome) (e : Accepted) → IsAcceptedIn e (added h c o) → IsAcceptedIn e h ⊎ (e.asked ≡ c)
one_only h c (Refused r) e s = inl s
one_only h c (Repeated reply) e s = inl s
one_only h c (Accepts reply) e (inl is) = inr (ap (λ (x : Accepted). x.asked) is)
one_only h c (Accepts reply) e (inr s) = inl s

before_or_here : (h : History) (c : Asked) (cs : List Asked) (e : Accepted) → IsAcceptedIn e h ⊎ (e.asked ≡ c) → IsAcceptedIn e h ⊎ IsIn e.asked (c ∷ cs)
before_or_here h c cs e (inl s) = inl s
before_or_here h c cs e (inr is) = inr (inl is)

here_or_later : (h : History) (c : Asked) (cs : List Asked) (e : Accepted) → IsAcceptedIn e (after h c) ⊎ IsIn e.asked cs → IsAcceptedIn e h ⊎ IsIn e.asked (c ∷ cs)
here_or_later h c cs e (inl s) = before_or_here h c cs e (one_only h c (judge (views_of h) c) e s)
here_or_later h c cs e (inr i) = inr (inr i)

pub only_sent : (cs : List Asked) (h : History) (e : Accepted) → IsAcceptedIn e (after_all h cs) → IsAcceptedIn e h ⊎ IsIn e.asked cs
only_sent [] h e s = inl s
only_sent (c ∷ cs) h e s = here_or_later h c cs e (only_sent cs (after h c) e s)

pub only_sent_at_all : (mark : ℕ) (cs : List Asked) (e : Accepted) → IsAcceptedIn e (Begins mark) ⊎ IsIn e.asked cs → IsIn e.asked cs
only_sent_at_all mark cs e (inl s) = absurd s
only_sent_at_all mark cs e (inr i) = i
