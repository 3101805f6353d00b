-- Sessions joined in order.
use Rattle.std.proofs.Common.{◌≡◌, ◌⊎◌, ℕ, suc, ◌+◌, true, false, List, [], ◌∷◌, ◌++◌, length, take, refl, sym, ap, subst, ◌∙◌, inl, inr}
use Rattle.std.specs.List.{flat_map}
use Rattle.std.proofs.Math.Seq.{take-append-add}
use Rattle.pid_moderation.specs.History.{Asked, Accepted, Begins, History}
use Rattle.pid_moderation.specs.Judgement.{after, after_all}
use Rattle.pid_service_laws.specs.Acknowledged.{IsAcceptedIn, IsIn, HoldsAll, HoldsSessions}
use Rattle.pid_service_laws.specs.KeptReplies.{IsKept, KeepsSent, KeepsSessions}
use Rattle.pid_service_laws.specs.Sessions.{Sent, Doubt, NoDoubt, InDoubt, Session, AreSessions, after_session, after_sessions, after_sent, commands_in, doubted, prefix_of, standing}
use Rattle.pid_service_laws.proofs.Holding.{sent_hold, holding_stays, only_sent, only_sent_at_all}
use Rattle.pid_service_laws.proofs.Keeping.{sent_kept, keeping_stays, each_own}

-- THE PREFIX

-- what of a doubt stands
abbrev pub stood : Doubt → List Asked
stood doubt = take (standing doubt) (doubted doubt)

length-commands : (sent : List Sent) → length (commands_in sent) ≡ length sent
length-commands [] = refl
length-commands (s ∷ sent) = ap suc (length-commands sent)

-- a session's prefix is its commands with an outcome, and what of its doubt stands
pub prefix_is : (sent : List Sent) (doubt : Doubt) → take (length sent + standing doubt) (commands_in sent ++ doubted doubt) ≡ commands_in sent ++ stood doubt
prefix_is sent doubt =
    ap (λ n. take (n + standing doubt) (commands_in sent ++ doubted doubt)) (sym (length-commands sent))
    ∙ take-append-add (commands_in sent) (doubted doubt) (standing doubt)

none_more : (cs : List Asked) → cs ++ [] ≡ cs
none_more [] = refl
none_more (c ∷ cs) = ap (λ x. c ∷ x) (none_more cs)

pub prefix_parts : (sent : List Sent) (doubt : Doubt) → let session : Session = record { sent = sent; doubt = doubt } in
    (prefix_of session ≡ commands_in sent) ⊎ ((c : Asked) × (doubt ≡ InDoubt c true) × (prefix_of session ≡ commands_in sent ++ c ∷ []))
prefix_parts sent NoDoubt = inl (prefix_is sent NoDoubt ∙ none_more (commands_in sent))
prefix_parts sent (InDoubt c true) = inr (c, refl, prefix_is sent (InDoubt c true))
prefix_parts sent (InDoubt c false) = inl (prefix_is sent (InDoubt c false) ∙ none_more (commands_in sent))

-- HISTORIES

pub after_more : (xs : List Asked) (h : History) (ys : List Asked) → after_all h (xs ++ ys) ≡ after_all (after_all h xs) ys
after_more [] h ys = refl
after_more (x ∷ xs) h ys = after_more xs (after h x) ys

pub after_parts : (h : History) (session : Session) → after_session h session ≡ after_all (after_sent h session.sent) (stood session.doubt)
after_parts h session = ap (after_all h) (prefix_is session.sent session.doubt) ∙ after_more (commands_in session.sent) h (stood session.doubt)

pub joined : (sessions : List Session) (h : History) → after_sessions h sessions ≡ after_all h (flat_map prefix_of sessions)
joined [] h = refl
joined (session ∷ sessions) h = joined sessions (after_session h session) ∙ sym (after_more (prefix_of session) h (flat_map prefix_of sessions))

-- what holds after the commands of the session, and stays, holds after it and after the sessions behind it
behind : (P : History → Type 0) → ((cs : List Asked) (h : History) → P h → P (after_all h cs)) → (h : History) (session : Session) (sessions : List Session) → P (after_sent h session.sent) → P (after_sessions (after_session h session) sessions)
behind P stays h session sessions now =
    subst P (sym (joined sessions (after_session h session)))
    (stays (flat_map prefix_of sessions) (after_session h session)
    (subst P (sym (after_parts h session)) (stays (stood session.doubt) (after_sent h session.sent) now)))

pub sessions_hold : (sessions : List Session) (h : History) → AreSessions h sessions → HoldsSessions (after_sessions h sessions) sessions
sessions_hold [] h j = tt
sessions_hold (session ∷ sessions) h j = (
  behind (λ g. HoldsAll g session.sent) (holding_stays session.sent) h session sessions (sent_hold session.sent h j.0),
  sessions_hold sessions (after_session h session) j.1,
)

pub sessions_keep : (sessions : List Session) (h : History) → AreSessions h sessions → KeepsSessions (after_sessions h sessions) sessions
sessions_keep [] h j = tt
sessions_keep (session ∷ sessions) h j = (
  behind (λ g. KeepsSent g session.sent) (keeping_stays session.sent) h session sessions (sent_kept session.sent h j.0),
  sessions_keep sessions (after_session h session) j.1,
)

pub sessions_only : (mark : ℕ) (sessions : List Session) (e : Accepted) → IsAcceptedIn e (after_sessions (Begins mark) sessions) → IsIn e.asked (flat_map prefix_of sessions)
sessions_only mark sessions e s =
    let cs = flat_map prefix_of sessions in
    only_sent_at_all mark cs e (only_sent cs (Begins mark) e (subst (λ h. IsAcceptedIn e h) (joined sessions (Begins mark)) s))

pub sessions_own : (mark : ℕ) (sessions : List Session) (e : Accepted) → IsAcceptedIn e (after_sessions (Begins mark) sessions) → IsKept (after_sessions (Begins mark) sessions) e.asked.account e.asked.key e.reply
sessions_own mark sessions e s =
    subst (λ h. IsKept h e.asked.account e.asked.key e.reply) (sym (joined sessions (Begins mark)))
    (each_own mark (flat_map prefix_of sessions) e (subst (λ h. IsAcceptedIn e h) (joined sessions (Begins mark)) s))

-- what holds after every list of commands holds after commands and then sessions
pub joins : (P : History → Type 0) (mark : ℕ) (before : List Asked) (sessions : List Session) → P (after_all (Begins mark) (before ++ flat_map prefix_of sessions)) → P (after_sessions (after_all (Begins mark) before) sessions)
joins P mark before sessions all = subst P (after_more before (Begins mark) (flat_map prefix_of sessions) ∙ sym (joined sessions (after_all (Begins mark) before))) all
