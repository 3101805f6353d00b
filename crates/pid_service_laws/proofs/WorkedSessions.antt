-- Worked sessions, by computation.
use Rattle.std.proofs.Common.{◌≡◌, ℕ, Bool, true, false, List, [], ◌∷◌, Some, None, Ok, Err, refl}
use Rattle.std.specs.Prelude.{codes}
use Rattle.pid_file.specs.declared.path.Path.TheVariants.{Vendor}
use Rattle.pid_moderation.specs.declared.command.Expected.TheVariants.{Anything}
use Rattle.pid_moderation.specs.declared.command.Proposal.TheVariants.{Name}
use Rattle.pid_moderation.specs.declared.command.Reply.TheVariants.{Done, Numbered}
use Rattle.pid_moderation.specs.declared.rank.Rank.TheVariants.{Contributor}
use Rattle.pid_moderation.specs.declared.refusal.Refusal.TheVariants.{Failed, Memory, NoSubmission, Store}
use Rattle.pid_moderation.specs.History.{Asked, Deed, Ranks, Submits, Approves, new_history}
use Rattle.pid_moderation.specs.Keys.{times_under}
use Rattle.pid_moderation.specs.Views.{items_of}
use Rattle.pid_service_laws.specs.Calls.{Call, session_of, nothing_sent, obeyed, ran, sent_in}
use Rattle.pid_service_laws.specs.Sessions.{NoDoubt, InDoubt, Session, AreSessions, after_sessions, prefix_of}

abbrev pub root : List ℕ
root = codes "root"

abbrev pub alice : List ℕ
alice = codes "alice"

abbrev pub by : List ℕ → Deed → Asked
by account deed = record { account = account; key = None; deed = deed }

abbrev pub welcome : Asked
welcome = by root (Ranks alice Contributor)

-- a submission under a key
abbrev pub submission : Asked
submission = record { account = alice; key = Some (codes "k1"); deed = Submits (Vendor 32902) (Name (codes "Intel")) [] }

abbrev pub approval : Asked
approval = by root (Approves 1 Anything)

-- A FIRST SESSION THAT ENDS IN DOUBT

-- alice is made an account; she asks something; her approval of a submission that is not there is refused; her submission meets
-- want of memory, and counts as not sent; it is sent again, and the store fails; what comes then is not obeyed
abbrev pub first_calls : List Call
first_calls =
    obeyed welcome (Ok Done) true
    ∷ nothing_sent
    ∷ obeyed (by alice (Approves 1 Anything)) (Err NoSubmission) true
    ∷ obeyed submission (Err Memory) true
    ∷ obeyed submission (Err Store) false
    ∷ obeyed approval (Err Failed) false
    ∷ []

first_sent : sent_in first_calls ≡ record { command = welcome; outcome = Ok Done } ∷ record { command = by alice (Approves 1 Anything); outcome = Err NoSubmission } ∷ []
first_sent = refl

-- a fault that left the registry live sent nothing, and is no doubt
nothing_in_doubt : obeyed submission (Err Memory) true ≡ nothing_sent
nothing_in_doubt = refl

in_doubt : obeyed submission (Err Store) false ≡ record { sent = []; stopped = Some submission }
in_doubt = refl

abbrev pub first_session : Bool → Session
first_session stands = session_of first_calls (InDoubt submission stands)

doubt_stands : prefix_of (first_session true) ≡ welcome ∷ by alice (Approves 1 Anything) ∷ submission ∷ []
doubt_stands = refl

doubt_falls : prefix_of (first_session false) ≡ welcome ∷ by alice (Approves 1 Anything) ∷ []
doubt_falls = refl

-- A SECOND SESSION

-- the submission is sent again, and then approved: a list of three, of which the last one met want of memory
abbrev pub second_calls : List Call
second_calls = ran (submission ∷ approval ∷ welcome ∷ []) (Ok (Numbered 1) ∷ Ok Done ∷ []) (Some Memory) true ∷ []

abbrev pub second_session : Session
second_session = session_of second_calls NoDoubt

abbrev pub sessions : Bool → List Session
sessions stands = first_session stands ∷ second_session ∷ []

-- the outcomes are those of the judgement, whichever way the doubt went
judged_where_it_stands : AreSessions new_history (sessions true)
judged_where_it_stands = ((refl, (refl, tt)), ((refl, (refl, tt)), tt))

judged_where_it_falls : AreSessions new_history (sessions false)
judged_where_it_falls = ((refl, (refl, tt)), ((refl, (refl, tt)), tt))

-- and the registry is the same
same_history : after_sessions new_history (sessions true) ≡ after_sessions new_history (sessions false)
same_history = refl

once : times_under alice (codes "k1") (after_sessions new_history (sessions true)) ≡ 1
once = refl

items : items_of (after_sessions new_history (sessions true)) ≡ (codes "PC/8086", codes "Intel") ∷ []
items = refl
