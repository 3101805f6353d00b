-- The moments at which a script was read.
use Rattle.std.proofs.Common.{◌≡◌, ℕ, List, [], ◌∷◌, Option, Some, None}
use Rattle.std.proofs.lemmas.List.Elements.{All-nil, All-push}
use Rattle.std.specs.Prelude.{IfSome}
use Rattle.std.specs.Io.KnownBytes.{Consumes}
use Rattle.pid_ident.specs.Moments.{Moment, AllSince}
use Rattle.pid_ident.specs.Steps.Moments.{IsNoted}
use Rattle.pid_ident.specs.Steps.MomentLaws.{since_none, since_then, since_so}
use Rattle.pid_moderation.specs.History.{History}
use Rattle.pid_service_laws.specs.declared.registry_calls.RegistryCalls.{Ghosts}
use Rattle.pid_script.specs.Calling.{CallsGo}
use Rattle.pid_script.specs.RegistryStates.{OverStanding}
use Rattle.pid_script.specs.Scripts.{passage, IsUpToDate}
use Rattle.pid_script.specs.Steps.Output.{Out}
use Rattle.pid_script.specs.Steps.Progress.{HasAnswered}
use Rattle.pid_script.proofs.Calling.{go_still, go_then}
use Rattle.pid_script.proofs.ReadLemmas.{HasRead, turns_over}

-- at each moment that an account has since then the whole lines were answered
abbrev pub AreAnswered : {R : Type 0} (m : Ghosts R) → R → R → Option (List ℕ) → Option (List ℕ) → Option (List ℕ) → Option (List Moment) → Option (List Moment) → Type 0
AreAnswered m old now start taken come ms ns = OverStanding m old now (λ h. IfSome come (λ text. AllSince (IsUpToDate m h (passage old now start taken) text) ms ns))

-- before the first read
none_so_far : {R : Type 0} (m : Ghosts R) (old : R) (start come : Option (List ℕ)) (h : History) (ms : Option (List Moment)) → IfSome come (λ text. AllSince (IsUpToDate m h (passage old old start start) text) ms ms)
none_so_far m old start None h ms = tt
none_so_far m old start (Some text) h ms = since_none (IsUpToDate m h (passage old old start start) text) ms

pub unread : {R : Type 0} (m : Ghosts R) (old : R) (start come : Option (List ℕ)) (ms : Option (List Moment)) → AreAnswered m old old start start come ms ms
unread m old start come ms = λ honest h stands. none_so_far m old start come h ms

-- at a read of now, with nothing held
answered_now : {R : Type 0} (m : Ghosts R) (old now : R) (start come_now : Option (List ℕ)) (left : Out) (h : History) (text kept front : List ℕ) → Consumes (Some text) come_now front → left.held ≡ [] → HasAnswered m h start old now left kept front → IsUpToDate m h (passage old now start left.taken) text (record { to_come = come_now; taken = left.taken })
answered_now m old now start come_now left h text kept front read none a = record {
  between = now;
  answers = turns_over m h start old now left kept front (Some text) come_now read none a;
  goes_on = go_still m.showing now;
}

-- what holds of the moment that a read notes
noted_so : (P : Moment → Type 0) (come taken : Option (List ℕ)) (ns os : Option (List Moment)) → P (record { to_come = come; taken = taken }) → IsNoted come taken ns os → AllSince P ns os
noted_so P come taken ns None holds noted = tt
noted_so P come taken None (Some now) holds noted = absurd noted
noted_so P come taken (Some first) (Some now) holds noted =
    let m : Moment = record { to_come = come; taken = taken } in
    (m ∷ [], noted, All-push P [] m (All-nil P) holds)

one_more_so : {R : Type 0} (m : Ghosts R) (old now : R) (start come come_now : Option (List ℕ)) (left : Out) (h : History) (kept front : List ℕ) (ms ns os : Option (List Moment)) → Consumes come come_now front → left.held ≡ [] → HasAnswered m h start old now left kept front → IsNoted come_now left.taken ns os
    → IfSome come (λ text. AllSince (IsUpToDate m h (passage old now start left.taken) text) ms ns) → IfSome come (λ text. AllSince (IsUpToDate m h (passage old now start left.taken) text) ms os)
one_more_so m old now start None come_now left h kept front ms ns os read none a noted past = tt
one_more_so m old now start (Some text) come_now left h kept front ms ns os read none a noted past =
    since_then (IsUpToDate m h (passage old now start left.taken) text) ms ns os past
    (noted_so (IsUpToDate m h (passage old now start left.taken) text) come_now left.taken ns os (answered_now m old now start come_now left h text kept front read none a) noted)

-- one more read
pub read_then : {R : Type 0} (m : Ghosts R) (old now : R) (start come come_now : Option (List ℕ)) (left : Out) (kept : List ℕ) (reads reads_now turn : ℕ) (ms ns os : Option (List Moment)) → HasRead m old now start left come come_now kept reads reads_now turn → AreAnswered m old now start left.taken come ms ns → IsNoted come_now left.taken ns os → AreAnswered m old now start left.taken come ms os
read_then m old now start come come_now left kept reads reads_now turn ms ns os r past noted = λ honest h stands.
    one_more_so m old now start come come_now left h kept r.front ms ns os r.consumed r.empty (r.answered honest h stands) noted (past honest h stands)

-- calls that follow a moment
answered_before : {R : Type 0} (m : Ghosts R) (old now next : R) (start taken taken_next : Option (List ℕ)) (h : History) (text : List ℕ) → CallsGo m.showing now next → (k : Moment) → IsUpToDate m h (passage old now start taken) text k → IsUpToDate m h (passage old next start taken_next) text k
answered_before m old now next start taken taken_next h text go k a = record { between = a.between; answers = a.answers; goes_on = go_then m.showing a.between now next a.goes_on go }

all_before : {R : Type 0} (m : Ghosts R) (old now next : R) (start taken taken_next come : Option (List ℕ)) (h : History) (ms ns : Option (List Moment)) → CallsGo m.showing now next → IfSome come (λ text. AllSince (IsUpToDate m h (passage old now start taken) text) ms ns) → IfSome come (λ text. AllSince (IsUpToDate m h (passage old next start taken_next) text) ms ns)
all_before m old now next start taken taken_next None h ms ns go past = tt
all_before m old now next start taken taken_next (Some text) h ms ns go past =
    since_so (IsUpToDate m h (passage old now start taken) text) (IsUpToDate m h (passage old next start taken_next) text) ms ns (answered_before m old now next start taken taken_next h text go) past

-- calls after the reads
pub calls_then : {R : Type 0} (m : Ghosts R) (old now next : R) (start taken taken_next come : Option (List ℕ)) (ms ns : Option (List Moment)) → CallsGo m.showing now next → AreAnswered m old now start taken come ms ns → AreAnswered m old next start taken_next come ms ns
calls_then m old now next start taken taken_next come ms ns go past = λ honest h stands. all_before m old now next start taken taken_next come h ms ns go (past (go.clean honest) h stands)
