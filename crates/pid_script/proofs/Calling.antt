-- Calls in turn, and the commands that they send.
use Rattle.std.proofs.Common.{◌≡◌, ◌≤◌, ◌+◌, ℕ, Bool, true, false, cond, List, [], ◌∷◌, ◌++◌, Result, refl, sym, ap, subst, ◌∙◌, append_assoc, inl, inr, arith}
use Rattle.std.proofs.lemmas.List.{append-nil, length-append}
use Rattle.pid_moderation.specs.declared.command.Reply.{Reply}
use Rattle.pid_moderation.specs.declared.refusal.Refusal.{Refusal}
use Rattle.pid_moderation.specs.History.{Asked}
use Rattle.pid_service_laws.specs.Calls.{Call, nothing_sent, obeyed, sent_in}
use Rattle.pid_service_laws.specs.Sessions.{Sent, commands_in}
use Rattle.pid_service_laws.specs.Outcomes.{is_outcome}
use Rattle.pid_service_laws.specs.Registries.{Showing, CallsLead, Does}
use Rattle.pid_script.specs.Calling.{CallsGo, CallsSend, CallsSendEither}

lead_on : {R : Type 0} (w : Showing R) (a b c : R) (xs ys : List Call) → CallsLead w a xs b → CallsLead w b ys c → CallsLead w a (xs ++ ys) c
lead_on w a b c [] ys p q = subst (λ r. CallsLead w r ys c) p q
lead_on w a b c (x ∷ xs) ys p q = (p.0, p.1, lead_on w p.0 b c xs ys p.2 q)

sent_on : (xs ys : List Call) → sent_in (xs ++ ys) ≡ sent_in xs ++ sent_in ys
sent_on [] ys = refl
sent_on (x ∷ xs) ys = ap (λ (l : List Sent). x.sent ++ l) (sent_on xs ys) ∙ sym (append_assoc x.sent (sent_in xs) (sent_in ys))

commands_on : (xs ys : List Sent) → commands_in (xs ++ ys) ≡ commands_in xs ++ commands_in ys
commands_on [] ys = refl
commands_on (x ∷ xs) ys = ap (λ (l : List Asked). x.command ∷ l) (commands_on xs ys)

-- CALLS

pub go_still : {R : Type 0} (w : Showing R) (a : R) → CallsGo w a a
go_still w a = record { clean = λ clean. clean; calls = []; lead = refl }

pub go_one : {R : Type 0} (w : Showing R) (a b : R) (call : Call) → Does w a call b → CallsGo w a b
go_one w a b call does = record { clean = does.clean; calls = call ∷ []; lead = (b, does, refl) }

pub go_then : {R : Type 0} (w : Showing R) (a b c : R) → CallsGo w a b → CallsGo w b c → CallsGo w a c
go_then w a b c p q = record { clean = λ clean. p.clean (q.clean clean); calls = p.calls ++ q.calls; lead = lead_on w a b c p.calls q.calls p.lead q.lead }

-- WITH THEIR COMMANDS

pub send_still : {R : Type 0} (w : Showing R) (a : R) (n : ℕ) → CallsSend w a [] n a
send_still w a n = record { calls = []; lead = refl; few = omega arith; sent = refl }

pub send_then : {R : Type 0} (w : Showing R) (a b c : R) (cs ds : List Asked) (k n : ℕ) → CallsSend w a cs k b → CallsSend w b ds n c → CallsSend w a (cs ++ ds) (k + n) c
send_then w a b c cs ds k n p q = record {
  calls = p.calls ++ q.calls;
  lead = lead_on w a b c p.calls q.calls p.lead q.lead;
  few = omega (arith, length-append p.calls q.calls, p.few, q.few);
  sent = ap (λ (l : List Asked). l ++ ds) p.sent ∙ ap (λ (l : List Asked). commands_in (sent_in p.calls) ++ l) q.sent ∙ sym (commands_on (sent_in p.calls) (sent_in q.calls)) ∙ ap commands_in (sym (sent_on p.calls q.calls));
}

pub send_either : {R : Type 0} (w : Showing R) (a b c : R) (cs ds es : List Asked) (k n : ℕ) → CallsSend w a cs k b → CallsSendEither w b ds es n c → CallsSendEither w a (cs ++ ds) (cs ++ es) (k + n) c
send_either w a b c cs ds es k n p (inl q) = inl (send_then w a b c cs ds k n p q)
send_either w a b c cs ds es k n p (inr q) = inr (send_then w a b c cs es k n p q)

send_one : {R : Type 0} (w : Showing R) (a b : R) (call : Call) (cs : List Asked) (n : ℕ) → 1 ≤ n → Does w a call b → cs ≡ commands_in call.sent → CallsSend w a cs n b
send_one w a b call cs n one does is = record { calls = call ∷ []; lead = (b, does, refl); few = one; sent = is ∙ ap commands_in (sym (append-nil call.sent)) }

pub send_none : {R : Type 0} (w : Showing R) (a b : R) (n : ℕ) → 1 ≤ n → Does w a nothing_sent b → CallsSend w a [] n b
send_none w a b n one does = send_one w a b nothing_sent [] n one does refl

one_sent : (s : Sent) (outcome : Bool) → outcome ≡ true → s.command ∷ [] ≡ commands_in (cond outcome (s ∷ []) [])
one_sent s true is = refl
one_sent s false is = absurd cc

-- a command that was answered by an outcome
pub send_obeyed : {R : Type 0} (w : Showing R) (a b : R) (c : Asked) (answer : Result Reply Refusal) (live : Bool) (n : ℕ) → 1 ≤ n → is_outcome answer ≡ true → Does w a (obeyed c answer live) b → CallsSend w a (c ∷ []) n b
send_obeyed w a b c answer live n one outcome does = send_one w a b (obeyed c answer live) (c ∷ []) n one does (one_sent (record { command = c; outcome = answer }) (is_outcome answer) outcome)

send_by : {R : Type 0} (w : Showing R) (a b : R) (s : Sent) (outcome : Bool) (call : Call) (n : ℕ) → 1 ≤ n → call.sent ≡ cond outcome (s ∷ []) [] → Does w a call b → CallsSendEither w a [] (s.command ∷ []) n b
send_by w a b s true call n one is does = inr (send_one w a b call (s.command ∷ []) n one does (ap commands_in (sym is)))
send_by w a b s false call n one is does = inl (send_one w a b call [] n one does (ap commands_in (sym is)))

-- a command that was answered by none
pub send_refused : {R : Type 0} (w : Showing R) (a b : R) (c : Asked) (answer : Result Reply Refusal) (live : Bool) (n : ℕ) → 1 ≤ n → is_outcome answer ≡ false → Does w a (obeyed c answer live) b → CallsSend w a [] n b
send_refused w a b c answer live n one none does = send_one w a b (obeyed c answer live) [] n one does (ap (λ o. commands_in (cond o (record { command = c; outcome = answer } ∷ []) [])) (sym none))

-- or in any way
pub send_asked : {R : Type 0} (w : Showing R) (a b : R) (c : Asked) (answer : Result Reply Refusal) (live : Bool) (n : ℕ) → 1 ≤ n → Does w a (obeyed c answer live) b → CallsSendEither w a [] (c ∷ []) n b
send_asked w a b c answer live n one does = send_by w a b (record { command = c; outcome = answer }) (is_outcome answer) (obeyed c answer live) n one refl does
