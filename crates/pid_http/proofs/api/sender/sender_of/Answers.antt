use Rattle.std.proofs.Common.{◌≡◌, ℕ, Bool, List, sym, ap, ◌∙◌, Some, None}
use Rattle.pid_ident.specs.Words.{is_account, is_key}
use Rattle.pid_http.specs.Api.Senders.{sender}
use Rattle.pid_http.proofs.OfApi.Senders.{many_accounts, many_keys, no_account, no_key, nobody, bad_account, bad_key, no_key_sent, key_sent}
use Rattle.pid_http.proofs.api.sender.sender_of.Goals as goal

-- what the test of the text says of its bytes
tested : (test : List ℕ → Bool) {text bytes : List ℕ} {result answer : Bool} → text ≡ bytes → result ≡ test text → result ≡ answer → test bytes ≡ answer
tested test same e is = ap test (sym same) ∙ sym e ∙ is

pub returns-then-count_named-gt1 : goal.returns-then-count_named-gt1
unfolding sender
returns-then-count_named-gt1 c = λ request is. many_accounts _ _ (rw (c.count_named.ensures request is) at c.if-count_named-gt1.true)

pub returns-then-count_named-gt1-2 : goal.returns-then-count_named-gt1-2
unfolding sender
returns-then-count_named-gt1-2 c = λ request is. many_keys _ _ (rw (c.count_named-2.ensures request is) at c.if-count_named-gt1-2.true)

pub returns-in_err-first_named : goal.returns-in_err-first_named
unfolding sender
returns-in_err-first_named c = λ request is. rw c.from_residual.ensures (nobody _ _ (sym (c.in_err-first_named.ensures request is)))

pub returns-in_err-account : goal.returns-in_err-account
unfolding sender
returns-in_err-account c = λ request is. rw c.from_residual-in_err-account.ensures (bad_account _ _ _ (sym (c.in_ok-first_named.ensures request is)) (no_account _ c.in_err-account.ensures))

pub returns-then-not-is_account : goal.returns-then-not-is_account
unfolding sender
returns-then-not-is_account c = λ request is. bad_account _ _ _ (sym (c.in_ok-first_named.ensures request is)) (tested is_account c.in_ok-account.ensures.0 c.is_account.ensures c.if-not-is_account.true)

pub returns-in_default : goal.returns-in_default
unfolding sender
returns-in_default c = λ request is.
    no_key_sent _ _ _ (rw (c.count_named.ensures request is) at c.if-count_named-gt1.false) (sym (c.in_ok-first_named.ensures request is))
    (tested is_account c.in_ok-account.ensures.0 c.is_account.ensures c.if-not-is_account.false) (sym (c.in_default.ensures request is))
    ∙ (λ i. Some (record { account = sym c.in_ok-account.ensures.0 i; key = None }))

pub returns-in_err-key : goal.returns-in_err-key
unfolding sender
returns-in_err-key c = λ request is. rw c.from_residual-in_err-key.ensures (bad_key _ _ _ (sym (c.in-Some.ensures request is)) (no_key _ c.in_err-key.ensures))

pub returns-then-not-is_key : goal.returns-then-not-is_key
unfolding sender
returns-then-not-is_key c = λ request is. bad_key _ _ _ (sym (c.in-Some.ensures request is)) (tested is_key c.in_ok-key.ensures.0 c.is_key.ensures c.if-not-is_key.true)

pub returns : goal.returns
unfolding sender
returns c = λ request is.
    key_sent _ _ _ _ (rw (c.count_named.ensures request is) at c.if-count_named-gt1.false) (rw (c.count_named-2.ensures request is) at c.if-count_named-gt1-2.false)
    (sym (c.in_ok-first_named.ensures request is)) (tested is_account c.in_ok-account.ensures.0 c.is_account.ensures c.if-not-is_account.false)
    (sym (c.in-Some.ensures request is)) (tested is_key c.in_ok-key.ensures.0 c.is_key.ensures c.if-not-is_key.false)
    ∙ (λ i. Some (record { account = sym c.in_ok-account.ensures.0 i; key = Some (sym c.in_ok-key.ensures.0 i) }))
