-- Streams that a server was given, one after another, and whether it is live.
use Rattle.std.proofs.Common.{◌≡◌, ℕ, ◌+◌, ◌<◌, Bool, true, false, Option, None, Some, ap, subst, ◌∙◌, arith}
use Rattle.std.specs.Prelude.{◌↔◌}
use Rattle.pid_http_stream.specs.Listener.Streams.{IsGivenMore}

pub given_none : (given : Option ℕ) → IsGivenMore 0 given given
given_none None = tt
given_none (Some n) = λ few. ap Some (omega arith)

pub given_more : (m : ℕ) (a b c : Option ℕ) → IsGivenMore m a b → IsGivenMore 1 b c → IsGivenMore (m + 1) a c
given_more m None b c p q = tt
given_more m (Some n) b c p q = λ few. subst (λ (x : Option ℕ). IsGivenMore 1 x c) (p (omega (arith, few))) q (omega (arith, few)) ∙ ap Some (omega arith)

pub never_live : (live : Bool) → live ≡ false → (live ≡ true ↔ 0 < 0) × (live ≡ false)
never_live true e = absurd cc
never_live false e = ((λ live. absurd cc, λ less. absurd (omega arith)), e)

pub was_live : (n : ℕ) (before after : Bool) → before ≡ true → after ≡ false → (before ≡ true ↔ 0 < n + 1) × (after ≡ false)
was_live n before after live ended = ((λ b. omega arith, λ less. live), ended)
