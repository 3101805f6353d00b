-- Calls of a handler one after another.
use Rattle.std.proofs.Common.{ℕ, List, [], Option, Some, Result, Ok, Err, inl, inr}
use Rattle.std.specs.Io.KnownBytes.{IsAtEnd}
use Rattle.pid_http_stream.specs.Conducts.{Conduct}
use Rattle.pid_http_stream.specs.Handling.{IsHandled}
use Rattle.pid_http_stream.specs.Leading.{Leads}
use Rattle.pid_http_stream.specs.Requests.{Request}
use Rattle.pid_http_stream.specs.declared.handler.HttpReply.{HttpReply}

pub stays : {H V : Type 0} {is_good : H → Type 0} {stands : H → V → Type 0} (a : H) (P : V → V → Type 0) → ((v : V) → P v v) → Leads is_good stands a a P
stays a P p = record { good = λ h. h; leads = λ h v is. (v, is, p v) }

pub turned : {H V : Type 0} {is_good : H → Type 0} {stands : H → V → Type 0} (a b : H) (P Q : V → V → Type 0) → ((v w : V) → P v w → Q v w) → Leads is_good stands a b P → Leads is_good stands a b Q
turned a b P Q f l = record { good = l.good; leads = λ h v is. let x = l.leads h v is in (x.0, x.1, f v x.0 x.2) }

pub joined : {H V : Type 0} {is_good : H → Type 0} {stands : H → V → Type 0} (a b c : H) (P Q R : V → V → Type 0) → ((u v w : V) → P u v → Q v w → R u w) → Leads is_good stands a b P → Leads is_good stands b c Q → Leads is_good stands a c R
joined a b c P Q R f p q = record {
  good = λ h. p.good (q.good h);
  leads = λ h u is. let x = p.leads (q.good h) u is in let y = q.leads h x.0 x.1 in (y.0, y.1, f u x.0 y.0 x.2 y.2);
}

-- what was known before besides
pub beside : {H V : Type 0} {is_good : H → Type 0} {stands : H → V → Type 0} (a b : H) (P Q R : V → V → Type 0) → ((u v w : V) → P u v → Q u w → R u v) → Leads is_good stands a b P → Leads is_good stands a b Q → Leads is_good stands a b R
beside a b P Q R f p q = record { good = p.good; leads = λ h u is. let x = p.leads h u is in let y = q.leads h u is in (x.0, x.1, f u x.0 y.0 x.2 y.2) }

-- the body was read to its end before
pub asked_left : {H E : Type 0} (conduct : Conduct H) (a b : H) (request : Request) (result : Result HttpReply E) (left : Option (List ℕ)) → IsAtEnd left → IsHandled conduct a request result (Some []) b → IsHandled conduct a request result left b
asked_left conduct a b request (Ok reply) left end is = is
asked_left conduct a b request (Err e) left end (inl stands) = inl stands
asked_left conduct a b request (Err e) left end (inr (at, leaves)) = inr (end, leaves)
