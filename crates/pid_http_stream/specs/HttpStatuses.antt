-- Which statuses a response with a body may have (RFC 9110, section 6.4.1).
use Rattle.std.specs.Prelude.{ℕ, Bool, not, ◌&&◌, ◌==◌, nat_le}

-- not 1xx, 204 (No Content) and 304 (Not Modified): no body follows their heads, whatever length
-- these state (RFC 9112, section 6.3)
abbrev pub allows_body : ℕ → Bool
allows_body status = nat_le 200 status && not (status == 204) && not (status == 304)
