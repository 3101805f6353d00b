-- What may be left of a stream after its last request: empty lines (RFC 9112, section 2.2), the
-- last of which may be cut.
use Rattle.std.specs.Prelude.{◌≡◌, ℕ, ◌≤◌, ◌⊎◌, List, ◌∷◌, ◌++◌, length, All}
use Rattle.httparse.specs.Ascii.{carriage_return, line_feed}
use Rattle.pid_http_stream.specs.declared.limits.TheConstants.{LONGEST_HEAD}

-- each byte is CR or LF, and no CR comes right after another
pub record AreLineEnds (bytes : List ℕ) : Type 0 where
  pub ends : All (λ b. (b ≡ carriage_return) ⊎ (b ≡ line_feed)) bytes
  pub paired : (front behind : List ℕ) → ¬
      (bytes ≡ front ++ carriage_return ∷ carriage_return ∷ behind)

-- nothing but line ends, and no more of them than a head may have
pub record IsLeftover (stream : List ℕ) : Type 0 where
  pub lines : AreLineEnds stream
  pub short : length stream ≤ LONGEST_HEAD
