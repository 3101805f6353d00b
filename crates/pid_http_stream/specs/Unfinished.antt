-- What may have come while more is waited for: a request that has not come whole, and nothing that
-- is refused. A head comes in lines that end in LF (RFC 9112, sections 2.1 and 2.2).
use Rattle.std.specs.Prelude.{◌≡◌, ◌≢◌, ℕ, ◌≤◌, ◌⊎◌, List, ◌++◌, length, All}
use Rattle.httparse.specs.Ascii.{line_feed}
use Rattle.httparse.specs.Grammar.{HasNoRequest as HasNoHeadYet, MayBecomeRequest as MayBecomeHead}
use Rattle.pid_http_stream.specs.Endings.{IsShort}
use Rattle.pid_http_stream.specs.declared.limits.TheConstants.{LONGEST_HEAD}

-- the lines that have ended can go on to a head of the grammar: a prefix that has them can, and no
-- line ends after it
pub record CanBeHead (came : List ℕ) : Type 0 where
  pub front : List ℕ
  pub line : List ℕ
  pub is : came ≡ front ++ line
  pub may : MayBecomeHead front
  pub unended : All (λ b. b ≢ line_feed) line

-- no head has come whole, neither a good one nor one that is refused; what has come can be a
-- head's, and is no longer than one may be
pub record IsHeadUnfinished (came : List ℕ) : Type 0 where
  pub none : HasNoHeadYet came
  pub begins : CanBeHead came
  pub short : length came ≤ LONGEST_HEAD

-- a request that has not come whole: its head has not, or that is good and its body has not
abbrev pub IsUnfinished : List ℕ → Type 0
IsUnfinished came = IsHeadUnfinished came ⊎ IsShort came
