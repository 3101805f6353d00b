-- The head of a request with which a stream begins, by the grammar of RFC 9112, sections 2 to 5, as
-- `httparse` keeps it. The two limits are choices of this project.
use Rattle.std.specs.Prelude.{ℕ, ◌≤◌, List, length}
use Rattle.httparse.specs.Grammar.{RequestHead, ReadsRequest, print_request}
use Rattle.pid_http_stream.specs.declared.limits.TheConstants.{MOST_FIELDS, LONGEST_HEAD}

-- the stream is this head, with the empty lines before it, and then the rest
pub record HasHead (stream : List ℕ) (head : RequestHead) (rest : List ℕ) : Type 0 where
  pub reads : ReadsRequest stream head rest
  pub few : length head.fields ≤ MOST_FIELDS
  pub short : length (print_request head) ≤ LONGEST_HEAD

-- the stream begins with no head
abbrev pub HasNoHead : List ℕ → Type 0
HasNoHead stream = (head : RequestHead) (rest : List ℕ) → ¬ (HasHead stream head rest)
