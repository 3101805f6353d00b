-- What is known of a transaction.
use Rattle.std.specs.Prelude.{ℕ}
use Rattle.sqlite.specs.State.{State}

pub record Batches (S : Type 0) : Type 1 where
  -- what it shows of its database
  pub state : S → State
  -- the connection that it is on
  pub reference : S → ℕ
