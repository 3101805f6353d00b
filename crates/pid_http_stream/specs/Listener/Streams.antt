-- What becomes of a stream that is served, and how many a server was given.
use Rattle.std.specs.Prelude.{◌≡◌, ℕ, ◌+◌, ◌^◌, ◌<◌, Option, Some, IfSome}
use Rattle.pid_file.specs.Writing.{WriterUse}
use Rattle.pid_ident.specs.declared.incoming.Incoming.{Ghosts}
use Rattle.pid_ident.specs.Reads.{ReaderState, reader_at}
use Rattle.pid_http_stream.specs.declared.stream.Served.{Served}

-- what is known of a reader before it was used and after that
pub record ReaderUse : Type 0 where
  pub before : ReaderState
  pub after : ReaderState

abbrev pub use_of_reader : {I W : Type 0} → Ghosts I W → I → I → ReaderUse
use_of_reader reader old new = record {
  before = reader_at reader old;
  after = reader_at reader new;
}

-- What became of the two sides of a stream that was served in at most so many reads, and what the
-- server said of it.
pub record Exchange : Type 0 where
  pub input : ReaderUse
  pub output : WriterUse
  pub turns : ℕ
  pub served : Served

-- the same, put together of these parts
abbrev pub exchange : ReaderUse → WriterUse → ℕ → Served → Exchange
exchange input output turns served = record {
  input = input;
  output = output;
  turns = turns;
  served = served;
}

-- if it counts them, it was given so many more: exact below the greatest count
abbrev pub IsGivenMore : ℕ → Option ℕ → Option ℕ → Type 0
IsGivenMore more old new = IfSome old (λ n. n + more < 2 ^ 64 → new ≡ Some (n + more))
