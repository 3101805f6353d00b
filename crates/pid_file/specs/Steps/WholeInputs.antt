-- Steps of WholeInputs.
use Rattle.std.specs.Prelude.{◌≡◌, ℕ, ◌+◌, ◌<◌, ◌≤◌, List, [], length, Option}
use Rattle.std.specs.Io.KnownBytes.{Consumes, IsAtEnd, Keeps}
use Rattle.pid_file.specs.declared.whole_input.InputEnd.{InputEnd}
use Rattle.pid_file.specs.declared.whole_input.InputEnd.TheVariants.{ReadFault, TooLong}
use Rattle.pid_file.specs.declared.whole_input.SkipEnd.{SkipEnd}
use Rattle.pid_file.specs.declared.whole_input.SkipEnd.TheVariants as skips

-- the end of an input that could not be skipped, as that of one that is cut
abbrev pub as_input_end : {F : Type 0} → SkipEnd → InputEnd F
as_input_end skips.ReadFault = ReadFault
as_input_end skips.TooLong = TooLong

-- some bytes of an input, which may have so many more
pub record IsPiece (room : ℕ) (old new : Option (List ℕ)) (piece : List ℕ) : Type 0 where
  pub consumed : Consumes old new piece
  pub some : 0 < length piece
  pub short : length piece ≤ room

-- no byte is left
pub record IsNoPiece (old new : Option (List ℕ)) : Type 0 where
  pub consumed : Consumes old new []
  pub at_end : IsAtEnd new

-- why there is no piece: one byte more than may come was read, or none
abbrev pub FailsPiece : ℕ → Option (List ℕ) → Option (List ℕ) → SkipEnd → Type 0
FailsPiece room old new skips.TooLong = (front : List ℕ) × Consumes old new front
    × (length front ≡ room + 1)
FailsPiece room old new skips.ReadFault = Keeps old new
