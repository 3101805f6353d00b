-- A reader of a request's body, and what reads leave of it.
use Rattle.std.specs.Prelude.{◌≡◌, ℕ, zero, suc, ◌+◌, ◌<◌, ◌⊎◌, List, [], ◌∷◌, ◌++◌, length}
use Rattle.std.specs.Prelude.{Option, Some, None, IfSome, IsSome, Result, IfOk}
use Rattle.std.specs.Io.KnownBytes.{Consumes, IsAtEnd}
use Rattle.pid_file.specs.declared.io.ReadFault.{ReadFault}
use Rattle.pid_file.specs.declared.io.ReadFault.TheVariants.{Device}
use Rattle.pid_file.specs.Steps.InputCalls.{StaysKept}
use Rattle.pid_file.specs.declared.io.Input as inputs
use Rattle.pid_ident.specs.declared.incoming.Incoming.{Ghosts}
use Rattle.pid_http_stream.specs.Moments.{Moment, AllSince}
use Rattle.pid_http_stream.specs.Reads.{ReaderState, reader_at, AreReads}
use Rattle.pid_http_stream.specs.declared.body_input.BodyFault.{BodyFault}
use Rattle.pid_http_stream.specs.declared.body_input.BodyFault.TheVariants as faults

-- the first n bytes, with zeros for those that are missing: a body that is short never comes to its
-- end, for its reader fails where they would be
abbrev pub padded : ℕ → List ℕ → List ℕ
padded zero bytes = []
padded (suc n) [] = 0 ∷ padded n []
padded (suc n) (b ∷ bytes) = b ∷ padded n bytes

-- the reader of a body has a fault of its own for each of its reasons
abbrev pub kept_fault : Option BodyFault → Option ReadFault
kept_fault None = None
kept_fault (Some fault) = Some Device

-- a reader at some time, and how often it may still be read
pub record Turns : Type 0 where
  pub reader : ReaderState
  pub left : ℕ

abbrev pub turns_at : {I W : Type 0} → Ghosts I W → I → ℕ → Turns
turns_at ghosts reader left = record { reader = reader_at ghosts reader; left = left }

-- turns are used up by reads, one for each, of which the last ones, so many, may be idle
pub record SpendsTurns (idle : ℕ) (a b : Turns) : Type 0 where
  pub made : ℕ
  pub spent : b.left + made ≡ a.left
  pub reads : AreReads made idle a.reader b.reader

-- the reader of a body: what came with the head, how many bytes are wanted, its fault, the reader
-- under it with its turns, and what the writer of the replies had taken
pub record BodyState : Type 0 where
  pub held : List ℕ
  pub wanted : ℕ
  pub fault : Option BodyFault
  pub turns : Turns
  pub taken : Option (List ℕ)

-- why there is this fault
abbrev pub IsCauseOf : BodyFault → Turns → Type 0
IsCauseOf faults.Short t = IsAtEnd t.reader.come
IsCauseOf faults.ReadFault t = IsSome t.reader.fault
IsCauseOf faults.TurnsSpent t = t.left ≡ 0

-- if there is a fault bytes are still wanted, and none are held
pub record HasBrokenOff (s : BodyState) (fault : BodyFault) : Type 0 where
  pub wants : 0 < s.wanted
  pub none_held : s.held ≡ []
  pub cause : IsCauseOf fault s.turns

-- a fault has its cause
abbrev pub IsFaultCaused : BodyState → Type 0
IsFaultCaused s = IfSome s.fault (HasBrokenOff s)

-- how many reads may be idle if this is the fault
abbrev pub idle_at : Option BodyFault → ℕ
idle_at None = 0
idle_at (Some faults.Short) = 1
idle_at (Some faults.ReadFault) = 1
idle_at (Some faults.TurnsSpent) = 0

-- when the reader under it was read, bytes were still wanted, and nothing more was written
pub record IsWithinBody (s : BodyState) (m : Moment) : Type 0 where
  pub came : List ℕ
  pub consumed : Consumes s.turns.reader.come m.to_come came
  pub wants : length s.held + length came < s.wanted
  pub taken : m.taken ≡ s.taken

-- The first bytes were used: of those that were held, and then of those that came. If the reader
-- under it failed meanwhile, that is the fault; and with a fault that was not read again.
pub record HasReadBody (a b : BodyState) : Type 0 where
  pub used : List ℕ
  pub came : List ℕ
  pub consumed : Consumes a.turns.reader.come b.turns.reader.come came
  pub given : a.held ++ came ≡ used ++ b.held
  pub counted : length used + b.wanted ≡ a.wanted
  pub turns : SpendsTurns (idle_at b.fault) a.turns b.turns
  pub unread : IsSome a.fault → b.turns ≡ a.turns
  pub fault : StaysKept a.fault b.fault
  pub caused : IsFaultCaused a → IsFaultCaused b
  pub failed : (b.turns.reader.fault ≡ a.turns.reader.fault) ⊎ (b.fault ≡ Some faults.ReadFault)
  pub taken : b.taken ≡ a.taken
  pub moments : AllSince (IsWithinBody a) a.turns.reader.moments b.turns.reader.moments

-- a reader was read to its end, unless there is no result
pub record ReadsOut {I X E : Type 0} (reader : inputs.Ghosts I) (old new : I) (result : Result X E)
    : Type 0 where
  pub goes : reader.goes old new
  pub whole : IfOk result (λ _. IsAtEnd (reader.to_come new))

-- and these bytes came
pub record ReadsWhole {I X E : Type 0} (reader : inputs.Ghosts I) (came : X → List ℕ) (old new : I)
    (result : Result X E)
    : Type 0 where
  pub goes : reader.goes old new
  pub whole : IfOk result (λ x. Consumes (reader.to_come old) (reader.to_come new) (came x)
      × IsAtEnd (reader.to_come new))
