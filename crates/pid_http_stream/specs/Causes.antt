-- Why the serving of a stream ended, and which reads it made.
use Rattle.std.specs.Prelude.{◌≡◌, ℕ, ◌≤◌, ◌⊎◌, Option, None, IsSome, ⊤}
use Rattle.pid_file.specs.declared.io.WriteFault.{WriteFault}
use Rattle.pid_http_stream.specs.Reads.{ReaderState, AreReads}
use Rattle.pid_http_stream.specs.declared.stream.StreamEnd.{StreamEnd}
use Rattle.pid_http_stream.specs.declared.stream.StreamEnd.TheVariants as ends

-- what is known of the reader, of the writer and of the handler when a stream has ended
pub record LastState : Type 1 where
  -- the reader before the stream
  pub before : ReaderState
  -- and after it
  pub after : ReaderState
  -- the fault that the writer keeps
  pub write_fault : Option WriteFault
  -- what the handler says of itself if it could not go on with a body
  pub stuck : Type 0
  -- how many reads might be made
  pub turns : ℕ

-- the cause of an end that has one
abbrev pub HasEndCause : StreamEnd → LastState → Type 0
HasEndCause ends.ReadFault s = IsSome s.after.fault
HasEndCause ends.WriteFault s = IsSome s.write_fault
HasEndCause ends.StoreFault s = (s.write_fault ≡ None) × s.stuck
HasEndCause end s = ⊤

-- how many reads of a stream that ends so may be idle: the last one, which found the end or failed,
-- or none
abbrev pub idle_reads : StreamEnd → ℕ
idle_reads ends.Closed = 0
idle_reads ends.StoreFault = 0
idle_reads ends.Memory = 0
idle_reads ends.TurnsSpent = 0
idle_reads end = 1

-- The stream ended so.
pub record EndsFor (end : StreamEnd) (s : LastState) : Type 0 where
  -- no more reads were made than might be, and as many if they are what it ended by
  pub made : ℕ
  pub within : made ≤ s.turns
  pub spent : end ≡ ends.TurnsSpent → made ≡ s.turns
  -- the reader counts them, and none is idle but for the last one at some ends
  pub reads : AreReads made (idle_reads end) s.before s.after
  -- a fault is kept by who has it
  pub cause : HasEndCause end s
  -- a reader that fails within the stream ends it so
  pub failed : (s.after.fault ≡ s.before.fault) ⊎ (end ≡ ends.ReadFault)
