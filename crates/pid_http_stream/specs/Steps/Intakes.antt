-- What comes in from a reader, and what the bytes that came begin with.
use Rattle.std.specs.Prelude.{◌≡◌, ℕ, ◌+◌, ◌*◌, ◌<◌, ◌≤◌, ◌⊎◌, List, [], ◌++◌, length, take, map}
use Rattle.std.specs.Prelude.{Option, Some, None, IfSome, IsSome, ⊤, Result, Ok, Err}
use Rattle.std.specs.Io.KnownBytes.{Consumes, IsAtEnd}
use Rattle.httparse.specs.Spans.{header_bytes, IsRequestWithin, IsRequestOf}
use Rattle.httparse.specs.declared.spans.HeaderSpan.{HeaderSpan}
use Rattle.httparse.specs.declared.spans.RequestSpans.{RequestSpans}
use Rattle.pid_file.specs.declared.io.ReadFault.{ReadFault}
use Rattle.pid_ident.specs.declared.incoming.Incoming.{Ghosts}
use Rattle.pid_http_stream.specs.Steps.Bodies.{Turns, SpendsTurns, IsCauseOf, idle_at, turns_at}
use Rattle.pid_http_stream.specs.BodyLengths.{body_length}
use Rattle.pid_http_stream.specs.Endings.{HasFault}
use Rattle.pid_http_stream.specs.Leftovers.{IsLeftover}
use Rattle.pid_http_stream.specs.Moments.{Moment, AllSince}
use Rattle.pid_http_stream.specs.Unfinished.{IsHeadUnfinished, IsUnfinished}
use Rattle.pid_http_stream.specs.declared.body_input.BodyFault.{BodyFault}
use Rattle.pid_http_stream.specs.declared.body_input.BodyFault.TheVariants as faults
use Rattle.pid_http_stream.specs.declared.body_length.BodyLength.TheVariants.{Bytes}
use Rattle.pid_http_stream.specs.declared.judging.FoundHead.{FoundHead}
use Rattle.pid_http_stream.specs.declared.limits.TheConstants.{LONGEST_BODY, LONGEST_HEAD}
use Rattle.pid_http_stream.specs.declared.limits.TheConstants.{MOST_FIELDS, READ_SIZE}
use Rattle.pid_http_stream.specs.declared.refusal.StreamFault.{StreamFault}
use Rattle.pid_http_stream.specs.declared.intake.Filled.{Filled}
use Rattle.pid_http_stream.specs.declared.intake.Filled.TheVariants as filled
use Rattle.pid_http_stream.specs.declared.intake.Stop.{Stop}
use Rattle.pid_http_stream.specs.declared.intake.Stop.TheVariants as stops
use Rattle.pid_http_stream.specs.declared.intake.HeadRead.{HeadRead}
use Rattle.pid_http_stream.specs.declared.intake.HeadRead.TheVariants as heads
use Rattle.pid_http_stream.specs.declared.one_request.Asked.{Asked}
use Rattle.pid_http_stream.specs.declared.one_request.Asked.TheVariants as asked

-- what came from the reader follows what was held
pub record ComesIn (held held_after : List ℕ) (input input_after : Option (List ℕ)) : Type 0 where
  pub piece : List ℕ
  pub consumed : Consumes input input_after piece
  pub kept : held_after ≡ held ++ piece

-- it was read with this to come, and this taken
abbrev pub IsMoment : Option (List ℕ) → Option (List ℕ) → Moment → Type 0
IsMoment to_come taken m = m ≡ (record { to_come = to_come; taken = taken })

-- one read within the turns brought some bytes, or a fault that has its cause
abbrev pub TurnBrings : Result ℕ BodyFault → List ℕ → Turns → Turns → Type 0
TurnBrings (Ok n) buffer a b = Consumes a.reader.come b.reader.come (take n buffer)
    × (0 < n) × (n ≤ length buffer) × (b.reader.fault ≡ a.reader.fault) × (b.left + 1 ≡ a.left)
TurnBrings (Err fault) buffer a b = Consumes a.reader.come b.reader.come [] × IsCauseOf fault b
    × ((b.reader.fault ≡ a.reader.fault) ⊎ (fault ≡ faults.ReadFault))

-- how many reads may be idle if this came of one
abbrev pub idle_read : Result ℕ BodyFault → ℕ
idle_read (Ok n) = 0
idle_read (Err fault) = idle_at (Some fault)

-- one read was made, if a turn was left
pub record TakesTurn (result : Result ℕ BodyFault) (buffer : List ℕ) (taken : Option (List ℕ))
    (a b : Turns) : Type 0 where
  pub brings : TurnBrings result buffer a b
  pub turns : SpendsTurns (idle_read result) a b
  pub noted : AllSince (IsMoment a.reader.come taken) a.reader.moments b.reader.moments

-- what a fault of a read is up to the end of a head
abbrev pub filled_by : BodyFault → Filled
filled_by faults.Short = filled.End
filled_by faults.ReadFault = filled.Stopped stops.ReadFault
filled_by faults.TurnsSpent = filled.Stopped stops.TurnsSpent

-- when the reader was read, what was held and what had come after it was a request that had not
-- come whole, and the writer had taken this
pub record WaitsForRequest (held : List ℕ) (input taken : Option (List ℕ)) (m : Moment)
    : Type 0 where
  pub rest : List ℕ
  pub comes : ComesIn held rest input m.to_come
  pub waits : IsUnfinished rest
  pub writer : m.taken ≡ taken

-- only a piece changes what is held, and nothing is to come at the end
abbrev pub StaysBut : List ℕ → List ℕ → Option (List ℕ) → Filled → Type 0
StaysBut held held_after left filled.Piece = ⊤
StaysBut held held_after left filled.End = (held_after ≡ held) × IsAtEnd left
StaysBut held held_after left (filled.Stopped stop) = held_after ≡ held

-- why reading stops, by the fault that the reader kept before and the one that it keeps now, and
-- the turns that are left
abbrev pub StopsFor : Stop → Option ReadFault → Option ReadFault → ℕ → Type 0
StopsFor stops.ReadFault before now left = IsSome now
StopsFor stops.TurnsSpent before now left = (left ≡ 0) × (now ≡ before)
StopsFor stops.Memory before now left = now ≡ before

-- a read that stops has its cause; another one has not failed
abbrev pub FillStops : Filled → Option ReadFault → Option ReadFault → ℕ → Type 0
FillStops (filled.Stopped stop) before now left = StopsFor stop before now left
FillStops filled before now left = now ≡ before

-- and so it is with a head that is not read to its end
abbrev pub HeadStops : HeadRead → Option ReadFault → Option ReadFault → ℕ → Type 0
HeadStops (heads.Stopped stop) before now left = StopsFor stop before now left
HeadStops read before now left = now ≡ before

-- the same when a handler was asked: only a body that breaks off by it changes the reader's fault
abbrev pub AskStops : Asked → Option ReadFault → Option ReadFault → ℕ → Type 0
AskStops (asked.Broken faults.ReadFault) before now left = IsSome now
AskStops (asked.Broken faults.TurnsSpent) before now left = (left ≡ 0) × (now ≡ before)
AskStops asked before now left = now ≡ before

-- how many reads may be idle: if reading stops so, if this came of a read or for a head, and if this
-- came of asking a handler
abbrev pub idle_stop : Stop → ℕ
idle_stop stops.ReadFault = 1
idle_stop stops.TurnsSpent = 0
idle_stop stops.Memory = 0

abbrev pub idle_filled : Filled → ℕ
idle_filled filled.Piece = 0
idle_filled filled.End = 1
idle_filled (filled.Stopped stop) = idle_stop stop

abbrev pub idle_head : HeadRead → ℕ
idle_head (heads.Head found) = 0
idle_head heads.Nothing = 1
idle_head (heads.Faulty why) = 1
idle_head (heads.Stopped stop) = idle_stop stop

abbrev pub idle_asked : Asked → ℕ
idle_asked (asked.Reply reply) = 0
idle_asked asked.NoMemory = 0
idle_asked (asked.Broken fault) = idle_at (Some fault)

-- what is held of a stream, its reader, and how often that may still be read
pub record Intake (I : Type 0) : Type 0 where
  pub held : List ℕ
  pub input : I
  pub left : ℕ

abbrev pub intake : {I : Type 0} → List ℕ → I → ℕ → Intake I
intake held input left = record { held = held; input = input; left = left }

-- one read was made, if a turn was left, and what came of it kept
pub record ReadsMore {I W : Type 0} (reader : Ghosts I W) (taken : Option (List ℕ))
    (a b : Intake I) (result : Filled) : Type 0 where
  pub comes : ComesIn a.held b.held (reader.to_come a.input) (reader.to_come b.input)
  pub stays : StaysBut a.held b.held (reader.to_come b.input) result
  pub piece : result ≡ filled.Piece → (b.left + 1 ≡ a.left)
      × (length b.held ≤ length a.held + READ_SIZE)
  pub turns : SpendsTurns (idle_filled result) (turns_at reader a.input a.left)
      (turns_at reader b.input b.left)
  pub noted : AllSince (IsMoment (reader.to_come a.input) taken)
      (reader.moments a.input) (reader.moments b.input)
  pub stopped : FillStops result (reader.read_fault a.input) (reader.read_fault b.input) b.left
  pub goes : reader.goes a.input b.input

-- the spans are those of a head that begins the bytes, which says that its body has so many bytes
pub record StandsAt (held : List ℕ) (headers : List HeaderSpan) (spans : RequestSpans)
    (body : ℕ) : Type 0 where
  pub found : IsRequestOf held headers spans
  pub within : IsRequestWithin held headers spans
  pub short : spans.len ≤ LONGEST_HEAD
  pub few : spans.headers ≤ MOST_FIELDS
  pub some : 0 < spans.len
  pub fits : body ≤ LONGEST_BODY
  pub says : body_length (map (header_bytes held) (take spans.headers headers)) ≡ Bytes body

-- at a fault the stream has it, whatever comes after
abbrev pub IsHeadJudged : List ℕ → List HeaderSpan → Result (Option FoundHead) StreamFault → Type 0
IsHeadJudged held headers (Ok None) = IsHeadUnfinished held
IsHeadJudged held headers (Ok (Some found)) = StandsAt held headers found.spans found.body
IsHeadJudged held headers (Err fault) = (more : List ℕ) → HasFault (held ++ more) fault

-- left: what is left of the reader
abbrev pub IsHeadRead : List ℕ → List HeaderSpan → Option (List ℕ) → HeadRead → Type 0
IsHeadRead held headers left (heads.Head found) = StandsAt held headers found.spans found.body
IsHeadRead held headers left heads.Nothing = IsAtEnd left × IsLeftover held
IsHeadRead held headers left (heads.Faulty fault) = IfSome left
    (λ more. HasFault (held ++ more) fault)
IsHeadRead held headers left (heads.Stopped stop) = IsUnfinished held

-- it was read until a head had come, or none can come
pub record ReadsHead {I W : Type 0} (reader : Ghosts I W) (taken : Option (List ℕ))
    (headers : List HeaderSpan) (a b : Intake I) (result : HeadRead) : Type 0 where
  pub comes : ComesIn a.held b.held (reader.to_come a.input) (reader.to_come b.input)
  pub head : IsHeadRead b.held headers (reader.to_come b.input) result
  pub turns : SpendsTurns (idle_head result) (turns_at reader a.input a.left)
      (turns_at reader b.input b.left)
  pub pace : b.left * READ_SIZE + length b.held ≤ a.left * READ_SIZE + length a.held
  pub waits : AllSince (WaitsForRequest a.held (reader.to_come a.input) taken)
      (reader.moments a.input) (reader.moments b.input)
  pub stopped : HeadStops result (reader.read_fault a.input) (reader.read_fault b.input) b.left
  pub goes : reader.goes a.input b.input
