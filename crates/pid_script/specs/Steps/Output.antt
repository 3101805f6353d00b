-- What the functions that answer one line leave of the writer, of what is held for it, and of the
-- registry.
use Rattle.std.specs.Prelude.{◌≡◌, ◌⊎◌, ℕ, ◌<◌, ◌≤◌, true, false, List, [], ◌++◌, length, Option}
use Rattle.std.specs.Prelude.{Some, None, IsSome, Result, Ok, Err, MatchResult, IsErrAnd}
use Rattle.std.specs.Io.KnownBytes.{Appends}
use Rattle.pid_file.specs.declared.io.Output as outputs
use Rattle.pid_file.specs.declared.io.WriteFault.{WriteFault as OutputFault}
use Rattle.pid_ident.specs.Sending.{SendsFront}
use Rattle.pid_lookup.specs.declared.answer.Answer.{Answer}
use Rattle.pid_lookup.specs.declared.answering.LookupRefusal.{LookupRefusal}
use Rattle.pid_lookup.specs.declared.answering.LookupRefusal.TheVariants as lookups
use Rattle.pid_reader.specs.Lines.{drop_cr}
use Rattle.pid_moderation.specs.declared.refusal.Refusal.{Refusal}
use Rattle.pid_moderation.specs.declared.refusal.Refusal.TheVariants.{BadText, Memory}
use Rattle.pid_moderation.specs.History.{History}
use Rattle.pid_moderation.specs.Judgement.{after_all}
use Rattle.pid_moderation.specs.ReplyLines.{refused_line, outcome_line}
use Rattle.pid_moderation.specs.declared.command.Reply.{Reply}
use Rattle.pid_script.specs.declared.line_end.LineEnd.{LineEnd}
use Rattle.pid_script.specs.declared.line_end.LineEnd.TheVariants.{Stopped, WriteFault, TooLong}
use Rattle.pid_service_laws.specs.declared.registry_calls.RegistryCalls.{Ghosts}
use Rattle.pid_script.specs.Calling.{CallsGo, CallsSend, CallsSendEither}
use Rattle.pid_script.specs.ScriptLines as lines
use Rattle.pid_script.specs.ScriptLines.{Ask}
use Rattle.pid_script.specs.Replies.{BAD_FLAGS, answer_line, name_line, line_reply, command_of}
use Rattle.pid_script.specs.Replies.{calls_for, is_call}
use Rattle.pid_script.specs.RegistryStates.{Becomes, BecomesEither, OverStanding, StopsAfter}
use Rattle.pid_script.specs.StopLines.{is_stop, IsStopInPlace, IsStopText}

-- the most bytes that are held
abbrev pub MOST_HELD : ℕ
MOST_HELD = 65536

-- what a writer took, the fault that it keeps, and what is held for it
pub record Out : Type 0 where
  pub taken : Option (List ℕ)
  pub fault : Option OutputFault
  pub held : List ℕ

-- the same of a writer
abbrev pub out : {O : Type 0} → outputs.Ghosts O → O → List ℕ → Out
out writer o held = record { taken = writer.taken o; fault = writer.write_fault o; held = held }

-- a text was said: some bytes went out, and the rest of what was held and said is held, in the room
-- that there is
pub record HasSaid (old new : Out) (text : List ℕ) : Type 0 where
  pub sent : List ℕ
  pub told : Appends old.taken new.taken sent
  pub rest : old.held ++ text ≡ sent ++ new.held
  pub room : length old.held ≤ MOST_HELD → length new.held ≤ MOST_HELD

-- the writer failed, and took a prefix of what was held and said, and not all of it
abbrev pub SaysFront : Out → Out → List ℕ → Type 0
SaysFront old new text = SendsFront old.taken new.taken (old.held ++ text) × IsSome new.fault

-- a text was said, or the writer failed within it
abbrev pub SaysText : Result (Unit {0}) LineEnd → Out → Out → List ℕ → Type 0
SaysText result old new text = MatchResult result (λ _. HasSaid old new text)
    (λ e. (e ≡ WriteFault) × SaysFront old new text)

-- all of a text went out, and nothing is held any more; or the writer failed within it
abbrev pub GoesOut : Result (Unit {0}) LineEnd → Out → Out → List ℕ → Type 0
GoesOut result old new text = MatchResult result
    (λ _. Appends old.taken new.taken text × (new.held ≡ []))
    (λ e. (e ≡ WriteFault) × SendsFront old.taken new.taken text × IsSome new.fault)

-- a refusal is the one that was given, and stops
abbrev pub IsGivenRefusal : Option Refusal → Refusal → Type 0
IsGivenRefusal given refusal = (given ≡ Some refusal) × (is_stop refusal ≡ true)

-- nothing is begun of the reply
abbrev pub IsNothing : List ℕ → Type 0
IsNothing begun = begun ≡ []

-- the text of a stop that nothing was begun before: the line of the refusal that was given
abbrev pub IsGivenStop : Option Refusal → List ℕ → Type 0
IsGivenStop given = IsStopText (IsGivenRefusal given) IsNothing

-- all that was held went out, and after it the text of a stop
pub record SaysStop (IsStop : List ℕ → Type 0) (old new : Out) : Type 0 where
  pub text : List ℕ
  pub stop : IsStop text
  pub told : Appends old.taken new.taken (old.held ++ text)

-- the writer failed within what was held and the reply, or the text of a stop
pub record BreaksWithin (reply : List ℕ) (IsStop : List ℕ → Type 0) (old new : Out) : Type 0 where
  pub text : List ℕ
  pub is : (text ≡ reply) ⊎ IsStop text
  pub front : SaysFront old new text

-- What was said to a line whose reply is this: the reply, or a text that stops the script in its
-- place.
abbrev pub TellsLine : Result (Unit {0}) LineEnd → (reply : List ℕ) → (IsStop : List ℕ → Type 0)
    → (old new : Out) → Type 0
TellsLine (Ok x) reply IsStop old new = HasSaid old new reply
TellsLine (Err Stopped) reply IsStop old new = SaysStop IsStop old new
TellsLine (Err WriteFault) reply IsStop old new = BreaksWithin reply IsStop old new
TellsLine (Err TooLong) reply IsStop old new = Appends old.taken new.taken (old.held ++ reply)

-- the refusal in an answer
abbrev pub refusal_given : {X : Type 0} → Result X Refusal → Option Refusal
refusal_given (Ok x) = None
refusal_given (Err refusal) = Some refusal

-- the refusal of the holder of names in the answer of a look-up; memory may run out for the
-- look-up itself
abbrev pub refusal_of_names : Result Answer (LookupRefusal Refusal) → Option Refusal
refusal_of_names (Ok text) = None
refusal_of_names (Err lookups.BadFlags) = None
refusal_of_names (Err (lookups.Names refusal)) = Some refusal
refusal_of_names (Err lookups.Memory) = Some Memory

-- the line of an answer is a reply; or the answer is a stop
abbrev pub IsReplyOrStop : List ℕ → Result Reply Refusal → Type 0
IsReplyOrStop reply answer = (outcome_line answer ≡ reply)
    ⊎ ((refusal : Refusal) × (is_stop refusal ≡ true) × (answer ≡ Err refusal))

-- What was said to an answer: the reply that its line is, or the line of its refusal, which stops
-- the script in place of any reply.
abbrev pub TellsAnswer : Result (Unit {0}) LineEnd → Result Reply Refusal → (old new : Out) → Type 0
TellsAnswer result answer old new = (reply : List ℕ) → IsReplyOrStop reply answer
    → TellsLine result reply (IsGivenStop (refusal_given answer)) old new

-- a reply was said that no refusal stops
abbrev pub TellsReply : Result (Unit {0}) LineEnd → (reply : List ℕ) → (old new : Out) → Type 0
TellsReply result reply old new = TellsLine result reply (IsGivenStop None) old new

-- what was said of the name at a path: its line, or that it has none, or what a refusal is answered
abbrev pub TellsName : Result (Unit {0}) LineEnd → Result (Option (List ℕ)) Refusal
    → (old new : Out) → Type 0
TellsName result (Ok name) old new = TellsReply result (name_line name) old new
TellsName result (Err refusal) old new = TellsAnswer result (Err refusal) old new

-- that memory ran out was said, with all that was held; or the writer failed within that
abbrev pub SaysMemory : LineEnd → (old new : Out) → Type 0
SaysMemory Stopped old new = Appends old.taken new.taken (old.held ++ refused_line Memory)
SaysMemory WriteFault old new = SaysFront old new (refused_line Memory)
SaysMemory TooLong old new = ⊥

-- the same of a line that is too long
abbrev pub SaysTooLong : LineEnd → (old new : Out) → Type 0
SaysTooLong Stopped old new = ⊥
SaysTooLong WriteFault old new = SaysFront old new (refused_line BadText)
SaysTooLong TooLong old new = Appends old.taken new.taken (old.held ++ refused_line BadText)

-- what was said of what was found: the line of the answer, that the flags are bad, what a refusal
-- of the holder of names is answered, or that memory ran out
abbrev pub TellsFound : Result (Unit {0}) LineEnd → Result Answer (LookupRefusal Refusal)
    → (old new : Out) → Type 0
TellsFound result (Ok answer) old new = TellsReply result (answer_line answer) old new
TellsFound result (Err lookups.BadFlags) old new = TellsReply result BAD_FLAGS old new
TellsFound result (Err (lookups.Names refusal)) old new = TellsAnswer result (Err refusal) old new
TellsFound result (Err lookups.Memory) old new = IsErrAnd result (λ end. SaysMemory end old new)

-- what was answered goes on if it is no stop, and the line is not too long
abbrev pub GoesOnAfter : Result (Unit {0}) LineEnd → Option Refusal → Type 0
GoesOnAfter (Ok x) (Some refusal) = is_stop refusal ≡ false
GoesOnAfter (Ok x) None = Unit {0}
GoesOnAfter (Err TooLong) given = ⊥
GoesOnAfter (Err Stopped) given = Unit {0}
GoesOnAfter (Err WriteFault) given = Unit {0}

-- Why bytes of a line are not kept, and what was said: as far as they go the line is not too long,
-- and that memory ran out was said; or it is too long already.
pub data Unfit (end : LineEnd) (bytes : List ℕ) (old new : Out) : Type 0 where
  NoMemory : length (drop_cr bytes) ≤ lines.LONGEST → SaysMemory end old new
      → Unfit end bytes old new
  AlreadyLong : lines.LONGEST < length (drop_cr bytes) → SaysTooLong end old new
      → Unfit end bytes old new

module _ {R : Type 0} (registry : Ghosts R) where
  -- the line was answered, and nothing is held any more if it was a command
  pub record GoesAfter (r : R) (h : History) (new : R) (ask : Ask) (left : Out) : Type 0 where
    pub becomes : Becomes registry r h new (after_all h (command_of ask))
    pub lives : registry.is_live r ≡ false → is_call ask ≡ false
    pub flushed : (command_of ask ≡ []) ⊎ (left.held ≡ [])
    pub fits : ask ≡ lines.TooLong → ⊥

  -- the line was too long
  pub record EndsAfter (r : R) (h : History) (new : R) (ask : Ask) : Type 0 where
    pub becomes : Becomes registry r h new h
    pub long : ask ≡ lines.TooLong

  -- the line was stopped, and is not too long
  pub record IsStoppedAt (r : R) (h : History) (new : R) (ask : Ask) : Type 0 where
    pub stops : StopsAfter registry r h new h (command_of ask)
    pub fits : ask ≡ lines.TooLong → ⊥

  -- what is left of the registry
  abbrev pub LeavesAfter : Result (Unit {0}) LineEnd → R → History → R → Ask → Out → Type 0
  LeavesAfter (Ok x) r h new ask left = GoesAfter r h new ask left
  LeavesAfter (Err TooLong) r h new ask left = EndsAfter r h new ask
  LeavesAfter (Err Stopped) r h new ask left = IsStoppedAt r h new ask
  LeavesAfter (Err WriteFault) r h new ask left = BecomesEither registry r h new h
      (after_all h (command_of ask))

  -- What calls sent for the line: its command if it was answered, none that has an outcome if
  -- it was stopped, and one or the other if the writer failed.
  abbrev pub SendsFor : Result (Unit {0}) LineEnd → R → R → Ask → Type 0
  SendsFor (Ok x) r new ask = CallsSend registry.showing r (command_of ask) (calls_for ask) new
  SendsFor (Err TooLong) r new ask = CallsSend registry.showing r [] (calls_for ask) new
  SendsFor (Err Stopped) r new ask = CallsSend registry.showing r [] (calls_for ask) new
  SendsFor (Err WriteFault) r new ask = CallsSendEither registry.showing r [] (command_of ask)
      (calls_for ask) new

  -- the answer to a line
  pub record AnswersLine (result : Result (Unit {0}) LineEnd) (ask : Ask) (h : History) (r : R)
      (old : Out) (new : R) (left : Out) : Type 0 where
    pub tells : TellsLine result (line_reply ask h) (IsStopInPlace registry r h h ask) old left
    pub leaves : LeavesAfter result r h new ask left
    pub sends : SendsFor result r new ask

  -- the answer to a line, over the history that the registry showed
  abbrev pub AnswersOver : Result (Unit {0}) LineEnd → Ask → R → Out → R → Out → Type 0
  AnswersOver result ask r old new left =
      OverStanding registry r new (λ h. AnswersLine result ask h r old new left)

  -- what the answer to a line leaves, whatever the registry showed
  pub record LeavesAnswer (result : Result (Unit {0}) LineEnd) (ask : Ask) (r : R) (old : Out) (new : R)
      (left : Out) : Type 0 where
    pub calls : CallsGo registry.showing r new
    pub ends : AnswersOver result ask r old new left
    -- a fault of the writer is kept
    pub fault : result ≡ Err WriteFault → IsSome left.fault
