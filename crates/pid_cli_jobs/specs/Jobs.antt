-- What each job does, prints and reports. Choices of this project.
use Rattle.std.specs.Prelude.{◌≡◌, ◌≢◌, ◌↔◌, ◌⊎◌, ℕ, Bool, true, false, List, [], ◌∷◌, ◌++◌, ⊤}
use Rattle.std.specs.Prelude.{Option, Some, None, codes, Result, Ok, Err, IfSome, IsErrOf, IsSome}
use Rattle.std.specs.Prelude.{IsSomeAnd}
use Rattle.std.specs.Io.KnownBytes.{Appends}
use Rattle.std.specs.declared.alloc.AllocError.{AllocError}
use Rattle.pid_file.specs.InputTexts.{ReadsInput}
use Rattle.pid_file.specs.TextEnds.{status_of}
use Rattle.pid_file.specs.Reports.{IsReported, ReportsEnd}
use Rattle.pid_file.specs.Words.{is_account, is_key}
use Rattle.pid_file.specs.Writing.{FailsWithin, TriesLine}
use Rattle.pid_file.specs.declared.counter.Never.{Never}
use Rattle.pid_file.specs.declared.io.ReadFault.{ReadFault}
use Rattle.pid_file.specs.declared.text_end.TextEnd.{TextEnd}
use Rattle.pid_file.specs.declared.text_end.TextEnd.TheVariants as texts
use Rattle.pid_file.specs.declared.text_end.TheConstants.{LARGEST}
use Rattle.pid_file.specs.declared.whole_input.InputEnd.{InputEnd}
use Rattle.pid_ident.specs.Moments.{AllSince}
use Rattle.pid_lookup.specs.Fields.{are_bad, as_lookup, lookup_from}
use Rattle.pid_lookup.specs.Flags.{is_bad}
use Rattle.pid_lookup.specs.InText.{IsAnswerOfText}
use Rattle.pid_lookup.specs.declared.answer.Answer.{Answer}
use Rattle.pid_lookup.specs.declared.answering.LookupRefusal.{LookupRefusal}
use Rattle.pid_lookup.specs.declared.answering.LookupRefusal.TheVariants.{BadFlags}
use Rattle.pid_lookup.specs.declared.args.Args.{Args}
use Rattle.pid_lookup.specs.declared.fields.BadField.{BadField}
use Rattle.pid_moderation.specs.BeforeFile.{import_of}
use Rattle.pid_moderation.specs.Files.{file_reading}
use Rattle.pid_moderation.specs.declared.command.Reply.{Reply}
use Rattle.pid_moderation.specs.declared.refusal.Refusal.TheVariants.{BadText}
use Rattle.pid_service_laws.specs.Imports.{HasRead, ObeysFile}
use Rattle.pid_service_laws.specs.declared.faults.ImportEnd.{ImportEnd}
use Rattle.pid_service_laws.specs.declared.faults.ImportEnd.TheVariants as imports
use Rattle.pid_service_laws.specs.declared.registry_calls.RegistryCalls.{Ghosts}
use Rattle.pid_http_stream.specs.Causes.{EndsFor}
use Rattle.pid_http_stream.specs.Listener.Servings.{CountsStreams, IsLiveAt}
use Rattle.pid_http_stream.specs.Listener.Streams.{Exchange, ReaderUse}
use Rattle.pid_http_stream.specs.Serving.{IsCaughtUp, IsServed, outside}
use Rattle.pid_http_stream.specs.declared.listener.serving.Serving.{Serving}
use Rattle.pid_http_stream.specs.declared.listener.serving.ServingEnd.{ServingEnd}
use Rattle.pid_http_stream.specs.declared.listener.serving.ServingEnd.TheVariants as servings
use Rattle.pid_http.specs.Serving.{serving}
use Rattle.pid_http.specs.Streams.{OverStream}
use Rattle.pid_script.specs.EndStatus.{script_status}
use Rattle.pid_script.specs.Scripts.{EndsWith, IsScript, IsUpToDate, OverText, passage}
use Rattle.pid_script.specs.declared.script_end.ScriptEnd.{ScriptEnd}
use Rattle.pid_script.specs.declared.script_end.ScriptEnd.TheVariants as scripts
use Rattle.pid_cli_args.specs.Jobs.{text_given}
use Rattle.pid_cli_args.specs.declared.job.ImportArgs.{ImportArgs}
use Rattle.pid_cli_args.specs.declared.job.LookupArgs.{LookupArgs}
use Rattle.pid_cli_args.specs.declared.job.ServeArgs.{ServeArgs}
use Rattle.pid_cli_jobs.specs.Lines.{FailsSilently, IsUnprinted, IsUnreported, PrintsAnswer}
use Rattle.pid_cli_jobs.specs.Lines.{PrintsOnly, PrintsReply, ReportsMemory, ReportsOnly}
use Rattle.pid_cli_jobs.specs.Lines.{ReportsUnopened, Streams, count_line}
use Rattle.pid_cli_jobs.specs.Sessions.{IsPrepared, IsSession}
use Rattle.pid_cli_jobs.specs.declared.job_end.JobEnd.{JobEnd}
use Rattle.pid_cli_jobs.specs.declared.job_end.JobEnd.TheVariants.{Exited, FileFailed}
use Rattle.pid_cli_jobs.specs.declared.unopened.Unopened.{Unopened as Reason}

-- a job ends with a status, or by a fault of a file, which is still to be reported
abbrev pub EndsBy : Type 0 → ℕ → JobEnd → Type 0
EndsBy IsOfFile status end =
    (IsOfFile × (end ≡ FileFailed)) ⊎ ((¬ IsOfFile) × (end ≡ Exited status))

-- Look-ups in a pci.ids file.
-- a field, if its value is given; the fields that the arguments give
abbrev pub field_given : List ℕ → Option (List ℕ) → List (List ℕ × List ℕ)
field_given name None = []
field_given name (Some value) = (name, value) ∷ []

abbrev pub fields_given : LookupArgs → List (List ℕ × List ℕ)
fields_given words = field_given (codes "flags") (Some words.flags.now)
    ++ field_given (codes "size") (text_given words.size)
    ++ field_given (codes "vendor") (text_given words.vendor)
    ++ field_given (codes "device") (text_given words.device)
    ++ field_given (codes "subvendor") (text_given words.subvendor)
    ++ field_given (codes "subdevice") (text_given words.subdevice)
    ++ field_given (codes "class") (text_given words.class)
    ++ field_given (codes "progif") (text_given words.progif)

-- the flags, the arguments and the size of a look-up
abbrev pub LookupValues : Type 0
LookupValues = ℕ × Args × ℕ

-- those that fields say, or that they are bad
abbrev pub IsReadFrom : List (List ℕ × List ℕ) → Result LookupValues BadField → Type 0
IsReadFrom fields (Ok lookup) = lookup_from fields ≡ Some (as_lookup lookup)
IsReadFrom fields (Err bad) = are_bad fields ≡ true

-- this was found in a text that is not too long and has no fault
abbrev pub IsFoundIn : LookupValues → List ℕ → Result Answer (LookupRefusal AllocError) → Type 0
IsFoundIn lookup text found =
    let read : Result (Result Answer (LookupRefusal AllocError)) (InputEnd Never) = Ok found in
    ReadsInput (IsAnswerOfText lookup.0 lookup.1 lookup.2) LARGEST read text

-- A look-up in the text of an input: the line of the answer that the tree of the text has, or that
-- its flags are bad, exactly if they are; or why there is none.
pub data LooksUpText (lookup : LookupValues) (come : Option (List ℕ)) (w : Streams) (end : JobEnd)
    : Type 0 where
  Answered : (found : Result Answer (LookupRefusal AllocError))
      → IsErrOf found BadFlags ↔ (is_bad lookup.0 ≡ true)
      → IfSome come (λ text. IsFoundIn lookup text found)
      → PrintsAnswer found w end → LooksUpText lookup come w end
  Unread : (why : TextEnd) → why ≢ texts.Done → ReportsEnd why w.faults
      → IfSome come (λ text. IsReported why text w.faults.before w.faults.after) → IsUnprinted w
      → EndsBy ((why ≡ texts.ReadFault) ⊎ (why ≡ texts.WriteFault)) (status_of why) end
      → LooksUpText lookup come w end

-- The look-up that fields say, in a file that was opened at the path of the arguments, of which the
-- bytes may be known.
pub data LooksUpInFile {R : Type 0} (IsText : R → Type 0) (holds : R → Option (List ℕ))
    (fields : List (List ℕ × List ℕ)) (w : Streams) (end : JobEnd) : Type 0 where
  BadFields : are_bad fields ≡ true → PrintsReply (Err BadText) w end
      → LooksUpInFile IsText holds fields w end
  NoMemory : ReportsMemory w end → LooksUpInFile IsText holds fields w end
  NoFile : FailsSilently w end → LooksUpInFile IsText holds fields w end
  InFile : (lookup : LookupValues) → IsReadFrom fields (Ok lookup) → (text : R) → IsText text
      → LooksUpText lookup (holds text) w end → LooksUpInFile IsText holds fields w end

-- Imports of a pci.ids file.
-- an account or a key that breaks its rule
abbrev pub IsBadSender : List ℕ → Option (List ℕ) → Type 0
IsBadSender account key = (is_account account ≡ false) ⊎ IsSomeAnd key (λ k. is_key k ≡ false)

-- what is printed and reported of one
abbrev pub ReportsImport : Result (Result Reply ImportEnd) Reason → Streams → JobEnd → Type 0
ReportsImport (Ok (Ok reply)) = PrintsReply (Ok reply)
ReportsImport (Ok (Err (imports.Refused refusal))) = PrintsReply (Err refusal)
ReportsImport (Ok (Err imports.Body)) = FailsSilently
ReportsImport (Err why) = ReportsUnopened why

module _ {R : Type 0} (registry : Ghosts R) (IsOpened : R → Type 0) (IsUnopened : Reason → Type 0)
    (IsClosed : R → Type 0) where
  -- The session of an import by this sender, of what was read of a file that had `come` to come,
  -- and has `left` then. It ended by a fault of the file exactly if the file's reader keeps one. Or
  -- there was no session.
  abbrev pub BringsFile : List ℕ × Option (List ℕ) → Option (List ℕ) → Option (List ℕ)
      → Option ReadFault → Result (Result Reply ImportEnd) Reason → Type 0
  BringsFile sender come left fault (Ok result) = ((result ≡ Err imports.Body) ↔ IsSome fault)
      × IsSession registry IsOpened IsUnopened IsClosed (λ old new. HasRead result come left
      (λ text. ObeysFile registry.showing registry.is_live old new result
      (import_of sender.0 sender.1 (file_reading text))))
  BringsFile sender come left fault (Err why) = IsUnopened why

  -- The import that the arguments ask for, of a file that was opened at their path, of which the
  -- bytes may be known.
  pub data Imports {T : Type 0} (IsText : T → Type 0) (holds : T → Option (List ℕ))
      (words : ImportArgs) (w : Streams) (end : JobEnd) : Type 0 where
    BadSender : IsBadSender words.account.now (text_given words.key)
        → PrintsReply (Err BadText) w end → Imports IsText holds words w end
    NoMemory : ReportsMemory w end → Imports IsText holds words w end
    NoFile : FailsSilently w end → Imports IsText holds words w end
    OfFile : (text : T) → IsText text → (left : Option (List ℕ)) → (fault : Option ReadFault)
        → (result : Result (Result Reply ImportEnd) Reason)
        → BringsFile (words.account.now, text_given words.key) (holds text) left fault result
        → ReportsImport result w end → Imports IsText holds words w end

-- Scripts.
-- the most reads of one
abbrev pub MOST_READS : ℕ
MOST_READS = 10000000

abbrev pub EndsScript : ScriptEnd → JobEnd → Type 0
EndsScript script = EndsBy ((script ≡ scripts.ReadFault) ⊎ (script ≡ scripts.WriteFault))
    (script_status script)

module _ {R : Type 0} (registry : Ghosts R) where
  -- The lines of the input were answered as a script: what `run_script` says of its text, of the
  -- moments at which that was read, of the faults and of the reads. Nothing is reported yet.
  pub record RunsLines (input : ReaderUse) (w : Streams) (end : JobEnd) (old new : R)
      : Type 0 where
    pub script : ScriptEnd
    pub ends : EndsScript script end
    pub ran : OverText registry (passage old new w.output.before w.output.after)
        input.before.come
        (λ h p text. IsScript registry script h p text input.after.come)
    pub caught_up : OverText registry (passage old new w.output.before w.output.after)
        input.before.come (λ h p text. AllSince (IsUpToDate registry h p text)
        input.before.moments input.after.moments)
    pub ended : EndsWith script (record {
      read_fault = input.after.fault;
      write_fault = w.output.fault;
      turns = MOST_READS;
      reads = input.before.reads;
      reads_now = input.after.reads;
      come = input.before.come;
      come_now = input.after.come;
      moments = input.before.moments;
      moments_now = input.after.moments;
    })
    pub silent : IsUnreported w

-- Serving.
-- where it listens; how many streams were started; that a socket failed
abbrev pub listening_line : ℕ → List ℕ
listening_line port = count_line (codes "listening on 127.0.0.1:") port

abbrev pub served_line : ℕ → List ℕ
served_line streams = count_line (codes "served ") streams

abbrev pub socket_line : List ℕ
socket_line = codes "socket: failed\n"

-- The number of streams is printed, and the status says how the serving ended: 0 if all connections
-- were served, 3 if the registry failed. That no connection could be accepted is reported too.
abbrev pub ReportsServing : ServingEnd → ℕ → Streams → JobEnd → Type 0
ReportsServing servings.All streams w end = PrintsOnly (served_line streams) 0 w end
ReportsServing servings.NotLive streams w end = PrintsOnly (served_line streams) 3 w end
ReportsServing servings.AcceptFault streams w end = TriesLine w.output (served_line streams)
    × TriesLine w.faults socket_line × (end ≡ Exited 3)

-- A stream was answered over a registry, before it and after it: what `served`, `caught_up` and
-- `ended` of `serve_stream` of `pid_http` say, of the reader and the writer of this exchange. So if
-- the bytes of the stream are known, such calls led on as its requests make; and if the reader kept
-- account of its reads, the replies to what had come were out at each of them.
pub record AnswersStream {R : Type 0} (registry : Ghosts R) (old new : R) (x : Exchange)
    : Type 0 where
  pub served : OverStream registry old new x.input.before.come (λ t u stream.
      IsServed (serving registry) (outside t u x.output.before x.output.after)
      stream x.input.after.come x.served.end x.served.answered)
  pub caught_up : OverStream registry old new x.input.before.come (λ t u stream.
      AllSince (IsCaughtUp (serving registry) t x.output.before stream)
      x.input.before.moments x.input.after.moments)
  pub ended : EndsFor x.served.end (record {
    before = x.input.before;
    after = x.input.after;
    write_fault = x.output.fault;
    stuck = ⊤;
    turns = x.turns;
  })

-- `port_of` is the port that a listener is for; IsServing says that streams came from it, once the
-- output had taken this; `is_live` is of what serves them
module _ {L T : Type 0} (port_of : L → ℕ) (IsServing : L → Option (List ℕ) → Serving → Type 0)
    (is_live : T → Bool) where
  -- Streams of at most so many connections to the port were served, after the line of where it
  -- listens, and it is reported how many. The server was live before them and is live after them,
  -- unless the serving ended because it is not.
  pub record HasServed (words : ServeArgs) (server : T × T) (w : Streams) (end : JobEnd)
      : Type 0 where
    pub listener : L
    pub at_port : port_of listener ≡ words.port
    -- what the output had taken before the first of them
    pub between : Option (List ℕ)
    pub listens : Appends w.output.before between (listening_line words.port)
    pub serving : Serving
    pub serves : IsServing listener between serving
    pub counted : CountsStreams serving.end words.connections serving.streams
    pub lasts : IsLiveAt serving.end serving.streams (is_live server.0, is_live server.1)
    pub reports : ReportsServing serving.end serving.streams
        (record w { output = record w.output { before = between } }) end

  -- A server was given streams. Or it was given none, and is as it was: the port could not be had,
  -- memory for the table of routes could not, or the line of where it listens did not go out whole.
  pub data Offers (words : ServeArgs) (server : T × T) (w : Streams) (end : JobEnd)
      : Type 0 where
    Unbound : server.1 ≡ server.0 → ReportsOnly socket_line w end → Offers words server w end
    Unrouted : server.1 ≡ server.0 → ReportsMemory w end → Offers words server w end
    Unheard : server.1 ≡ server.0 → FailsWithin w.output (listening_line words.port)
        → IsUnreported w → end ≡ FileFailed → Offers words server w end
    Served : HasServed words server w end → Offers words server w end

module _ {L R : Type 0} (port_of : L → ℕ) (IsServing : L → Option (List ℕ) → Serving → Type 0)
    (registry : Ghosts R) where
  -- a registry was prepared, and then it served the streams
  pub record Serves (words : ServeArgs) (w : Streams) (end : JobEnd) (old new : R) : Type 0 where
    pub ready : R
    pub prepared : IsPrepared registry old ready
    pub offers : Offers port_of IsServing registry.is_live words (ready, new) w end
