-- What the arguments ask for, as the command line parser `clap` hands them to the subcommands.
use Rattle.std.specs.Prelude.{◌&&◌, ◌^◌, ℕ, List, [], ◌∷◌, Option, Some, None, codes, find, map}
use Rattle.std.specs.Prelude.{length, nat_lt, option_map, unwrap_or, if◌then◌else◌}
use Rattle.std.specs.Borrow.{Bor}
use Rattle.std.specs.Char.{digit_value}
use Rattle.std.specs.List.{list_all}
use Rattle.std.specs.Option.{option_map_or}
use Rattle.std.specs.Str.{bytes_eq}
use Rattle.std.specs.Str.Parse.{digits_value, without_leading_plus}
use Rattle.clap.specs.Walk.{Row, Text, first_of, one_of}
use Rattle.clap.specs.Words.{subcommand_of, fault_of, Kinds}
use Rattle.pid_cli_args.specs.Commands.{commands, table, Parameter, Needed, Spare, Operand, Port}
use Rattle.pid_cli_args.specs.Commands.{Connections}
use Rattle.pid_cli_args.specs.declared.job.Job.{Job}
use Rattle.pid_cli_args.specs.declared.job.ImportArgs.{ImportArgs}
use Rattle.pid_cli_args.specs.declared.job.LookupArgs.{LookupArgs}
use Rattle.pid_cli_args.specs.declared.job.ServeArgs.{ServeArgs}
use Rattle.pid_cli_args.specs.declared.job.Job.TheVariants as jobs

-- the value of an argument
pub data Value : Type 0 where
  OfText : Text → Value
  OfSpare : Option Text → Value
  OfNumber : ℕ → Value

-- the text of a reference that may be missing
abbrev pub text_given : Option (Bor Text) → Option Text
text_given = option_map (λ text. text.now)

-- the values of a lookup, of an import and of a server, in the order of their arguments
abbrev pub lookup_values : LookupArgs → List Value
lookup_values asked = OfText asked.ids.now ∷ OfText asked.flags.now
    ∷ map (λ spare. OfSpare (text_given spare)) (asked.size ∷ asked.vendor ∷ asked.device
    ∷ asked.subvendor ∷ asked.subdevice ∷ asked.class ∷ asked.progif ∷ [])

abbrev pub import_values : ImportArgs → List Value
import_values asked = OfText asked.db.now ∷ OfSpare (text_given asked.journal)
    ∷ OfText asked.account.now ∷ OfSpare (text_given asked.key) ∷ OfText asked.ids.now ∷ []

abbrev pub serve_values : ServeArgs → List Value
serve_values asked = OfText asked.db.now ∷ OfSpare (text_given asked.journal)
    ∷ OfNumber asked.port ∷ OfNumber asked.connections ∷ []

-- a job as the name of its subcommand with the values of its arguments, in their order
abbrev pub task_of : Job → Text × List Value
task_of jobs.Tidy = (codes "tidy", [])
task_of jobs.Check = (codes "check", [])
task_of (jobs.Lookup asked) = (codes "lookup", lookup_values asked)
task_of (jobs.Script db journal) =
    (codes "script", OfSpare (text_given db) ∷ OfSpare (text_given journal) ∷ [])
task_of (jobs.Import asked) = (codes "import", import_values asked)
task_of (jobs.Export db) = (codes "export", OfText db.now ∷ [])
task_of (jobs.Serve asked) = (codes "serve", serve_values asked)
task_of (jobs.Migrate db) = (codes "migrate", OfText db.now ∷ [])

-- the value of a required option
abbrev pub needed : Text → List Row → Text
needed name rows = unwrap_or (first_of name rows) []

-- the number of at most so many bits that a text writes in decimal digits, which a plus may
-- precede; 0 for any other text
abbrev pub number_written : ℕ → Text → ℕ
number_written bits text =
    let digits = without_leading_plus text in
    if nat_lt 0 (length digits) && list_all (λ d. nat_lt (digit_value d) 10) digits && nat_lt
    (digits_value 10 digits) (2 ^ bits)
    then digits_value 10 digits else 0

-- the number of an option that is required or has a default
abbrev pub number_given : ℕ → Text → List Row → ℕ
number_given bits name rows = option_map_or (number_written bits) (one_of name rows) 0

-- the value that was given for an argument, and those for all arguments of a subcommand
abbrev pub value_of : List Row → Parameter → Value
value_of rows (Needed name) = OfText (needed name rows)
value_of rows (Spare name) = OfSpare (first_of name rows)
value_of rows (Operand name) = OfText (needed name rows)
value_of rows Port = OfNumber (number_given 16 (codes "port") rows)
value_of rows Connections = OfNumber (number_given 32 (codes "connections") rows)

abbrev pub argument_values : List Parameter → List Row → List Value
argument_values parameters rows = map (value_of rows) parameters

-- the task of the subcommand with this name, whose options have these values; `tidy` for any name
-- that is not in the table
abbrev pub task_named : Text → List Row → Text × List Value
task_named name rows = option_map_or (λ entry. (entry.0, argument_values entry.1 rows))
    (find (λ entry. bytes_eq name entry.0) table) (codes "tidy", [])

-- without a subcommand the task is `tidy`
abbrev pub task_given : Option (Text × List Row) → Text × List Value
task_given found = option_map_or (λ s. task_named s.0 s.1) found (codes "tidy", [])

-- the task that the arguments name, the first of which is the program's name
abbrev pub task_meant : List Text → Text × List Value
task_meant words = task_given (subcommand_of commands words)

-- the kinds of fault that the arguments have, a request for help or the version among them; none if
-- the arguments are valid
unfoldable pub faults_of : List Text → Kinds
faults_of words = fault_of commands words
