-- The commands of the program and their arguments, as the command line parser `clap` defines them.
-- The set is a choice of this project.
use Rattle.std.specs.Prelude.{ℕ, true, pos, List, [], ◌∷◌, Some, codes}
use Rattle.std.specs.List.{fold}
use Rattle.clap.specs.Walk.{Rule, Text}
use Rattle.clap.specs.Words.{App, new_app, new_rule, with_rule, with_subcommand}
use Rattle.clap.specs.declared.builder.value_parser.ValueParser.TheVariants.{Signed}

-- an argument, by its name: an option that must be given, or may be left out; a value without a
-- name before it; the options `--port N` and `--connections N`
pub data Parameter : Type 0 where
  Needed : Text → Parameter
  Spare : Text → Parameter
  Operand : Text → Parameter
  Port : Parameter
  Connections : Parameter

-- an option that takes one value, as `--db FILE`
abbrev pub option : Text → Rule
option name = record (new_rule name) { long = Some name; value_names = 1 }

-- it is required
abbrev pub required : Rule → Rule
required rule = record rule { required = true }

-- its value is a number from 1 to `most`
abbrev pub from_one_to : ℕ → Rule → Rule
from_one_to most rule = record rule { parser = Some (Signed (pos 1) (pos most)) }

-- what an argument makes of a command; a million connections by default
abbrev pub rule_of : Parameter → Rule
rule_of (Needed name) = required (option name)
rule_of (Spare name) = option name
rule_of (Operand name) = required (record (new_rule name) { value_names = 1 })
rule_of Port = required (from_one_to 65535 (option (codes "port")))
rule_of Connections =
    record (from_one_to 1000000 (option (codes "connections"))) { defaults = codes "1000000" ∷ [] }

abbrev pub with_parameter : App → Parameter → App
with_parameter app parameter = with_rule app (rule_of parameter)

-- lookup --ids FILE --flags HEX [--size N] [--vendor H] [--device H] [--subvendor H]
-- [--subdevice H] [--class H] [--progif H]
abbrev pub of_lookup : List Parameter
of_lookup = Needed (codes "ids") ∷ Needed (codes "flags") ∷ Spare (codes "size")
    ∷ Spare (codes "vendor") ∷ Spare (codes "device") ∷ Spare (codes "subvendor")
    ∷ Spare (codes "subdevice") ∷ Spare (codes "class") ∷ Spare (codes "progif") ∷ []

-- import --db FILE [--journal FOLDER] --account A [--key K] IDS
abbrev pub of_import : List Parameter
of_import = Needed (codes "db") ∷ Spare (codes "journal") ∷ Needed (codes "account")
    ∷ Spare (codes "key") ∷ Operand (codes "ids") ∷ []

-- the subcommands but `tidy`, each with its arguments
abbrev pub table : List (Text × List Parameter)
table = (codes "check", [])
    ∷ (codes "lookup", of_lookup)
    ∷ (codes "script", Spare (codes "db") ∷ Spare (codes "journal") ∷ [])
    ∷ (codes "import", of_import)
    ∷ (codes "export", Needed (codes "db") ∷ [])
    ∷ (codes "serve", Needed (codes "db") ∷ Spare (codes "journal") ∷ Port ∷ Connections ∷ [])
    ∷ (codes "migrate", Needed (codes "db") ∷ [])
    ∷ []

abbrev pub with_entry : App → Text × List Parameter → App
with_entry app entry = with_subcommand app (fold with_parameter (new_app entry.0) entry.1).top

-- `pciids` also answers `--version` and `-V`
abbrev pub with_version : App → App
with_version app = record app { top = record app.top { has_version = true } }

abbrev pub program : App
program = with_version (new_app (codes "pciids"))

-- `pciids` and its subcommands
abbrev pub commands : App
commands = with_entry (fold with_entry program table) (codes "tidy", [])
