-- The commands and the questions that the fields of forms say: choices of this project.
use Rattle.std.specs.Prelude.{ℕ, Bool, not, ◌&&◌, ◌==◌, List, [], ◌∷◌, length, Option, Some, None}
use Rattle.std.specs.Prelude.{is_none, codes, Result, Ok, Err}
use Rattle.std.specs.List.{position_or_len, remove}
use Rattle.std.specs.Str.{bytes_eq}
use Rattle.pid_file.specs.declared.path.Path.{Path}
use Rattle.pid_ident.specs.PathReading.{path_of}
use Rattle.pid_moderation.specs.declared.command.Command.{Command}
use Rattle.pid_moderation.specs.declared.refusal.Refusal.{Refusal}
use Rattle.pid_moderation.specs.declared.refusal.Refusal.TheVariants.{BadText, BadPath}
use Rattle.pid_moderation.specs.declared.verb.Verb.{Verb}
use Rattle.pid_moderation.specs.CheckTables.{Checks, first_failing}
use Rattle.pid_moderation.specs.Fields.{Fields, is_once, value, text_at}
use Rattle.pid_moderation.specs.Forms.{form_checks, command_said}
use Rattle.pid_form.specs.FormFields.{fields_in}
use Rattle.pid_lookup.specs.Fields.{Lookup, lookup_from}

-- the field of the key, which each verb may have
abbrev pub is_key_field : List ℕ × List ℕ → Bool
is_key_field field = bytes_eq field.0 (codes "key")

-- the fields without the first of the key: a second one is a field that the verb does not know
abbrev pub other_fields : Fields → Fields
other_fields fields = remove fields (position_or_len is_key_field fields)

-- the refusal of a check that fails, else what was said; what passes the checks says something
abbrev pub refused_or : {X : Type 0} → Option Refusal → Option X → Result X Refusal
refused_or (Some refusal) said = Err refusal
refused_or None None = Err BadText
refused_or None (Some x) = Ok x

-- the same for the fields of a form
abbrev pub command_of_fields : Verb → List ℕ → Fields → Result Command Refusal
command_of_fields verb account fields =
    refused_or (first_failing (form_checks verb account (value (codes "key") fields)
    (other_fields fields)))
    (command_said verb account (value (codes "key") fields) (other_fields fields))

-- the command of an account that a form says, or the first form check that fails
unfoldable pub command_in_form : Verb → List ℕ → List ℕ → Result Command Refusal
command_in_form verb account form = command_of_fields verb account (fields_in form)

-- the fields are a path alone, once; and it is a path
abbrev pub path_checks : Fields → Checks
path_checks fields = (not (is_once (codes "path") fields && length fields == 1), BadText)
    ∷ (is_none (path_of (text_at (codes "path") fields)), BadPath) ∷ []

-- the path that the fields say, or the first of these checks that fails
abbrev pub path_in : Fields → Result Path Refusal
path_in fields = refused_or (first_failing (path_checks fields))
    (path_of (text_at (codes "path") fields))

-- the path that a form says, in the field `path` alone
unfoldable pub path_asked : List ℕ → Result Path Refusal
path_asked form = path_in (fields_in form)

-- the look-up that a form says, if its fields are not bad
unfoldable pub lookup_in_form : List ℕ → Option Lookup
lookup_in_form form = lookup_from (fields_in form)
