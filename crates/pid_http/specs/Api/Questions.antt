-- What a request asks for by its method and its target, and what the fields of its query say: choices
-- of this project.
use Rattle.std.specs.Prelude.{ℕ, Bool, not, ◌&&◌, if◌then◌else◌, List, codes, Option, Some, None}
use Rattle.std.specs.Prelude.{Result, Ok, Err, true, false, ◌||◌, ◌==◌, [], ◌∷◌, length, drop}
use Rattle.std.specs.List.{list_all, list_any, starts_with}
use Rattle.std.specs.Option.{ok_or}
use Rattle.std.specs.Str.{bytes_eq, is_utf8}
use Rattle.pid_form.specs.Fields.{is_twice}
use Rattle.pid_ident.specs.Bytes.{is_empty}
use Rattle.pid_ident.specs.PathReading.{path_of}
use Rattle.pid_ident.specs.Words.{is_account}
use Rattle.pid_file.specs.declared.path.Path.{Path}
use Rattle.pid_lookup.specs.Fields.{Lookup, lookup_from}
use Rattle.pid_moderation.specs.CheckTables.{most_revision}
use Rattle.pid_moderation.specs.Fields.{Fields, value, text_at}
use Rattle.pid_moderation.specs.Forms.{number_in}
use Rattle.pid_moderation.specs.declared.refusal.Refusal.TheVariants.{BadPath, BadText}
use Rattle.pid_http.specs.declared.api.early.RefusedEarly.{RefusedEarly}
use Rattle.pid_http.specs.declared.api.early.RefusedEarly.TheVariants.{BadQuery, BadValue}
use Rattle.pid_http.specs.declared.api.early.RefusedEarly.TheVariants.{AnotherMethod}
use Rattle.pid_http.specs.declared.api.early.RefusedEarly.TheVariants.{BadTarget, NoRoute, WantsGet}
use Rattle.pid_http.specs.declared.api.early.RefusedEarly.TheVariants.{WantsPost}
use Rattle.pid_http.specs.declared.api.format.Format.{Format}
use Rattle.pid_http.specs.declared.api.format.Format.TheVariants.{Json, Text}
use Rattle.form_urlencoded.specs.Form.{split_once}
use Rattle.pid_form.specs.FormFields.{fields_in}
use Rattle.pid_http.specs.Api.Routes.{Route, route_at}
use Rattle.pid_http.specs.declared.api.route_table.Payload.{Payload}
use Rattle.pid_http.specs.declared.api.route_table.Topic.{Topic}
use Rattle.pid_http.specs.declared.api.question.Question.{Question}
use Rattle.pid_http.specs.declared.api.request.Request.{Request}
use Rattle.pid_http.specs.declared.api.request.Request.TheVariants.{Refused, Asks, Obeys}
use Rattle.pid_http_stream.specs.declared.handler.Wanted.{Wanted}
use Rattle.pid_http_stream.specs.declared.handler.Wanted.TheVariants.{Buffered, Streamed}
use Rattle.pid_form.specs.Numbers as numbers
use Rattle.pid_http.specs.declared.api.route_table.Payload.TheVariants as payloads
use Rattle.pid_http.specs.declared.api.route_table.Topic.TheVariants as topics
use Rattle.pid_http.specs.declared.api.question.Question.TheVariants as questions

-- what is said, or how it is refused
abbrev pub Said : Type 0 → Type 0
Said X = Result X RefusedEarly

-- what is made of what is said
abbrev pub on_said : {X Y : Type 0} → (X → Y) → Said X → Said Y
on_said f (Ok x) = Ok (f x)
on_said f (Err early) = Err early

-- and of two things, of which the first is judged first
abbrev pub then_said : {X Y : Type 0} → (X → Said Y) → Said X → Said Y
then_said f (Ok x) = f x
then_said f (Err early) = Err early

-- `json`, also if nothing is said, or `text`
abbrev pub format_said : Option (List ℕ) → Said Format
format_said None = Ok Json
format_said (Some text) = if bytes_eq text (codes "json") then Ok Json else if bytes_eq text
    (codes "text") then Ok Text else Err BadQuery

-- each field has one of these names, and no two have the same
abbrev pub are_of : List (List ℕ) → Fields → Bool
are_of names fields = list_all (λ field. list_any (λ name. bytes_eq field.0 name) names) fields
    && list_all (λ name. not (is_twice name fields)) names

-- the format that fields say, which may have these names alone
abbrev pub format_in : List (List ℕ) → Fields → Said Format
format_in names fields = if are_of names fields then format_said (value (codes "format") fields)
    else Err BadQuery

-- the account with this name, if a text may be one
abbrev pub account_said : List ℕ → Said (List ℕ)
account_said text = if is_account text then Ok text else Err BadQuery

-- the account that is named, if one is
abbrev pub author_said : Option (List ℕ) → Said (Option (List ℕ))
author_said None = Ok None
author_said (Some text) = on_said Some (account_said text)

-- the number of a submission
abbrev pub num_said : List ℕ → Said ℕ
num_said text = ok_or (number_in text) BadQuery

-- a number, or `0`, also if nothing is said
abbrev pub or_zero : (List ℕ → Option ℕ) → Option (List ℕ) → Said ℕ
or_zero number None = Ok 0
or_zero number (Some text) = if bytes_eq text (codes "0") then Ok 0 else ok_or (number text) BadQuery

-- the number of a submission, or `0`
abbrev pub after_said : Option (List ℕ) → Said ℕ
after_said said = or_zero number_in said

-- the number of a change, or `0`: 1 to the greatest revision, which has 19 digits
abbrev pub revision_said : Option (List ℕ) → Said ℕ
revision_said said = or_zero (numbers.number_up_to most_revision 19) said

-- the path that a text is
abbrev pub named_path : Format → List ℕ → Said Path
named_path format text = ok_or (path_of text) (BadValue BadPath format)

-- the path that is named, if a text names one; none if it is empty
abbrev pub path_said : Format → List ℕ → Said (Option Path)
path_said format text = if is_empty text then Ok None else on_said Some (named_path format text)

-- a look-up: the fields that say it are those of `pid_lookup`
abbrev pub lookup_asked : Lookup → Question
lookup_asked l = questions.Lookup l.flags l.args l.size

-- what follows the prefix of a path, if the path has it
abbrev pub rest_after : List ℕ → List ℕ → List ℕ
rest_after front path = if starts_with ◌==◌ path front then drop (length front) path else []

-- the submissions for `path`, of `author`, below `before`
abbrev pub submissions_asked : Fields → Format → Said Question
submissions_asked fields format = then_said (λ before. then_said (λ author. on_said
    (λ path. questions.Submissions path author before)
    (path_said format (text_at (codes "path") fields)))
    (author_said (value (codes "author") fields))) (after_said (value (codes "before") fields))

-- what is asked about a topic, by the path and the fields of a query
unfoldable pub topic_asked : Topic → List ℕ → Fields → Format → Said Question
topic_asked (topics.Whole whole) path fields format = Ok (questions.Whole whole)
topic_asked topics.Read path fields format = on_said questions.Read
    (named_path format (rest_after (codes "/read/") path))
topic_asked topics.Children path fields format = on_said questions.Children
    (path_said format (text_at (codes "of") fields))
topic_asked topics.Lookup path fields format = on_said lookup_asked
    (ok_or (lookup_from fields) BadQuery)
topic_asked topics.Submission path fields format = on_said questions.Submission
    (ok_or (number_in (rest_after (codes "/submission/") path)) (BadValue BadText format))
topic_asked topics.Remarks path fields format = then_said
    (λ number. on_said (questions.Remarks number) (after_said (value (codes "after") fields)))
    (num_said (text_at (codes "num") fields))
topic_asked (topics.Pages pages) path fields format = on_said (questions.Pages pages)
    (after_said (value (codes "after") fields))
topic_asked topics.Changes path fields format = then_said
    (λ since. on_said (questions.Changes since) (path_said format (text_at (codes "after") fields)))
    (revision_said (value (codes "since") fields))
topic_asked topics.Submissions path fields format = submissions_asked fields format
topic_asked topics.Rank path fields format = on_said questions.Rank
    (account_said (text_at (codes "who") fields))

-- a request whose body is held in memory, or an import with the format of its reply
abbrev pub Asking : Type 0
Asking = Wanted Request Format

-- what a payload asks for: a command, whose own fields are in the body, or that a file is taken in
abbrev pub payload_as : Payload → Format → Asking
payload_as (payloads.Command verb) format = Buffered (Obeys verb format)
payload_as payloads.Import format = Streamed format

-- by GET: the names of the fields, their format, and then what they say of the topic
abbrev pub get_asked : Route → List ℕ → List ℕ → Said Request
get_asked (route, names, None, payload) path query = Err WantsPost
get_asked (route, names, Some topic, payload) path query = then_said (λ format. on_said
    (λ asked. Asks asked format) (topic_asked topic path (fields_in query) format))
    (format_in names (fields_in query))

-- by POST: a format alone
abbrev pub post_asked : Option Payload → List ℕ → Said Asking
post_asked None query = Err WantsGet
post_asked (Some payload) query = on_said (payload_as payload)
    (format_in (codes "format" ∷ []) (fields_in query))

-- at a route, by GET or else by POST
abbrev pub route_asked : Bool → Option Route → List ℕ → List ℕ → Said Asking
route_asked is_get None path query = Err NoRoute
route_asked true (Some route) path query = on_said Buffered (get_asked route path query)
route_asked false (Some route) path query = post_asked route.3 query

-- the first byte is `/`
abbrev pub begins_slash : List ℕ → Bool
begins_slash [] = false
begins_slash (b ∷ bytes) = b == 47

-- a target is text, as it is in each head, and begins with a slash
abbrev pub is_target : List ℕ → Bool
is_target target = is_utf8 target && begins_slash target

-- at a target: the route of its path, which is what comes before the first `?`; the query is what
-- comes after it
unfoldable pub target_asked : Bool → List ℕ → Said Asking
target_asked is_get target = route_asked is_get (route_at (split_once 63 target).0)
    (split_once 63 target).0 (split_once 63 target).1

-- a method is a name with a case (RFC 9110, section 9.1)
abbrev pub is_get : List ℕ → Bool
is_get method = bytes_eq method (codes "GET")

-- by a method and a target: the method is judged first
abbrev pub asked_by : List ℕ → List ℕ → Said Asking
asked_by method target = if is_get method || bytes_eq method (codes "POST")
    then (if is_target target then target_asked (is_get method) target else Err BadTarget)
    else Err AnotherMethod

-- a request that is refused early needs no body but the one in memory
abbrev pub unless_early : Said Asking → Asking
unless_early (Ok wanted) = wanted
unless_early (Err early) = Buffered (Refused early)

-- what is asked by a method and a target, neither of which is decoded
unfoldable pub question : List ℕ → List ℕ → Asking
question method target = unless_early (asked_by method target)
