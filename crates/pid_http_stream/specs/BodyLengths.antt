-- What the fields of a head say of the body's length: message framing by Content-Length (RFC 9112,
-- section 6). The limit of 4 MiB, and that no transfer encoding is taken, are choices of this
-- project.
use Rattle.std.specs.Prelude.{ℕ, ◌&&◌, nat_lt, nat_le, List, [], ◌∷◌, length, codes}
use Rattle.std.specs.Prelude.{if◌then◌else◌}
use Rattle.std.specs.List.{list_all}
use Rattle.std.specs.Char.{is_ascii_digit}
use Rattle.std.specs.Str.Parse.{digits_value}
use Rattle.pid_http_stream.specs.FieldValues.{NamedValue, values_of}
use Rattle.pid_http_stream.specs.declared.limits.TheConstants.{LONGEST_BODY}
use Rattle.pid_http_stream.specs.declared.body_length.BodyLength.{BodyLength}
use Rattle.pid_http_stream.specs.declared.body_length.BodyLength.TheVariants.{Encoded, Bad}
use Rattle.pid_http_stream.specs.declared.body_length.BodyLength.TheVariants.{TooLong, Bytes}

-- the length that one Content-Length value says, if it is one or more decimal digits
abbrev pub length_said : List ℕ → BodyLength
length_said value =
    if nat_lt 0 (length value) && list_all is_ascii_digit value
    then (if nat_le (digits_value 10 value) LONGEST_BODY then Bytes
    (digits_value 10 value) else TooLong)
    else Bad

-- A transfer encoding decides before any length. Without a length there is no body, and more than
-- one is none.
abbrev pub length_of_values : List (List ℕ) → List (List ℕ) → BodyLength
length_of_values [] [] = Bytes 0
length_of_values [] (value ∷ []) = length_said value
length_of_values [] (value ∷ second ∷ more) = Bad
length_of_values (coding ∷ codings) lengths = Encoded

-- what the fields of a head say
unfoldable pub body_length : List NamedValue → BodyLength
body_length fields = length_of_values (values_of (codes "transfer-encoding") fields)
    (values_of (codes "content-length") fields)
