-- Whether a request asks that the connection be closed after its reply (RFC 9112, section 9.6): a
-- Connection field is a list of words between commas (RFC 9110, sections 5.6.1 and 7.6.1).
use Rattle.std.specs.Prelude.{ℕ, Bool, ◌||◌, ◌==◌, List, codes}
use Rattle.std.specs.List.{list_any, slice_split}
use Rattle.std.specs.Str.{str_eq_ignore_ascii_case}
use Rattle.httparse.specs.Ascii.{comma}
use Rattle.httparse.specs.Grammar.{trim_ows}
use Rattle.pid_http_stream.specs.FieldValues.{NamedValue, values_of}

-- without the blanks around it the word is close, in any case
abbrev pub is_close : List ℕ → Bool
is_close word = str_eq_ignore_ascii_case (trim_ows word) (codes "close")

-- one of the words between the commas is close
abbrev pub has_close : List ℕ → Bool
has_close value = list_any is_close (slice_split (λ b. b == comma) value)

-- the version is HTTP/1.0, or a Connection field has the word
unfoldable pub asks_to_close : ℕ → List NamedValue → Bool
asks_to_close minor fields = (minor == 0) || list_any has_close
    (values_of (codes "connection") fields)
