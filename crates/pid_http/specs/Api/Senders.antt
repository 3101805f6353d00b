-- Who sends a command: the fields X-Account and X-Key of a head, choices of this project.
use Rattle.std.specs.Prelude.{ℕ, ◌&&◌, List, [], ◌∷◌, Option, Some, None, codes, if◌then◌else◌}
use Rattle.std.specs.Prelude.{option_copied}
use Rattle.pid_ident.specs.Words.{is_account, is_key}
use Rattle.pid_http_stream.specs.FieldValues.{NamedValue, values_of}
use Rattle.pid_http.specs.declared.api.sender.Sender.{Sender}

-- an account, and a key if there is one
pub record Sending : Type 0 where
  pub account : List ℕ
  pub key : Option (List ℕ)

-- a sender by its bytes
abbrev pub sending_of : Sender → Sending
sending_of s = record { account = s.account.now; key = option_copied s.key }

abbrev pub sending_in : Option Sender → Option Sending
sending_in None = None
sending_in (Some s) = Some (sending_of s)

-- one account, and at most one key, each of which keeps its rule
abbrev pub sending : List (List ℕ) → List (List ℕ) → Option Sending
sending [] keys = None
sending (a ∷ b ∷ more) keys = None
sending (a ∷ []) [] = if is_account a then Some (record { account = a; key = None }) else None
sending (a ∷ []) (k ∷ []) = if is_account a && is_key k then Some
    (record { account = a; key = Some k }) else None
sending (a ∷ []) (k ∷ l ∷ more) = None

-- the sender that the fields of a head name, whatever the case of their names
unfoldable pub sender : List NamedValue → Option Sending
sender fields = sending (values_of (codes "x-account") fields) (values_of (codes "x-key") fields)
