-- Words of ASCII are UTF-8.
use Rattle.std.proofs.Common.{◌≡◌, ℕ, zero, suc, ◌<◌, List, [], ◌∷◌, Bool, true, arith}
use Rattle.std.specs.Prelude.{IsUtf8}
use Rattle.std.specs.List.{list_all}
use Rattle.std.specs.Str.{IsAscii}
use Rattle.std.proofs.lemmas.Str.{IsUtf8-from_ascii, IsUtf8-from_is_utf8}
use Rattle.std.proofs.lemmas.Bool.{and_parts}
use Rattle.pid_ident.specs.Words.{is_account, is_account_byte, is_key, is_key_byte, is_name, is_text}

pub all_ascii : (p : ℕ → Bool) (bytes : List ℕ) → ((b : ℕ) → p b ≡ true → b < 128) → list_all p bytes ≡ true → IsAscii bytes
all_ascii p [] small all i = omega arith
all_ascii p (b ∷ bytes) small all zero = small b (and_parts _ _ all).0
all_ascii p (b ∷ bytes) small all (suc i) = all_ascii p bytes small (and_parts _ _ all).1 i

account_byte : (b : ℕ) → is_account_byte b ≡ true → b < 128
account_byte b h = grind arith

pub account_utf8 : (name : List ℕ) → is_account name ≡ true → IsUtf8 name
account_utf8 name good = IsUtf8-from_ascii name (all_ascii is_account_byte name account_byte (and_parts _ _ good).1)

key_byte : (b : ℕ) → is_key_byte b ≡ true → b < 128
key_byte b h = grind arith

pub key_utf8 : (key : List ℕ) → is_key key ≡ true → IsUtf8 key
key_utf8 key good = IsUtf8-from_ascii key (all_ascii is_key_byte key key_byte (and_parts _ _ good).1)

pub name_utf8 : (name : List ℕ) → is_name name ≡ true → IsUtf8 name
name_utf8 name good = IsUtf8-from_is_utf8 name (and_parts _ _ (and_parts _ _ (and_parts _ _ (and_parts _ _ good).0).0).0).0

pub text_utf8 : (text : List ℕ) → is_text text ≡ true → IsUtf8 text
text_utf8 text good = IsUtf8-from_is_utf8 text (and_parts _ _ (and_parts _ _ good).0).0
