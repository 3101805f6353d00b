-- What is left of the rule of a word when its length and its first byte are known.
use Rattle.std.proofs.Common.{◌≡◌, ℕ, ◌≤◌, List, length, false, true, leb, refl, arith}
use Rattle.std.specs.Str.{IsUtf8}
use Rattle.std.specs.List.{list_all}
use Rattle.std.proofs.lemmas.Str.{is_utf8-from_IsUtf8}
use Rattle.std.proofs.lemmas.Bool.Decides.{nat_tests}
use Rattle.pid_file.specs.Bytes.{is_empty, begins_blank, is_printed}
use Rattle.pid_file.specs.declared.name.TheConstants.{LONGEST_NAME}
use Rattle.pid_file.specs.Words.{is_name, is_text, is_account, is_account_byte, is_key, is_key_byte}

short : (t : List ℕ) (most : ℕ) → length t ≤ most → leb (length t) most ≡ true
short t most le = grind (arith, nat_tests)

pub name_said : (t : List ℕ) → IsUtf8 t → is_empty t ≡ false → length t ≤ LONGEST_NAME → begins_blank t ≡ false → list_all is_printed t ≡ is_name t
name_said t u e le b = rw (is_utf8-from_IsUtf8 t u, e, short t LONGEST_NAME le, b) refl

pub text_said : (t : List ℕ) → IsUtf8 t → length t ≤ 4000 → list_all is_printed t ≡ is_text t
text_said t u le = rw (is_utf8-from_IsUtf8 t u, short t 4000 le) refl

pub account_said : (t : List ℕ) → is_empty t ≡ false → length t ≤ 32 → list_all is_account_byte t ≡ is_account t
account_said t e le = rw (e, short t 32 le) refl

pub key_said : (t : List ℕ) → is_empty t ≡ false → length t ≤ 64 → list_all is_key_byte t ≡ is_key t
key_said t e le = rw (e, short t 64 le) refl
