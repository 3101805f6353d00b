-- The rules of checked words: choices of this project.
use Rattle.std.specs.Prelude.{ℕ, Bool, not, ◌&&◌, ◌||◌, List, length, nat_le, ◌==◌}
use Rattle.std.specs.List.{list_all}
use Rattle.std.specs.Str.{is_utf8}
use Rattle.pid_file.specs.Bytes.{is_printed, is_empty, begins_blank}
use Rattle.pid_file.specs.declared.name.TheConstants.{LONGEST_NAME}

-- a name of an item: UTF-8 of 1 byte to `LONGEST_NAME`, which is 1,000, without control bytes but
-- tabs, and with no leading blank
abbrev pub is_name : List ℕ → Bool
is_name bytes = is_utf8 bytes && not (is_empty bytes) && nat_le (length bytes) LONGEST_NAME && not
    (begins_blank bytes) && list_all is_printed bytes

-- a note, comment or reason: UTF-8 of at most 4,000 bytes without control bytes but tabs
abbrev pub is_text : List ℕ → Bool
is_text bytes = is_utf8 bytes && nat_le (length bytes) 4000 && list_all is_printed bytes

-- `a` to `z`, `0` to `9` or `-`
abbrev pub is_account_byte : ℕ → Bool
is_account_byte b = (nat_le 97 b && nat_le b 122) || (nat_le 48 b && nat_le b 57) || b == 45

-- the name of an account: 1 to 32 such bytes
abbrev pub is_account : List ℕ → Bool
is_account bytes = not (is_empty bytes) && nat_le
    (length bytes) 32 && list_all is_account_byte bytes

-- visible ASCII: `!` to `~`
abbrev pub is_key_byte : ℕ → Bool
is_key_byte b = nat_le 33 b && nat_le b 126

-- the key of a command: 1 to 64 such bytes
abbrev pub is_key : List ℕ → Bool
is_key bytes = not (is_empty bytes) && nat_le (length bytes) 64 && list_all is_key_byte bytes
