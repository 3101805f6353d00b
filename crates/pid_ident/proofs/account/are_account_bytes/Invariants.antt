use Rattle.std.proofs.Common.{◌≡◌, take}
use Rattle.std.specs.List.{list_all}
use Rattle.pid_file.specs.Words.{is_account_byte}
use Rattle.pid_ident.proofs.account.are_account_bytes.Given as goal

abbrev pub invariant-loop-byte : goal.invariant-loop-byte
invariant-loop-byte l = l.all ≡ list_all is_account_byte (take l.byte-index l.bytes)
