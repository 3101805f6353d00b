use Rattle.std.proofs.Common.{◌≡◌, take}
use Rattle.std.specs.List.{list_all}
use Rattle.pid_file.specs.Words.{is_key_byte}
use Rattle.pid_ident.proofs.key.are_key_bytes.Given as goal

abbrev pub invariant-loop-byte : goal.invariant-loop-byte
invariant-loop-byte l = l.all ≡ list_all is_key_byte (take l.byte-index l.bytes)
