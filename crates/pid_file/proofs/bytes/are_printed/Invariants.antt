use Rattle.std.proofs.Common.{◌≡◌, take}
use Rattle.std.specs.List.{list_all}
use Rattle.pid_file.specs.Bytes.{is_printed}
use Rattle.pid_file.proofs.bytes.are_printed.Given as goal

abbrev pub invariant-loop-byte : goal.invariant-loop-byte
invariant-loop-byte l = l.all ≡ list_all is_printed (take l.byte-index l.bytes)
