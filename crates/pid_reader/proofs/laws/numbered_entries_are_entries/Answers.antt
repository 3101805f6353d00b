use Rattle.std.proofs.Common.{[]}
use Rattle.pid_file.specs.Reading.{read_from}
use Rattle.pid_file.proofs.Feeding.{items_in_numbered}
use Rattle.pid_reader.proofs.laws.numbered_entries_are_entries.Goals as goal

pub returns : goal.returns
returns c lines = items_in_numbered (read_from [] lines)
