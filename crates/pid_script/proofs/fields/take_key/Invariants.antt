-- No field so far is the key, and all are there.
use Rattle.std.proofs.Common.{◌≡◌, ◌+◌, drop}
use Rattle.std.specs.List.{position_or_len}
use Rattle.pid_script.proofs.KeyFields.{is_key}
use Rattle.pid_script.proofs.fields.take_key.Given as goal

abbrev pub invariant-loop-place : goal.invariant-loop-place
invariant-loop-place l = (l.fields ≡ l.fn.fields) × (position_or_len is_key l.fields.items ≡ l.place + position_or_len is_key (drop l.place l.fields.items))
