use Rattle.std.proofs.Common.{◌≡◌, ◌-◌, ◌^◌, min, length, take}
use Rattle.std.specs.List.{flat_map}
use Rattle.pid_lookup.proofs.cut.total_length.Given as goal

abbrev pub invariant-loop-part : goal.invariant-loop-part
invariant-loop-part l = l.total ≡ min (length (flat_map (λ part. part.now) (take l.part-index l.parts))) (2 ^ 64 - 1)
