use Rattle.std.proofs.Common.{◌≡◌, ◌++◌, ◌-◌, length, take}
use Rattle.std.specs.List.{flat_map}
use Rattle.pid_lookup.proofs.cut.push_front.Given as goal

-- the front of the parts so far, and what is left of the limit
abbrev pub invariant-loop-part : goal.invariant-loop-part
invariant-loop-part l = record {
  taken : l.text.items ≡ l.fn.text.items ++ take l.limit (flat_map (λ part. part.now) (take l.part-index l.parts));
  left : l.room ≡ l.limit - length (flat_map (λ part. part.now) (take l.part-index l.parts));
}
