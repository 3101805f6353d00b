-- One more entry is counted, up to the greatest count.
use Rattle.std.specs.Prelude.{◌≡◌, ◌+◌, ◌-◌, ◌^◌, min}
use Rattle.pid_file.specs.declared.counter.Counter.{Counter}
use Rattle.pid_file.specs.Numbered.{Numbered}

abbrev pub Counts : Counter → Numbered → Counter → Type 0
Counts s entry t = t.count ≡ min (s.count + 1) (2 ^ 64 - 1)
