use Rattle.std.proofs.Common.{◌≡◌, ◌≤◌, take}
use Rattle.std.specs.Prelude.{count_by, string_bytes}
use Rattle.std.specs.Str.{bytes_eq}
use Rattle.pid_form.proofs.fields.times_by_name.Given as goal

abbrev pub invariant-loop-field : goal.invariant-loop-field
invariant-loop-field l = record {
  counted : l.count ≡ count_by (λ f. bytes_eq (string_bytes f.0) l.name) (take l.field-index l.fields);
  few : l.count ≤ l.field-index;
}
