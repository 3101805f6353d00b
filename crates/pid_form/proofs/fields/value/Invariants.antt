use Rattle.std.proofs.Common.{◌≡◌, drop}
use Rattle.pid_form.specs.FormFields.{bytes_of}
use Rattle.pid_form.specs.Fields.{value}
use Rattle.pid_form.proofs.fields.value.Given as goal

abbrev pub invariant-loop-field : goal.invariant-loop-field
invariant-loop-field l = value l.name (bytes_of l.fields) ≡ value l.name (bytes_of (drop l.field-index l.fields))
