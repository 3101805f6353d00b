-- The fields so far, and those that are left.
use Rattle.std.proofs.Common.{◌≡◌, ◌++◌, map}
use Rattle.form_urlencoded.specs.Parse.{owned_pairs_left}
use Rattle.pid_form.specs.FormFields.{bytes_of, field, fields_in}
use Rattle.pid_form.proofs.parsing.fields_of.Given as goal

abbrev pub invariant-loop-field : goal.invariant-loop-field
invariant-loop-field l = bytes_of l.fields.items ++ map field (owned_pairs_left l.field-iterator) ≡ fields_in l.form
