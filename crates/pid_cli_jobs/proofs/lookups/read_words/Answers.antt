use Rattle.std.specs.Prelude.{◌≡◌, ◌↔◌, ℕ, true, List, Some, Result, Ok, Err, IfOk, IsErr}
use Rattle.std.proofs.Common.{refl, sym, ap, ◌∙◌}
use Rattle.pid_lookup.specs.Fields.{are_bad, as_lookup, bytes_of, lookup_from}
use Rattle.pid_lookup.specs.declared.fields.BadField.{BadField}
use Rattle.pid_cli_jobs.specs.Jobs.{IsReadFrom, LookupValues, fields_given}
use Rattle.pid_cli_jobs.proofs.lookups.read_words.Goals as goal

read : (fields given : List (List ℕ × List ℕ)) (r : Result LookupValues BadField) → fields ≡ given
    → IfOk r (λ lookup. lookup_from fields ≡ Some (as_lookup lookup))
    → IsErr r ↔ (are_bad fields ≡ true) → IsReadFrom given r
read fields given (Ok lookup) same ok bad = ap lookup_from (sym same) ∙ ok
read fields given (Err fault) same ok bad = ap are_bad (sym same) ∙ bad.0 refl

pub returns : goal.returns
returns c = read (bytes_of c.deref.result.now) (fields_given c.args.words.now) c.args_of.result
    (ap (λ fs. bytes_of fs) c.deref.ensures.value ∙ c.in_ok-push_fields.ensures c.new-fields.ensures.items)
    c.args_of.ensures.ok c.args_of.ensures.bad
