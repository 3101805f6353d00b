-- Members of an object, one at a time.
use Rattle.std.proofs.Common.{◌≡◌, ℕ, List, Bool, Result, Ok, Err, rules, ◌∙◌}
use Rattle.std.specs.Prelude.{IfOk}
use Rattle.serde_json.specs.Data.{Data, Members, boolean, put}
use Rattle.serde_json.specs.View.{view}
use Rattle.serde_json.specs.declared.value.Value.{Bool as Truth, the_lemmas}

pub view_truth : (b : Bool) → view (Truth b) ≡ boolean b
view_truth b = search (rules, the_lemmas)

-- one more, by what its value stands for
pub one_more : (key : List ℕ) (new old ms : Members) (v d : Data) → new ≡ put key v old → v ≡ d → old ≡ ms → new ≡ put key d ms
one_more key new old ms v d is value before = is ∙ (λ k. put key (value k) (before k))

-- the same of what may not have been made
pub grown : {X E : Type 0} (r : Result X E) (seen : X → Members) (key : List ℕ) (old ms : Members) (v d : Data) → IfOk r (λ x. seen x ≡ put key v old) → v ≡ d → old ≡ ms → IfOk r (λ x. seen x ≡ put key d ms)
grown (Ok x) seen key old ms v d is value before = one_more key (seen x) old ms v d is value before
grown (Err e) seen key old ms v d is value before = tt
