-- Statements that were carried out one after the other.
use Rattle.std.proofs.Common.{ℕ, List, [], ◌∷◌, ◌++◌, Ok, Err, Result, OnOk, ap, refl, subst}
use Rattle.sqlite.specs.State.{State}
use Rattle.sqlite.specs.Order.{Row}
use Rattle.pid_tables.specs.Rows.Clauses.{Executes}
use Rattle.pid_tables.specs.Statements.{Statement, CarriedOut}

module _ {S : Type 0} (state : S → State) where
  pub carried_one : {X F : Type 0} (text : List ℕ) (params : Row) (old new : S) (r : Result X F) → OnOk r ((count : ℕ) × Executes state text params old new (Ok count)) → OnOk r (CarriedOut state ((text, params) ∷ []) old new)
  carried_one text params old new (Ok x) (count, ran) = (new, count, ran, refl)
  carried_one text params old new (Err e) ran = tt

  pub carried_both : (a b : List Statement) (old mid new : S) → CarriedOut state a old mid → CarriedOut state b mid new → CarriedOut state (a ++ b) old new
  carried_both [] b old mid new one two = subst (λ h. CarriedOut state b h new) one two
  carried_both (s ∷ a) b old mid new (next, count, ran, one) two = (next, count, ran, carried_both a b next mid new one two)

  -- the last step answers
  pub carried_then : {X F : Type 0} (a b : List Statement) (old mid new : S) (r : Result X F) → CarriedOut state a old mid → OnOk r (CarriedOut state b mid new) → OnOk r (CarriedOut state (a ++ b) old new)
  carried_then a b old mid new (Ok x) one two = carried_both a b old mid new one two
  carried_then a b old mid new (Err e) one two = tt

-- what was carried out in a transaction was so on its connection
pub carried_over : {T S : Type 0} (state : S → State) (f : T → S) (statements : List Statement) (old new : T) → CarriedOut (λ t. state (f t)) statements old new → CarriedOut state statements (f old) (f new)
carried_over state f [] old new same = ap f same
carried_over state f (s ∷ rest) old new (mid, count, ran, more) = (f mid, count, ran, carried_over state f rest mid new more)
