-- What is known of a handler before a call and after it.

-- While the handler is good, what is known of it leads on to what is known of it then. It is known
-- to be so: `is_good`, `stands`.
pub record Leads {H V : Type 0} (is_good : H → Type 0) (stands : H → V → Type 0) (old new : H)
    (Next : V → V → Type 0) : Type 0 where
  pub good : is_good new → is_good old
  pub leads : is_good new → (v : V) → stands old v → (w : V) × stands new w × Next v w
