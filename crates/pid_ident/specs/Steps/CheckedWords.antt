-- What the text of a checked word is.
use Rattle.std.specs.Prelude.{◌≡◌, ℕ, Bool, List, IsTrue}

-- these are the bytes of the word, and they keep the rule
pub record ShowsWord (keeps : List ℕ → Bool) (word bytes : List ℕ) : Type 0 where
  pub text : bytes ≡ word
  pub checked : IsTrue (keeps word)
