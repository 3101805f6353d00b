-- Serves private functions alone; no promise rests on it.
-- Words that grow one by one.
use Rattle.std.specs.Prelude.{ℕ, Bool, true, false, List, [], ◌∷◌, ◌++◌}

abbrev pub spaced : List ℕ → List ℕ → List ℕ
spaced [] word = word
spaced (b ∷ bs) word = (b ∷ bs) ++ (32 ∷ []) ++ word

-- one more word after a space, if it is there
abbrev pub with_word : List ℕ → Bool → List ℕ → List ℕ
with_word words true word = spaced words word
with_word words false word = words
