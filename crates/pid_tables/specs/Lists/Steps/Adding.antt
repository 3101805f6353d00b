-- Lists that grow row by row.
use Rattle.std.specs.Prelude.{◌≡◌, List, ◌++◌, map}

-- what the elements stand for: these were added after those that were there before
abbrev pub Adds : {X Y : Type 0} → (X → Y) → List X → List X → List Y → Type 0
Adds stands_for old new more = map stands_for new ≡ map stands_for old ++ more
