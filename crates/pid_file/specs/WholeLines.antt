-- Which lines of a text that comes in chunks are whole: those whose LF has come.
-- A text is its ended lines, each with its LF, and then its open part, in which there is no LF.
use Rattle.std.specs.Prelude.{ℕ, List, [], ◌∷◌, map, ◌==◌, if◌then◌else◌}
use Rattle.pid_file.specs.Lines.{drop_cr}

-- a byte goes onto the first ended piece; if there is none it is of the open part
abbrev pub onto_ended : ℕ → List (List ℕ) → List (List ℕ)
onto_ended b [] = []
onto_ended b (piece ∷ pieces) = (b ∷ piece) ∷ pieces

-- the pieces before each LF
abbrev pub ended_pieces : List ℕ → List (List ℕ)
ended_pieces [] = []
ended_pieces (b ∷ bs) = if b == 10 then [] ∷ ended_pieces bs else onto_ended b (ended_pieces bs)

-- a byte goes onto the open part if no ended line comes between
abbrev pub onto_open : ℕ → List (List ℕ) → List ℕ → List ℕ
onto_open b [] rest = b ∷ rest
onto_open b (piece ∷ pieces) rest = rest

-- what follows the last LF
abbrev pub open_part : List ℕ → List ℕ
open_part [] = []
open_part (b ∷ bs) = if b == 10 then open_part bs else onto_open b (ended_pieces bs) (open_part bs)

-- the lines whose LF has come
abbrev pub whole_lines : List ℕ → List (List ℕ)
whole_lines text = map drop_cr (ended_pieces text)
