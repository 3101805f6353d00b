-- A scan of bytes for line ends and nothing else, the last perhaps without its LF.
use Rattle.std.specs.Prelude.{ℕ, Bool, true, false, not, ◌&&◌, ◌==◌, List, [], ◌∷◌, if◌then◌else◌}
use Rattle.httparse.specs.Ascii.{carriage_return, line_feed}

-- cr: a CR came just before
abbrev pub blank_after : Bool → List ℕ → Bool
blank_after cr [] = true
blank_after cr (b ∷ bytes) = if b == line_feed then blank_after false bytes else
    (if b == carriage_return && not cr then blank_after true bytes else false)
