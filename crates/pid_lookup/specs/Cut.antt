-- The cut of a text to a buffer: the end of libpci's format_name.
use Rattle.std.specs.Prelude.{ℕ, ◌-◌, nat_lt, nat_le, if◌then◌else◌, List, ◌++◌, length}
use Rattle.std.specs.Prelude.{take, codes}

abbrev pub too_small : List ℕ
too_small = codes "<pci_lookup_name: buffer too small>"

-- The text if it and its closing 0 byte fit into a buffer of `size` bytes; else as much of it as
-- leaves room for three dots and that byte. If it does not fit, and the buffer has less than 4
-- bytes, it is the text that says so, whole.
abbrev pub cut : List ℕ → ℕ → List ℕ
cut text size =
    if nat_lt (length text) size then text else
    (if nat_le 4 size then take (size - 4) text ++ codes "..." else too_small)
