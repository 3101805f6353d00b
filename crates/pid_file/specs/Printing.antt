-- The canonical text of a tree. Its lines are lines of pci.ids(5); which lines there are, their
-- order and the two spaces before a name are choices of this project.
use Rattle.std.specs.Prelude.{ℕ, Bool, false, not, ◌&&◌, List, [], ◌∷◌, ◌++◌, length, codes, ◌==◌}
use Rattle.std.specs.Prelude.{take, drop, if◌then◌else◌}
use Rattle.std.specs.Ordering.{is_eq}
use Rattle.std.specs.FinMap.{entries}
use Rattle.pid_file.specs.Trees.{TreeMap, text_cmp}

-- What comes before the name in the line of an item: the label of its path, read off the path's
-- text. It is meant for texts of paths alone, whose length determines the kind: 7 bytes of a
-- vendor, 12 of a device or a generic subsystem, 21 of a subsystem, 5 of a class, 8 of a subclass,
-- and else 11 of a programming interface. Labels.antt has it by kind, and laws.rt says that the two
-- are one (9 is a tab, 32 a space).
abbrev pub label_of : List ℕ → List ℕ
label_of path =
    -- a vendor: `8086` of PC/8086
    if length path == 7 then drop 3 path else
    -- a device, and a generic subsystem: tab and `1237` of PC/8086/1237, tab and `1100` of
    -- PS/1af4/1100
    (if length path == 12 then 9 ∷ drop 8 path else
    -- a subsystem: two tabs and `1af4 1100` of PC/8086/1237/1af41100
    (if length path == 21 then 9 ∷ 9 ∷ take 4 (drop 13 path) ++ 32 ∷ drop 17 path else
    -- a class: `C 01` of PD/01
    (if length path == 5 then codes "C " ++ drop 3 path else
    -- a subclass: tab and `06` of PD/01/06
    (if length path == 8 then 9 ∷ drop 6 path else
    -- a programming interface: two tabs and `80` of PD/01/01/80
    9 ∷ 9 ∷ drop 9 path))))

-- the line of an item, without its LF: the label of its path's text, two spaces, its name
abbrev pub item_line : List ℕ × List ℕ → List ℕ
item_line item = label_of item.0 ++ codes "  " ++ item.1

-- whether the path with this text is a generic subsystem: the second byte is an S (83), which among
-- texts of paths only those of generic subsystems have, as PS/1af4/1100; the others begin with PC
-- or PD
abbrev pub is_generic : List ℕ → Bool
is_generic [] = false
is_generic (p ∷ []) = false
is_generic (p ∷ front ∷ rest) = front == 83

-- the line before generic subsystems of a vendor, without its LF: `S 1af4` of PS/1af4/1100
abbrev pub block_line : List ℕ → List ℕ
block_line path = codes "S " ++ take 4 (drop 3 path)

-- whether that line comes between an item and the next: the next is a generic subsystem, and the
-- one before is none of its vendor, whose first 7 bytes would be the same (PS/1af4 of PS/1af4/1100)
abbrev pub opens_block : List ℕ → List ℕ → Bool
opens_block before path = is_generic path && not (is_eq (text_cmp (take 7 before) (take 7 path)))

-- the lines of items in order, which follow an item whose path has the text `before`
abbrev pub lines_after : List ℕ → List (List ℕ × List ℕ) → List (List ℕ)
lines_after before [] = []
lines_after before (item ∷ items) = (if opens_block before item.0 then block_line item.0
    ∷ [] else []) ++ item_line item ∷ lines_after item.0 items

-- the first line of every canonical text
abbrev pub header : List ℕ
header = codes "# PCI ID registry"

-- lines as a text: each with its LF
abbrev pub ended : List (List ℕ) → List ℕ
ended [] = []
ended (line ∷ lines) = line ++ 10 ∷ ended lines

-- the text of a tree: the header, and the lines of its items in the bytewise order of their paths'
-- texts
abbrev pub print : TreeMap → List ℕ
print t = ended (header ∷ lines_after [] (entries t))
