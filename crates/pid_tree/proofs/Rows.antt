-- Worked rows of the canonical text, by computation.
use Rattle.std.proofs.Common.{◌≡◌, ℕ, List, [], ◌∷◌, ◌++◌, refl, ap, true, false}
use Rattle.std.specs.Prelude.{codes}
use Rattle.std.specs.FinMap.{from_sorted, entries-from_sorted}
use Rattle.pid_file.specs.Trees.{text_cmp}
use Rattle.pid_file.specs.Printing.{block_line, ended, header, item_line, lines_after, opens_block, print}

abbrev Items : Type 0
Items = List (List ℕ × List ℕ)

-- the line of each kind of item
vendor : item_line (codes "PC/8086", codes "Intel") ≡ codes "8086  Intel"
vendor = refl

device : item_line (codes "PC/8086/1237", codes "440FX") ≡ 9 ∷ codes "1237  440FX"
device = refl

subsystem : item_line (codes "PC/8086/1237/1af41100", codes "Qemu") ≡ 9 ∷ 9 ∷ codes "1af4 1100  Qemu"
subsystem = refl

class : item_line (codes "PD/01", codes "Mass") ≡ codes "C 01  Mass"
class = refl

subclass : item_line (codes "PD/01/06", codes "SATA") ≡ 9 ∷ codes "06  SATA"
subclass = refl

interface : item_line (codes "PD/01/06/80", codes "Vendor") ≡ 9 ∷ 9 ∷ codes "80  Vendor"
interface = refl

generic : item_line (codes "PS/1af4/1100", codes "Qemu") ≡ 9 ∷ codes "1100  Qemu"
generic = refl

-- a block opens before the first generic subsystem of a vendor, and before no other item
block : block_line (codes "PS/1af4/1100") ≡ codes "S 1af4"
block = refl

first_of_all : opens_block [] (codes "PS/1af4/1100") ≡ true
first_of_all = refl

first_of_vendor : opens_block (codes "PS/1af3/ffff") (codes "PS/1af4/1100") ≡ true
first_of_vendor = refl

next_of_vendor : opens_block (codes "PS/1af4/0001") (codes "PS/1af4/1100") ≡ false
next_of_vendor = refl

device_after_vendor : opens_block (codes "PC/1af4") (codes "PC/1af4/1100") ≡ false
device_after_vendor = refl

-- whole texts
empty_text : print (from_sorted {R = text_cmp} []) ≡ codes "# PCI ID registry" ++ 10 ∷ []
empty_text = ap (λ (items : Items). ended (header ∷ lines_after [] items)) (entries-from_sorted text_cmp [] tt)

blocks : Items
blocks = (codes "PC/1af4", codes "Red Hat") ∷ (codes "PC/8086", codes "I") ∷ (codes "PD/01", codes "Mass") ∷ (codes "PS/1af4/0001", codes "Net") ∷ (codes "PS/1af4/0002", codes "Blk") ∷ (codes "PS/1af4/1100", codes "Qemu") ∷ []

blocks_text : print (from_sorted {R = text_cmp} blocks)
    ≡ codes "# PCI ID registry" ++ 10 ∷ codes "1af4  Red Hat" ++ 10 ∷ codes "8086  I" ++ 10 ∷ codes "C 01  Mass" ++ 10 ∷ codes "S 1af4" ++ 10 ∷ 9 ∷ codes "0001  Net" ++ 10 ∷ 9 ∷ codes "0002  Blk" ++ 10 ∷ 9 ∷ codes "1100  Qemu" ++ 10 ∷ []
unfolding blocks
blocks_text = ap (λ (items : Items). ended (header ∷ lines_after [] items)) (entries-from_sorted text_cmp blocks tt)
