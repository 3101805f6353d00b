-- Worked rows, by computation.
use Rattle.std.proofs.Common.{◌≡◌, ℕ, List, [], ◌∷◌, ◌++◌, Some, None, refl}
use Rattle.std.specs.Prelude.{codes}
use Rattle.std.specs.Str.{is_utf8, chars}
use lib.Utf8.{encode}
use Rattle.pid_file.specs.declared.fault_kind.LineKind.TheVariants.{NotUtf8, TooDeep, NoParent, BadId, NoName, Duplicate, VendorMissing}
use Rattle.pid_file.specs.declared.refusal.ReadRefusal.TheVariants.{Line}
use Rattle.pid_file.specs.Printing.{lines_after}
use Rattle.pid_file.specs.LookingBack.{entries_back}
use Rattle.pid_file.specs.Reading.{history_of, refused}

generics : List ℕ
generics = codes "1af4  Red Hat" ++ 10 ∷ codes "S 1AF4" ++ 10 ∷ 9 ∷ codes "1100  Qemu" ++ 10 ∷ 9 ∷ codes "0001  Net" ++ 10 ∷ codes "C 01  Mass" ++ 10 ∷ codes "8086  I" ++ 10 ∷ codes "S 1af4" ++ 10 ∷ 9 ∷ codes "0002  Blk" ++ 10 ∷ []

generics_entries : entries_back (history_of generics) ≡ (codes "PS/1af4/0002", codes "Blk") ∷ (codes "PC/8086", codes "I") ∷ (codes "PD/01", codes "Mass") ∷ (codes "PS/1af4/0001", codes "Net") ∷ (codes "PS/1af4/1100", codes "Qemu") ∷ (codes "PC/1af4", codes "Red Hat") ∷ []
unfolding generics
generics_entries = refl

generics_good : refused generics ≡ None
unfolding generics is_utf8 chars encode
generics_good = refl

generics_printed : lines_after [] ((codes "PC/1af4", codes "Red Hat") ∷ (codes "PC/8086", codes "I") ∷ (codes "PD/01", codes "Mass") ∷ (codes "PS/1af4/0001", codes "Net") ∷ (codes "PS/1af4/0002", codes "Blk") ∷ (codes "PS/1af4/1100", codes "Qemu") ∷ [])
    ≡ codes "1af4  Red Hat" ∷ codes "8086  I" ∷ codes "C 01  Mass" ∷ codes "S 1af4" ∷ (9 ∷ codes "0001  Net") ∷ (9 ∷ codes "0002  Blk") ∷ (9 ∷ codes "1100  Qemu") ∷ []
generics_printed = refl

abbrev after : List ℕ → List ℕ
after rest = codes "1af4  R" ++ 10 ∷ rest

letter_after_block : refused (after (codes "S 1af4x")) ≡ Some (Line 2 BadId)
unfolding is_utf8 chars encode
letter_after_block = refl

three_digits_of_block : refused (after (codes "S 1af")) ≡ Some (Line 2 BadId)
unfolding is_utf8 chars encode
three_digits_of_block = refl

block_alone : refused (after (codes "S 1af4")) ≡ None
unfolding is_utf8 chars encode
block_alone = refl

two_tabs_in_block : refused (after (codes "S 1af4" ++ 10 ∷ 9 ∷ codes "1100  X" ++ 10 ∷ 9 ∷ 9 ∷ codes "1  Y")) ≡ Some (Line 4 TooDeep)
unfolding is_utf8 chars encode
two_tabs_in_block = refl

generic_twice : refused (after (codes "S 1af4" ++ 10 ∷ 9 ∷ codes "1100  X" ++ 10 ∷ codes "S 1af4" ++ 10 ∷ 9 ∷ codes "1100  Z")) ≡ Some (Line 5 Duplicate)
unfolding is_utf8 chars encode
generic_twice = refl

vendor_of_block_missing : refused (after (codes "S 8086")) ≡ Some (Line 2 VendorMissing)
unfolding is_utf8 chars encode
vendor_of_block_missing = refl

whole : List ℕ
whole = codes "8086  Intel" ++ 10 ∷ 9 ∷ codes "1237  440FX" ++ 10 ∷ 9 ∷ 9 ∷ codes "1AF4 1100  Qemu" ++ 10 ∷ codes "# c" ++ 10 ∷ codes "C 01  Mass" ++ 10 ∷ 9 ∷ codes "01  IDE" ++ 10 ∷ 9 ∷ 9 ∷ codes "80  Master" ++ 10 ∷ codes "A b" ++ 10 ∷ 9 ∷ codes "junk" ++ 10 ∷ 9 ∷ 9 ∷ 9 ∷ 9 ∷ codes "deep" ++ 10 ∷ codes "10ec  R"

whole_entries : entries_back (history_of whole) ≡ (codes "PC/10ec", codes "R") ∷ (codes "PD/01/01/80", codes "Master") ∷ (codes "PD/01/01", codes "IDE") ∷ (codes "PD/01", codes "Mass") ∷ (codes "PC/8086/1237/1af41100", codes "Qemu") ∷ (codes "PC/8086/1237", codes "440FX") ∷ (codes "PC/8086", codes "Intel") ∷ []
unfolding whole
whole_entries = refl

whole_good : refused whole ≡ None
unfolding whole is_utf8 chars encode
whole_good = refl

whole_printed : lines_after [] ((codes "PC/8086", codes "I") ∷ (codes "PC/8086/1237", codes "F") ∷ (codes "PC/8086/1237/1af41100", codes "Q") ∷ (codes "PD/01", codes "M") ∷ (codes "PD/01/01", codes "J") ∷ (codes "PD/01/01/80", codes "B") ∷ [])
    ≡ codes "8086  I" ∷ (9 ∷ codes "1237  F") ∷ (9 ∷ 9 ∷ codes "1af4 1100  Q") ∷ codes "C 01  M" ∷ (9 ∷ codes "01  J") ∷ (9 ∷ 9 ∷ codes "80  B") ∷ []
whole_printed = refl

deep : refused (9 ∷ 9 ∷ 9 ∷ codes "x") ≡ Some (Line 1 TooDeep)
unfolding is_utf8 chars encode
deep = refl

orphan : refused (codes "8086  I" ++ 10 ∷ 9 ∷ 9 ∷ codes "1af4 1100  X") ≡ Some (Line 2 NoParent)
unfolding is_utf8 chars encode
orphan = refl

nobody : refused (9 ∷ codes "1237  X") ≡ Some (Line 1 NoParent)
unfolding is_utf8 chars encode
nobody = refl

short_class : refused (codes "C 1  x") ≡ Some (Line 1 BadId)
unfolding is_utf8 chars encode
short_class = refl

twice : refused (codes "8086  I" ++ 10 ∷ codes "8086  J") ≡ Some (Line 2 Duplicate)
unfolding is_utf8 chars encode
twice = refl

no_name : refused (codes "8086 ") ≡ Some (Line 1 NoName)
unfolding is_utf8 chars encode
no_name = refl

spaced : refused (codes " 8086  I") ≡ Some (Line 1 BadId)
unfolding is_utf8 chars encode
spaced = refl

bad_bytes : refused (35 ∷ 255 ∷ []) ≡ Some (Line 1 NotUtf8)
unfolding is_utf8 chars encode
bad_bytes = refl

block_before_vendor : refused (codes "S 1af4" ++ 10 ∷ codes "1af4  Red Hat" ++ 10 ∷ []) ≡ Some (Line 1 VendorMissing)
unfolding is_utf8 chars encode
block_before_vendor = refl

comment_between : refused (codes "8086  I" ++ 10 ∷ codes "# c" ++ 10 ∷ 10 ∷ 9 ∷ codes "1237  X") ≡ None
unfolding is_utf8 chars encode
comment_between = refl

line_with_cr : entries_back (history_of (codes "8086  I" ++ 13 ∷ 10 ∷ [])) ≡ (codes "PC/8086", codes "I") ∷ []
line_with_cr = refl

-- what bad heads leave open
class_alone : refused (codes "C 01") ≡ Some (Line 1 BadId)
unfolding is_utf8 chars encode
class_alone = refl

tabbed_letter : refused (codes "A" ++ 9 ∷ codes "b") ≡ Some (Line 1 BadId)
unfolding is_utf8 chars encode
tabbed_letter = refl

block_blanks : refused (after (codes "S 1AF4" ++ 9 ∷ codes "  " ++ 10 ∷ 9 ∷ codes "1100" ++ 9 ∷ codes "X")) ≡ None
unfolding is_utf8 chars encode
block_blanks = refl

block_nested : refused (after (codes "S 1af4" ++ 10 ∷ 9 ∷ 9 ∷ codes "1100  X")) ≡ Some (Line 3 TooDeep)
unfolding is_utf8 chars encode
block_nested = refl

class_short : refused (codes "C 01  M" ++ 10 ∷ 9 ∷ 9 ∷ codes "80  X") ≡ Some (Line 2 NoParent)
unfolding is_utf8 chars encode
class_short = refl
