-- The number and the word of each fault of a line: choices of this project.
use Rattle.std.specs.Prelude.{ℕ, List, codes}
use Rattle.pid_file.specs.declared.fault_kind.LineKind.{LineKind}
use Rattle.pid_file.specs.declared.fault_kind.LineKind.TheVariants.{NotUtf8, TooDeep, NoParent}
use Rattle.pid_file.specs.declared.fault_kind.LineKind.TheVariants.{BadId, NoName, BadName}
use Rattle.pid_file.specs.declared.fault_kind.LineKind.TheVariants.{Duplicate, VendorMissing}

abbrev pub number_of : LineKind → ℕ
number_of NotUtf8 = 1
number_of TooDeep = 2
number_of NoParent = 3
number_of BadId = 4
number_of NoName = 5
number_of BadName = 6
number_of Duplicate = 7
number_of VendorMissing = 8

abbrev pub word_of : LineKind → List ℕ
word_of NotUtf8 = codes "NotUtf8"
word_of TooDeep = codes "TooDeep"
word_of NoParent = codes "NoParent"
word_of BadId = codes "BadId"
word_of NoName = codes "NoName"
word_of BadName = codes "BadName"
word_of Duplicate = codes "Duplicate"
word_of VendorMissing = codes "VendorMissing"
