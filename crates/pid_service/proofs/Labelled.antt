-- The label of a path, and the one that the length of its text gives.
use Rattle.std.proofs.Common.{◌≡◌, refl}
use Rattle.pid_file.specs.PathTexts.{path_text}
use Rattle.pid_service.proofs.Words.{Class, Device, Generic, label, label_of, Path, ProgIf, Subclass, Subsystem, Vendor}

pub label_of_text : (path : Path) → label_of (path_text path) ≡ label path
label_of_text (Vendor v) = refl
label_of_text (Device v d) = refl
label_of_text (Subsystem v d s e) = refl
label_of_text (Class c) = refl
label_of_text (Subclass c s) = refl
label_of_text (ProgIf c s p) = refl
label_of_text (Generic v d) = refl
