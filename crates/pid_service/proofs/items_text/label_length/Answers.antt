use Rattle.std.proofs.Common.{◌≡◌, ℕ, inl, inr, length, refl, sym, subst}
use Rattle.pid_file.specs.PathTexts.{path_text}
use Rattle.pid_service.proofs.Words.{Class, Device, Generic, label_of, Path, ProgIf, Subclass, Subsystem, Vendor}
use Rattle.pid_service.proofs.items_text.label_length.Goals as goal

-- a path that is this one has a label as long as that of this one
long_as : (path this : Path) (n : ℕ) → path ≡ this → n ≡ length (label_of (path_text this)) → n ≡ length (label_of (path_text path))
long_as path this n is long = subst (λ (p : Path). n ≡ length (label_of (path_text p))) (sym is) long

pub returns-in-Vendor : goal.returns-in-Vendor
returns-in-Vendor c = elim c.in-Vendor.is [
  | inl v ↦ long_as c.args.path (Vendor v.0) 4 v.1 refl
  | inr (inl v) ↦ long_as c.args.path (Class v.0) 4 v.1 refl
  | inr (inr v) ↦ long_as c.args.path (ProgIf v.0 v.1 v.2) 4 v.3 refl
]

pub returns-in-Device : goal.returns-in-Device
returns-in-Device c = elim c.in-Device.is [
  | inl v ↦ long_as c.args.path (Device v.0 v.1) 5 v.2 refl
  | inr v ↦ long_as c.args.path (Generic v.0 v.1) 5 v.2 refl
]

pub returns-in-Subsystem : goal.returns-in-Subsystem
returns-in-Subsystem c = long_as c.args.path (Subsystem c.in-Subsystem.vendor c.in-Subsystem.device c.in-Subsystem.subvendor c.in-Subsystem.subdevice) 11 c.in-Subsystem.is refl

pub returns-in-Subclass : goal.returns-in-Subclass
returns-in-Subclass c = long_as c.args.path (Subclass c.in-Subclass.class c.in-Subclass.subclass) 3 c.in-Subclass.is refl
