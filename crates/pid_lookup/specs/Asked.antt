-- The paths that a look-up is about, as the cases of libpci's pci_lookup_name ask for them.
use Rattle.std.specs.Prelude.{◌≡◌, ℕ, Bool, true, false, List, [], ◌∷◌, Some}
use Rattle.std.specs.List.{All, Any}
use Rattle.pid_file.specs.declared.path.Path.{Path}
use Rattle.pid_file.specs.declared.path.Path.TheVariants.{Vendor, Device, Subsystem, Class}
use Rattle.pid_file.specs.declared.path.Path.TheVariants.{Subclass, ProgIf, Generic}
use Rattle.pid_file.specs.Trees.{TreeMap}
use Rattle.pid_lookup.specs.declared.args.Args.{Args}
use Rattle.pid_lookup.specs.declared.flags.Request.{Request}
use Rattle.pid_lookup.specs.declared.flags.Request.TheVariants as requests
use Rattle.pid_lookup.specs.Cut.{cut}
use Rattle.pid_lookup.specs.Found.{class_byte, subclass_byte, name_in_map}

-- the entry under the device, the generic subsystem, and the device that may be its own subsystem
abbrev pub subsystem_paths : Args → List Path
subsystem_paths a =
    Subsystem a.vendor a.device a.subvendor a.subdevice ∷ Generic a.subvendor a.subdevice
    ∷ Device a.vendor a.device ∷ []

abbrev pub request_paths : Request → Args → List Path
request_paths requests.Vendor a = Vendor a.vendor ∷ []
request_paths requests.Device a = Device a.vendor a.device ∷ []
request_paths requests.Subvendor a = Vendor a.subvendor ∷ []
request_paths requests.Subsystem a = subsystem_paths a
request_paths requests.Class a = Subclass (class_byte a) (subclass_byte a)
    ∷ Class (class_byte a) ∷ []
request_paths requests.ProgIf a = ProgIf (class_byte a) (subclass_byte a) a.progif ∷ []
request_paths requests.VendorAndDevice a = Vendor a.vendor ∷ Device a.vendor a.device ∷ []
request_paths requests.SubvendorAndSubsystem a = Vendor a.subvendor ∷ subsystem_paths a

-- two maps have the same names at these paths
abbrev pub AgreeOn : List Path → TreeMap → TreeMap → Type 0
AgreeOn paths t u = All (λ path. name_in_map t path ≡ name_in_map u path) paths

-- a request that looks for the name of one vendor, device or subsystem
abbrev pub is_for_one_name : Request → Bool
is_for_one_name requests.Vendor = true
is_for_one_name requests.Device = true
is_for_one_name requests.VendorAndDevice = false
is_for_one_name requests.Subvendor = true
is_for_one_name requests.Subsystem = true
is_for_one_name requests.SubvendorAndSubsystem = false
is_for_one_name requests.Class = false
is_for_one_name requests.ProgIf = false

-- a text is the name of one of these paths, cut to a buffer
pub record IsNameOf (t : TreeMap) (paths : List Path) (size : ℕ) (text : List ℕ) : Type 0 where
  pub name : List ℕ
  pub is_there : Any (λ path. name_in_map t path ≡ Some name) paths
  pub shown : text ≡ cut name size
