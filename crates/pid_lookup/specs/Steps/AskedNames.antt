-- Which names a look-up can ask for, and what is kept of the entries of a text.
use Rattle.std.specs.Prelude.{◌≡◌, ℕ, List, [], ◌∷◌, IsSome}
use Rattle.std.specs.FinMap.{get, insert}
use Rattle.std.specs.List.{Any}
use Rattle.pid_file.specs.declared.path.Path.{Path}
use Rattle.pid_file.specs.declared.path.Path.TheVariants.{Vendor, Device, Subsystem, Class}
use Rattle.pid_file.specs.declared.path.Path.TheVariants.{Subclass, ProgIf, Generic}
use Rattle.pid_file.specs.PathTexts.{path_text}
use Rattle.pid_file.specs.Trees.{TreeMap}
use Rattle.pid_lookup.specs.Asked.{AgreeOn}
use Rattle.pid_lookup.specs.Found.{class_byte, subclass_byte}
use Rattle.pid_lookup.specs.declared.args.Args.{Args}
use Rattle.pid_file.specs.Numbered.{Numbered, item_in}
use Rattle.pid_file.specs.Reading.{Reads}
use Rattle.pid_lookup.specs.Steps.Kept.{kept_map}
use Rattle.pid_lookup.specs.declared.asked_names.AskedNames.{AskedNames}

-- the paths that a look-up with these arguments can ask for, whatever its flags
abbrev pub asked_paths : Args → List Path
asked_paths a = Vendor a.vendor ∷ Vendor a.subvendor ∷ Device a.vendor a.device
    ∷ Subsystem a.vendor a.device a.subvendor a.subdevice
    ∷ Generic a.subvendor a.subdevice ∷ Class (class_byte a)
    ∷ Subclass (class_byte a) (subclass_byte a)
    ∷ ProgIf (class_byte a) (subclass_byte a) a.progif ∷ []

-- a map has no names but at these paths
abbrev pub HasOnly : List Path → TreeMap → Type 0
HasOnly paths t = (text : List ℕ) → IsSome (get t text) → Any (λ path. text ≡ path_text path) paths

-- one more entry: at the paths that can be asked for, the names are as if the entry were among
-- them, and no others come
pub record TakesAsked (old : AskedNames) (entry : Numbered) (new : AskedNames) : Type 0 where
  pub asked : new.asked ≡ old.asked
  pub names : AgreeOn old.asked (insert (kept_map old) (item_in entry).0 (item_in entry).1)
      (kept_map new)
  pub no_others : HasOnly old.asked (kept_map old) → HasOnly old.asked (kept_map new)

-- out of memory for one more entry: no name that was kept is lost or changed, and none
-- came
pub record KeepsAllNames (old new : AskedNames) : Type 0 where
  pub asked : new.asked ≡ old.asked
  pub names : kept_map new ≡ kept_map old

-- the names are those of the tree that the text reads to, at the paths that these arguments can ask
-- for
abbrev pub HasAsked : Args → List ℕ → AskedNames → Type 0
HasAsked a text names = (t : TreeMap) → Reads text t → AgreeOn (asked_paths a) t (kept_map names)
