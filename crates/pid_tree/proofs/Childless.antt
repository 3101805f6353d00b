-- A path whose children would all lie where there are none has none.
use Rattle.std.proofs.Common.{◌≡◌, ℕ, ◌<◌, ◌^◌, Bool, true, false, Some, refl, sym, ◌∙◌, arith}
use mathlib.Core.Bool.{true≢false}
use Rattle.std.specs.Prelude.{IsSome}
use Rattle.std.specs.FinMap.{get}
use Rattle.pid_file.specs.declared.path.Path.{Path}
use Rattle.pid_file.specs.declared.path.Path.TheVariants.{Vendor, Device, Subsystem, Class, Subclass, ProgIf, Generic}
use Rattle.pid_file.specs.PathTexts.{IsPath, path_text, parent_of}
use Rattle.pid_file.specs.Trees.{TreeMap}
use Rattle.pid_tree.specs.Parents.{HasChild}
use Rattle.pid_tree.specs.Steps.Between.{HasNoneBetween}
use Rattle.pid_tree.proofs.Places.{ordered_places}

abbrev Childless : TreeMap → Path → Type 0
Childless t path = (child : Path) → IsPath child → parent_of child ≡ Some path → IsSome (get t (path_text child)) → ⊥

of_vendor : (t : TreeMap) (v : ℕ) → v < 2 ^ 16 → HasNoneBetween t (Vendor v) (Device v 0) (Device v 65535) → HasNoneBetween t (Vendor v) (Generic v 0) (Generic v 65535) → Childless t (Vendor v)
of_vendor t v r devices generics (Vendor w) x is some = cc
of_vendor t v r devices generics (Device w d) x is some =
    let same : w ≡ v = cc in
    true≢false (sym some ∙ devices (Device w d) x is (ordered_places (Device v 0) (Device w d) (r, omega arith) x refl (omega arith, (omega arith, tt)), ordered_places (Device w d) (Device v 65535) x (r, omega arith) refl (omega arith, (omega arith, tt))))
of_vendor t v r devices generics (Subsystem w d s e) x is some = cc
of_vendor t v r devices generics (Class c) x is some = cc
of_vendor t v r devices generics (Subclass c s) x is some = cc
of_vendor t v r devices generics (ProgIf c s p) x is some = cc
of_vendor t v r devices generics (Generic w d) x is some =
    let same : w ≡ v = cc in
    true≢false (sym some ∙ generics (Generic w d) x is (ordered_places (Generic v 0) (Generic w d) (r, omega arith) x refl (omega arith, (omega arith, tt)), ordered_places (Generic w d) (Generic v 65535) x (r, omega arith) refl (omega arith, (omega arith, tt))))

of_device : (t : TreeMap) (v d : ℕ) → v < 2 ^ 16 → d < 2 ^ 16 → HasNoneBetween t (Device v d) (Subsystem v d 0 0) (Subsystem v d 65535 65535) → Childless t (Device v d)
of_device t v d r q none (Vendor w) x is some = cc
of_device t v d r q none (Device w f) x is some = cc
of_device t v d r q none (Subsystem w f s e) x is some =
    let same : w ≡ v = cc in
    let alike : f ≡ d = cc in
    true≢false (sym some ∙ none (Subsystem w f s e) x is (ordered_places (Subsystem v d 0 0) (Subsystem w f s e) (r, q, omega arith, omega arith) x refl (omega arith, (omega arith, (omega arith, (omega arith, tt)))), ordered_places (Subsystem w f s e) (Subsystem v d 65535 65535) x (r, q, omega arith, omega arith) refl (omega arith, (omega arith, (omega arith, (omega arith, tt))))))
of_device t v d r q none (Class c) x is some = cc
of_device t v d r q none (Subclass c s) x is some = cc
of_device t v d r q none (ProgIf c s p) x is some = cc
of_device t v d r q none (Generic w f) x is some = cc

of_class : (t : TreeMap) (c : ℕ) → c < 2 ^ 8 → HasNoneBetween t (Class c) (Subclass c 0) (Subclass c 255) → Childless t (Class c)
of_class t c r none (Vendor w) x is some = cc
of_class t c r none (Device w f) x is some = cc
of_class t c r none (Subsystem w f s e) x is some = cc
of_class t c r none (Class b) x is some = cc
of_class t c r none (Subclass b s) x is some =
    let same : b ≡ c = cc in
    true≢false (sym some ∙ none (Subclass b s) x is (ordered_places (Subclass c 0) (Subclass b s) (r, omega arith) x refl (omega arith, (omega arith, tt)), ordered_places (Subclass b s) (Subclass c 255) x (r, omega arith) refl (omega arith, (omega arith, tt))))
of_class t c r none (ProgIf b s p) x is some = cc
of_class t c r none (Generic w f) x is some = cc

of_subclass : (t : TreeMap) (c s : ℕ) → c < 2 ^ 8 → s < 2 ^ 8 → HasNoneBetween t (Subclass c s) (ProgIf c s 0) (ProgIf c s 255) → Childless t (Subclass c s)
of_subclass t c s r q none (Vendor w) x is some = cc
of_subclass t c s r q none (Device w f) x is some = cc
of_subclass t c s r q none (Subsystem w f a e) x is some = cc
of_subclass t c s r q none (Class b) x is some = cc
of_subclass t c s r q none (Subclass b a) x is some = cc
of_subclass t c s r q none (ProgIf b a p) x is some =
    let same : b ≡ c = cc in
    let alike : a ≡ s = cc in
    true≢false (sym some ∙ none (ProgIf b a p) x is (ordered_places (ProgIf c s 0) (ProgIf b a p) (r, q, omega arith) x refl (omega arith, (omega arith, (omega arith, tt))), ordered_places (ProgIf b a p) (ProgIf c s 255) x (r, q, omega arith) refl (omega arith, (omega arith, (omega arith, tt)))))
of_subclass t c s r q none (Generic w f) x is some = cc

-- a test that finds a child, and fails only where there is none
decided : (t : TreeMap) (path : Path) (b : Bool) → (b ≡ false → Childless t path) → HasChild t path → b ≡ true
decided t path true childless has = refl
decided t path false childless has = absurd (childless refl has.child has.in_range has.is_child has.there)

pub vendor_decided : (t : TreeMap) (v : ℕ) (b : Bool) → v < 2 ^ 16 → HasNoneBetween t (Vendor v) (Device v 0) (Device v 65535) → (b ≡ false → HasNoneBetween t (Vendor v) (Generic v 0) (Generic v 65535)) → HasChild t (Vendor v) → b ≡ true
vendor_decided t v b r devices generics = decided t (Vendor v) b (λ no. of_vendor t v r devices (generics no))

pub device_decided : (t : TreeMap) (v d : ℕ) (b : Bool) → v < 2 ^ 16 → d < 2 ^ 16 → (b ≡ false → HasNoneBetween t (Device v d) (Subsystem v d 0 0) (Subsystem v d 65535 65535)) → HasChild t (Device v d) → b ≡ true
device_decided t v d b r q none = decided t (Device v d) b (λ no. of_device t v d r q (none no))

pub class_decided : (t : TreeMap) (c : ℕ) (b : Bool) → c < 2 ^ 8 → (b ≡ false → HasNoneBetween t (Class c) (Subclass c 0) (Subclass c 255)) → HasChild t (Class c) → b ≡ true
class_decided t c b r none = decided t (Class c) b (λ no. of_class t c r (none no))

pub subclass_decided : (t : TreeMap) (c s : ℕ) (b : Bool) → c < 2 ^ 8 → s < 2 ^ 8 → (b ≡ false → HasNoneBetween t (Subclass c s) (ProgIf c s 0) (ProgIf c s 255)) → HasChild t (Subclass c s) → b ≡ true
subclass_decided t c s b r q none = decided t (Subclass c s) b (λ no. of_subclass t c s r q (none no))
