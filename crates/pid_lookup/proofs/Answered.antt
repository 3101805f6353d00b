-- The answer over the names that are kept is that over the whole tree.
use Rattle.std.proofs.Common.{◌≡◌, ◌≤◌, ℕ, List, [], ◌∷◌, length, Option, Some, None, Result, Ok, Err, refl, sym, ap, ◌∙◌, arith}
use Rattle.std.specs.List.{All}
use Rattle.std.specs.Prelude.{IfOk, IfSome}
use Rattle.std.proofs.lemmas.List.Elements.{All-cons}
use Rattle.pid_file.specs.declared.path.Path.{Path}
use Rattle.pid_file.specs.declared.path.Path.TheVariants.{Vendor, Device, Subsystem, Class, Subclass, ProgIf, Generic}
use Rattle.pid_file.specs.Trees.{TreeMap}
use Rattle.pid_lookup.specs.Answers.{answer_of, requested}
use Rattle.pid_lookup.specs.Asked.{AgreeOn, request_paths}
use Rattle.pid_lookup.specs.Flags.{request_of, switches_of}
use Rattle.pid_lookup.specs.Found.{name_in_map, class_byte, subclass_byte}
use Rattle.pid_lookup.specs.declared.answer.Answer.{Answer}
use Rattle.pid_lookup.specs.declared.answering.LookupRefusal.{LookupRefusal}
use Rattle.pid_lookup.specs.declared.args.Args.{Args}
use Rattle.pid_lookup.specs.declared.flags.Request.{Request}
use Rattle.pid_lookup.specs.declared.flags.Request.TheVariants as requests
use Rattle.pid_file.specs.Reading.{refused}
use Rattle.pid_lookup.specs.Steps.AskedNames.{HasAsked, asked_paths}
use Rattle.pid_lookup.specs.InText.{IsAnswerOfText}
use Rattle.pid_lookup.specs.Steps.Kept.{kept_map}
use Rattle.pid_lookup.specs.declared.asked_names.AskedNames.{AskedNames}

abbrev Same : TreeMap → TreeMap → Path → Type 0
Same t u path = name_in_map t path ≡ name_in_map u path

none : (t u : TreeMap) → All (Same t u) []
none t u k d lt = absurd (omega arith)

more : (t u : TreeMap) (path : Path) (paths : List Path) → Same t u path → All (Same t u) paths → All (Same t u) (path ∷ paths)
more t u path paths = All-cons (Same t u) path paths

-- what a request asks for is among what can be asked for
among : (request : Request) (a : Args) (t u : TreeMap) → AgreeOn (asked_paths a) t u → AgreeOn (request_paths request a) t u
among request a t u agree =
    let d = Vendor 0 in
    let vendor : Same t u (Vendor a.vendor) = agree 0 d (omega arith) in
    let subvendor : Same t u (Vendor a.subvendor) = agree 1 d (omega arith) in
    let device : Same t u (Device a.vendor a.device) = agree 2 d (omega arith) in
    let entry : Same t u (Subsystem a.vendor a.device a.subvendor a.subdevice) = agree 3 d (omega arith) in
    let generic : Same t u (Generic a.subvendor a.subdevice) = agree 4 d (omega arith) in
    let class : Same t u (Class (class_byte a)) = agree 5 d (omega arith) in
    let subclass : Same t u (Subclass (class_byte a) (subclass_byte a)) = agree 6 d (omega arith) in
    let progif : Same t u (ProgIf (class_byte a) (subclass_byte a) a.progif) = agree 7 d (omega arith) in
    let own = more t u (Device a.vendor a.device) [] device (none t u) in
    let under_none = more t u (Generic a.subvendor a.subdevice) (Device a.vendor a.device ∷ []) generic own in
    let subsystem = more t u (Subsystem a.vendor a.device a.subvendor a.subdevice) (Generic a.subvendor a.subdevice ∷ Device a.vendor a.device ∷ []) entry under_none in
    elim request as (λ r. AgreeOn (request_paths r a) t u) [
      | requests.Vendor ↦ more t u (Vendor a.vendor) [] vendor (none t u)
      | requests.Device ↦ own
      | requests.Subvendor ↦ more t u (Vendor a.subvendor) [] subvendor (none t u)
      | requests.Subsystem ↦ subsystem
      | requests.Class ↦ more t u (Subclass (class_byte a) (subclass_byte a)) (Class (class_byte a) ∷ []) subclass (more t u (Class (class_byte a)) [] class (none t u))
      | requests.ProgIf ↦ more t u (ProgIf (class_byte a) (subclass_byte a) a.progif) [] progif (none t u)
      | requests.VendorAndDevice ↦ more t u (Vendor a.vendor) (Device a.vendor a.device ∷ []) vendor own
      | requests.SubvendorAndSubsystem ↦ more t u (Vendor a.subvendor) (Subsystem a.vendor a.device a.subvendor a.subdevice ∷ Generic a.subvendor a.subdevice ∷ Device a.vendor a.device ∷ []) subvendor subsystem
    ]

-- two maps with the same names at the paths of a request give it the same answer
abbrev Law : Type 0
Law = (t u : TreeMap) (flags size : ℕ) (a : Args) (request : Request) → request_of flags ≡ Some request → AgreeOn (request_paths request a) t u → answer_of t flags a size ≡ answer_of u flags a size

same_answer : Law → (t u : TreeMap) (flags size : ℕ) (a : Args) → AgreeOn (asked_paths a) t u → answer_of t flags a size ≡ answer_of u flags a size
same_answer law t u flags size a agree = go (request_of flags) refl
  where
    go : (o : Option Request) → request_of flags ≡ o → answer_of t flags a size ≡ answer_of u flags a size
    go None e = ap (λ (o : Option Request). requested (name_in_map t) (switches_of flags) o a size) e ∙ sym (ap (λ (o : Option Request). requested (name_in_map u) (switches_of flags) o a size) e)
    go (Some request) e = law t u flags size a request e (among request a t u agree)

found_same : {F : Type 0} → Law → (a : Args) (flags size : ℕ) (text : List ℕ) (names : AskedNames) (found : Result Answer (LookupRefusal F)) → HasAsked a text names
    → IfOk found (λ answer. answer ≡ answer_of (kept_map names) flags a size) → IsAnswerOfText flags a size text found
found_same law a flags size text names (Ok told) asked said = λ t reads. said ∙ sym (same_answer law t (kept_map names) flags size a (asked t reads))
found_same law a flags size text names (Err e) asked said = tt

pub answered : {F : Type 0} → Law → (old : Option (List ℕ)) (limit : ℕ) (a : Args) (flags size : ℕ) (names : AskedNames) (found : Result Answer (LookupRefusal F))
    → IfOk found (λ answer. answer ≡ answer_of (kept_map names) flags a size)
    → IfSome old (λ text. (length text ≤ limit) × (refused text ≡ None) × HasAsked a text names)
    → IfSome old (λ text. (length text ≤ limit) × (refused text ≡ None) × IsAnswerOfText flags a size text found)
answered law None limit a flags size names found said read = tt
answered law (Some text) limit a flags size names found said read = (read.0, read.1, found_same law a flags size text names found read.2 said)
