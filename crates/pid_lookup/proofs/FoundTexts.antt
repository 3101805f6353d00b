-- What was found shows what its request shows.
use Rattle.std.proofs.Common.{◌≡◌, ℕ, Bool, true, false, not, ◌&&◌, ◌==◌, List, [], ◌∷◌, Option, Some, None, refl, sym, ap, ◌∙◌}
use Rattle.pid_file.specs.declared.path.Path.{Path}
use Rattle.pid_file.specs.declared.path.Path.TheVariants.{Vendor, Device, Class, Subclass, ProgIf, Generic}
use Rattle.pid_lookup.specs.declared.args.Args.{Args}
use Rattle.pid_lookup.specs.declared.answer.Answer.{Answer}
use Rattle.pid_lookup.specs.declared.answer.Answer.TheVariants.{Text}
use Rattle.pid_lookup.specs.declared.find.Found.{Found}
use Rattle.pid_lookup.specs.declared.find.Found.TheVariants as found
use Rattle.pid_lookup.specs.declared.flags.Request.{Request}
use Rattle.pid_lookup.specs.declared.flags.Request.TheVariants as requests
use Rattle.pid_lookup.specs.declared.flags.Style.TheVariants as styles
use Rattle.pid_lookup.specs.Flags.{Switches, has_bits}
use Rattle.pid_lookup.specs.Found.{class_byte, class_name, first_there, ide_words, subclass_byte, subclass_name, subsystem_name, under_device, own_device, where_true}
use Rattle.pid_lookup.specs.Answers.{class_shown, cut_answer, request_number, one_shown, pair_shown, request_text, request_word}
use Rattle.pid_lookup.specs.Cut.{cut}
use Rattle.pid_lookup.specs.Steps.FoundTexts.{IsFoundFor, found_text, nameless}
use Rattle.pid_lookup.specs.Steps.Styles.{switches}
use Rattle.pid_lookup.proofs.AnswerLaws.{both, number_text}

-- one name
pub for_vendor : (named : Path → Option (List ℕ)) (a : Args) (name : Option (List ℕ)) → name ≡ named (Vendor a.vendor) → IsFoundFor (found.One name) named requests.Vendor a
for_vendor named a name is = record { shown = λ s. ap (one_shown s requests.Vendor a) is }

pub for_device : (named : Path → Option (List ℕ)) (a : Args) (name : Option (List ℕ)) → name ≡ named (Device a.vendor a.device) → IsFoundFor (found.One name) named requests.Device a
for_device named a name is = record { shown = λ s. ap (one_shown s requests.Device a) is }

pub for_subvendor : (named : Path → Option (List ℕ)) (a : Args) (name : Option (List ℕ)) → name ≡ named (Vendor a.subvendor) → IsFoundFor (found.One name) named requests.Subvendor a
for_subvendor named a name is = record { shown = λ s. ap (one_shown s requests.Subvendor a) is }

pub for_subsystem : (named : Path → Option (List ℕ)) (a : Args) (name : Option (List ℕ)) → name ≡ subsystem_name named a → IsFoundFor (found.One name) named requests.Subsystem a
for_subsystem named a name is = record { shown = λ s. ap (one_shown s requests.Subsystem a) is }

-- a subsystem by its entry under no device, where it has none under its device
pub by_generic : (named : Path → Option (List ℕ)) (a : Args) (name : List ℕ) → None ≡ under_device named a → Some name ≡ named (Generic a.subvendor a.subdevice) → Some name ≡ subsystem_name named a
by_generic named a name none is = both (λ under generic. first_there (under ∷ generic ∷ own_device named a ∷ [])) none is

last_there : (name : Option (List ℕ)) → first_there (name ∷ []) ≡ name
last_there (Some name) = refl
last_there None = refl

-- by the device, where it has neither
pub by_device : (named : Path → Option (List ℕ)) (a : Args) (name : Option (List ℕ)) → None ≡ under_device named a → None ≡ named (Generic a.subvendor a.subdevice) → (a.subvendor == a.vendor && a.subdevice == a.device) ≡ true
    → name ≡ named (Device a.vendor a.device) → name ≡ subsystem_name named a
by_device named a name under generic same is =
    is ∙ sym (last_there (named (Device a.vendor a.device))) ∙ ap (λ b. first_there (where_true b (named (Device a.vendor a.device)) ∷ [])) (sym same)
    ∙ both (λ u g. first_there (u ∷ g ∷ own_device named a ∷ [])) under generic

-- a subclass by its entry; without one the class by its own, or neither
pub its_subclass : (named : Path → Option (List ℕ)) (a : Args) (name : Option (List ℕ)) (class subclass : ℕ)
    → name ≡ named (Subclass class subclass) → class ≡ class_byte a → subclass ≡ subclass_byte a → name ≡ subclass_name named a
its_subclass named a name class subclass is is_class is_subclass = is ∙ both (λ c s. named (Subclass c s)) is_class is_subclass

pub its_class : (named : Path → Option (List ℕ)) (a : Args) (name : Option (List ℕ)) (class : ℕ) → name ≡ named (Class class) → class ≡ class_byte a → name ≡ class_name named a
its_class named a name class is is_class = is ∙ ap (λ c. named (Class c)) is_class

pub for_subclass : (named : Path → Option (List ℕ)) (a : Args) (name : List ℕ) → Some name ≡ subclass_name named a → IsFoundFor (found.One (Some name)) named requests.Class a
for_subclass named a name is = record { shown = λ s. ap (λ subclass. class_shown s a subclass (class_name named a)) is }

pub for_class : (named : Path → Option (List ℕ)) (a : Args) (name : List ℕ) → None ≡ subclass_name named a → Some name ≡ class_name named a → IsFoundFor (found.ClassOnly name) named requests.Class a
for_class named a name none is = record { shown = λ s. both (class_shown s a) none is }

pub for_no_class : (named : Path → Option (List ℕ)) (a : Args) → None ≡ subclass_name named a → None ≡ class_name named a → IsFoundFor (found.One None) named requests.Class a
for_no_class named a none nor = record { shown = λ s. both (class_shown s a) none nor }

-- a pair
pub for_device_pair : (named : Path → Option (List ℕ)) (a : Args) (v d : Option (List ℕ)) → v ≡ named (Vendor a.vendor) → d ≡ named (Device a.vendor a.device)
    → IsFoundFor (found.Pair v d) named requests.VendorAndDevice a
for_device_pair named a v d is_v is_d = record { shown = λ s. both (pair_shown s requests.VendorAndDevice a) is_v is_d }

pub for_subsystem_pair : (named : Path → Option (List ℕ)) (a : Args) (v d : Option (List ℕ)) → v ≡ named (Vendor a.subvendor) → d ≡ subsystem_name named a
    → IsFoundFor (found.Pair v d) named requests.SubvendorAndSubsystem a
for_subsystem_pair named a v d is_v is_d = record { shown = λ s. both (pair_shown s requests.SubvendorAndSubsystem a) is_v is_d }

-- an interface by its entry; without one by its words, or not at all
abbrev its_words : Bool → Args → Option (List ℕ)
its_words is_ide a = where_true is_ide (Some (ide_words a.progif))

abbrev is_ide : Args → Bool
is_ide a = a.class == 0x101 && not (has_bits a.progif 0x70)

abbrev entry : (Path → Option (List ℕ)) → Args → Option (List ℕ)
entry named a = named (ProgIf (class_byte a) (subclass_byte a) a.progif)

pub its_entry : (named : Path → Option (List ℕ)) (a : Args) (name : Option (List ℕ)) (class subclass : ℕ)
    → name ≡ named (ProgIf class subclass a.progif) → class ≡ class_byte a → subclass ≡ subclass_byte a → name ≡ entry named a
its_entry named a name class subclass is is_class is_subclass = is ∙ both (λ c s. named (ProgIf c s a.progif)) is_class is_subclass

pub for_progif : (named : Path → Option (List ℕ)) (a : Args) (name : List ℕ) → Some name ≡ entry named a → IsFoundFor (found.One (Some name)) named requests.ProgIf a
for_progif named a name is = record { shown = λ s. ap (λ first. one_shown s requests.ProgIf a (first_there (first ∷ its_words (is_ide a) a ∷ []))) is }

nameless_text : (s : Switches) (a : Args) (ide : Bool) → found_text s (request_number requests.ProgIf a) (request_word requests.ProgIf) (nameless ide a.progif)
    ≡ one_shown s requests.ProgIf a (first_there (None ∷ its_words ide a ∷ []))
nameless_text s a true = refl
nameless_text s a false = refl

pub for_nameless : (named : Path → Option (List ℕ)) (a : Args) (found : Found) → None ≡ entry named a → found ≡ nameless (is_ide a) a.progif → IsFoundFor found named requests.ProgIf a
for_nameless named a found none is = record {
  shown = λ s. ap (found_text s (request_number requests.ProgIf a) (request_word requests.ProgIf)) is
      ∙ (nameless_text s a (is_ide a) ∙ ap (λ first. one_shown s requests.ProgIf a (first_there (first ∷ its_words (is_ide a) a ∷ []))) none);
}

-- an answer over what is found for a request is the definition's
pub shown_found : (named : Path → Option (List ℕ)) (s : Switches) (request : Request) (a : Args) (size : ℕ) (found : Found) (told : Answer)
    → told ≡ cut_answer (found_text s (request_number request a) (request_word request) found) size → IsFoundFor found named request a → told ≡ cut_answer (request_text named s request a) size
shown_found named s request a size found told shown is_for = shown ∙ ap (λ text. cut_answer text size) (is_for.shown s)

-- an answer of a number alone is the definition's
pub shown_number : (named : Path → Option (List ℕ)) (request : Request) (a : Args) (size : ℕ) (told : Answer)
    → told ≡ Text (cut (request_number request a) size) → told ≡ cut_answer (request_text named (switches styles.Numeric) request a) size
shown_number named request a size told shown =
    shown ∙ sym (ap (λ text. cut_answer text size) (number_text named (switches styles.Numeric) request a refl refl))
