-- Laws of the answers.
use Rattle.std.proofs.Common.{◌≡◌, ◌≢◌, ℕ, ◌<◌, ◌≤◌, ◌-◌, Bool, true, false, not, ◌&&◌, ◌||◌, ◌==◌, List, [], ◌∷◌, ◌++◌, length, take, Option, Some, None, codes, nat_lt, nat_le, refl, sym, ap, ◌∙◌, subst, ◌⊎◌, inl, inr, if◌then◌else◌, arith}
use Rattle.std.specs.List.{All, Any}
use Rattle.std.proofs.lemmas.List.{length-append, length-take}
use Rattle.pid_file.specs.declared.path.Path.{Path}
use Rattle.pid_file.specs.declared.path.Path.TheVariants.{Vendor, Device, Subsystem, Generic}
use Rattle.pid_file.specs.Trees.{TreeMap}
use Rattle.pid_lookup.specs.declared.args.Args.{Args}
use Rattle.pid_lookup.specs.declared.answer.Answer.TheVariants.{Text, NoAnswer}
use Rattle.pid_lookup.specs.declared.flags.Request.{Request}
use Rattle.pid_lookup.specs.declared.flags.Request.TheVariants as requests
use Rattle.pid_lookup.specs.Flags.{Switches, has_bits, is_bad, request_of, switches_of}
use Rattle.pid_lookup.specs.Layouts.{one_text, pair_text, bracketed}
use Rattle.pid_lookup.specs.Found.{name_in_map, subsystem_name, first_there, ide_words, where_true}
use Rattle.pid_lookup.specs.Answers.{EndsWithNumber, answer_of, class_shown, cut_answer, request_number, one_shown, pair_shown, requested, request_text, with_numbers, request_word}
use Rattle.pid_lookup.specs.Asked.{AgreeOn, IsNameOf, is_for_one_name, request_paths, subsystem_paths}
use Rattle.pid_lookup.specs.Cut.{cut, too_small}
use Rattle.std.proofs.lemmas.Bool.{leb-false, ltb-true}

pub both : {A B C : Type 0} (f : A → B → C) {a b : A} {c d : B} → a ≡ b → c ≡ d → f a c ≡ f b d
both f {b = b} {c = c} p q = ap (λ x. f x c) p ∙ ap (f b) q

one_numeric : (s : Switches) (number word : List ℕ) (name : Option (List ℕ)) → s.numeric ≡ true → s.no_numbers ≡ false → one_text s number word name ≡ Some number
one_numeric s number word None alone shown = rw shown (rw alone refl)
one_numeric s number word (Some name) alone shown = rw alone refl

pair_numeric : (s : Switches) (number : List ℕ) (v d : Option (List ℕ)) → s.numeric ≡ true → s.no_numbers ≡ false → pair_text s number v d ≡ Some number
pair_numeric s number None d alone shown = rw shown (rw alone refl)
pair_numeric s number (Some v) None alone shown = rw shown (rw alone refl)
pair_numeric s number (Some v) (Some d) alone shown = rw alone refl

class_numeric : (s : Switches) (a : Args) (sub class : Option (List ℕ)) → s.numeric ≡ true → s.no_numbers ≡ false → class_shown s a sub class ≡ Some (request_number requests.Class a)
class_numeric s a (Some sub) class alone shown = one_numeric s _ (request_word requests.Class) (Some sub) alone shown
class_numeric s a None None alone shown = one_numeric s _ (request_word requests.Class) None alone shown
class_numeric s a None (Some class) alone shown = one_numeric (with_numbers s) _ (request_word requests.Class) (Some class) alone shown

-- under numbers alone no name matters
pub number_text : (named : Path → Option (List ℕ)) (s : Switches) (request : Request) (a : Args) → s.numeric ≡ true → s.no_numbers ≡ false
    → request_text named s request a ≡ Some (request_number request a)
number_text named s requests.Vendor a = one_numeric s _ (request_word requests.Vendor) _
number_text named s requests.Device a = one_numeric s _ (request_word requests.Device) _
number_text named s requests.VendorAndDevice a = pair_numeric s _ _ _
number_text named s requests.Subvendor a = one_numeric s _ (request_word requests.Subvendor) _
number_text named s requests.Subsystem a = one_numeric s _ (request_word requests.Subsystem) _
number_text named s requests.SubvendorAndSubsystem a = pair_numeric s _ _ _
number_text named s requests.Class a = class_numeric s a _ _
number_text named s requests.ProgIf a = one_numeric s _ (request_word requests.ProgIf) _

good_switches : (numeric no_numbers unknown : Bool) → ((numeric && no_numbers) || unknown) ≡ false → numeric ≡ true → no_numbers ≡ false
good_switches false no_numbers unknown good alone = absurd cc
good_switches true true unknown good alone = absurd cc
good_switches true false unknown good alone = refl

requested_number : (named : Path → Option (List ℕ)) (s : Switches) (asked : Option Request) (request : Request) (a : Args) (size : ℕ)
    → s.numeric ≡ true → s.no_numbers ≡ false → asked ≡ Some request → requested named s asked a size ≡ Text (cut (request_number request a) size)
requested_number named s asked request a size alone shown is =
    ap (λ r. requested named s r a size) is ∙ ap (λ text. cut_answer text size) (number_text named s request a alone shown)

-- NUMERIC shows the number
pub numbers_alone : (t : TreeMap) (flags size : ℕ) (a : Args) (request : Request) → is_bad flags ≡ false → (switches_of flags).numeric ≡ true → request_of flags ≡ Some request
    → answer_of t flags a size ≡ Text (cut (request_number request a) size)
numbers_alone t flags size a request good alone =
    let shown = good_switches (switches_of flags).numeric (switches_of flags).no_numbers (has_bits flags 0xfff80000) good alone in
    requested_number (name_in_map t) (switches_of flags) (request_of flags) request a size alone shown

same_request : (named other : Path → Option (List ℕ)) (s : Switches) (asked : Option Request) (a : Args) (size : ℕ) → s.numeric ≡ true → s.no_numbers ≡ false
    → requested named s asked a size ≡ requested other s asked a size
same_request named other s None a size alone shown = refl
same_request named other s (Some request) a size alone shown =
    ap (λ text. cut_answer text size) (number_text named s request a alone shown ∙ sym (number_text other s request a alone shown))

pub maps_do_not_matter : (t u : TreeMap) (flags size : ℕ) (a : Args) → is_bad flags ≡ false → (switches_of flags).numeric ≡ true
    → answer_of t flags a size ≡ answer_of u flags a size
maps_do_not_matter t u flags size a good alone =
    let shown = good_switches (switches_of flags).numeric (switches_of flags).no_numbers (has_bits flags 0xfff80000) good alone in
    same_request (name_in_map t) (name_in_map u) (switches_of flags) (request_of flags) a size alone shown

fits : (is_short has_room : Bool) (text : List ℕ) (size : ℕ) → nat_lt (length text) size ≡ is_short → nat_le 4 size ≡ has_room → 4 ≤ size
    → length (if is_short then text else (if has_room then take (size - 4) text ++ codes "..." else too_small)) < size
fits true has_room text size e f big = ltb-true (length text) size e
fits false true text size e f big =
    let parts = length-append (take (size - 4) text) (codes "...") in
    let front = length-take (size - 4) text in
    omega arith
fits false false text size e f big = let small = leb-false 4 size f in omega arith

-- A text cut to a buffer of at least 4 bytes leaves room for its closing 0 byte.
pub cuts_fit : (text : List ℕ) (size : ℕ) → 4 ≤ size → length (cut text size) < size
cuts_fit text size big = fits (nat_lt (length text) size) (nat_le 4 size) text size refl refl big

-- an answer that is a text is the cut of what its request shows
its_text : (shown : Option (List ℕ)) (size : ℕ) (text : List ℕ) → cut_answer shown size ≡ Text text → (whole : List ℕ) × (shown ≡ Some whole) × (text ≡ cut whole size)
its_text None size text e = absurd cc
its_text (Some whole) size text e = (whole, refl, cc)

the_text : (named : Path → Option (List ℕ)) (s : Switches) (asked : Option Request) (request : Request) (a : Args) (size : ℕ) (text : List ℕ)
    → asked ≡ Some request → requested named s asked a size ≡ Text text → (whole : List ℕ) × (request_text named s request a ≡ Some whole) × (text ≡ cut whole size)
the_text named s asked request a size text is e =
    its_text (request_text named s request a) size text (sym (ap (λ r. requested named s r a size) is) ∙ e)

pub answers_fit : (t : TreeMap) (flags size : ℕ) (a : Args) (request : Request) (text : List ℕ) → 4 ≤ size → request_of flags ≡ Some request
    → answer_of t flags a size ≡ Text text → length text < size
answers_fit t flags size a request text room is e =
    let whole = the_text (name_in_map t) (switches_of flags) (request_of flags) request a size text is e in
    subst (λ bytes. length bytes < size) (sym whole.2) (cuts_fit whole.0 size room)

-- the same names at the paths of a request show the same
one_subsystem : (named other : Path → Option (List ℕ)) (a : Args)
    → named (Subsystem a.vendor a.device a.subvendor a.subdevice) ≡ other (Subsystem a.vendor a.device a.subvendor a.subdevice)
    → named (Generic a.subvendor a.subdevice) ≡ other (Generic a.subvendor a.subdevice)
    → named (Device a.vendor a.device) ≡ other (Device a.vendor a.device)
    → subsystem_name named a ≡ subsystem_name other a
one_subsystem named other a under generic own = rw under (rw generic (rw own refl))

some_path : Path
some_path = Vendor 0

pub same_text : (named other : Path → Option (List ℕ)) (s : Switches) (request : Request) (a : Args)
    → All (λ path. named path ≡ other path) (request_paths request a) → request_text named s request a ≡ request_text other s request a
same_text named other s requests.Vendor a agree = ap (one_shown s requests.Vendor a) (agree 0 some_path (omega arith))
same_text named other s requests.Device a agree = ap (one_shown s requests.Device a) (agree 0 some_path (omega arith))
same_text named other s requests.Subvendor a agree = ap (one_shown s requests.Subvendor a) (agree 0 some_path (omega arith))
same_text named other s requests.Subsystem a agree =
    ap (one_shown s requests.Subsystem a) (one_subsystem named other a (agree 0 some_path (omega arith)) (agree 1 some_path (omega arith)) (agree 2 some_path (omega arith)))
same_text named other s requests.Class a agree = both (class_shown s a) (agree 0 some_path (omega arith)) (agree 1 some_path (omega arith))
same_text named other s requests.ProgIf a agree =
    ap (λ entry. one_shown s requests.ProgIf a (first_there (entry ∷ where_true (a.class == 0x101 && not (has_bits a.progif 0x70)) (Some (ide_words a.progif)) ∷ []))) (agree 0 some_path (omega arith))
same_text named other s requests.VendorAndDevice a agree = both (pair_shown s requests.VendorAndDevice a) (agree 0 some_path (omega arith)) (agree 1 some_path (omega arith))
same_text named other s requests.SubvendorAndSubsystem a agree =
    both (pair_shown s requests.SubvendorAndSubsystem a) (agree 0 some_path (omega arith))
    (one_subsystem named other a (agree 1 some_path (omega arith)) (agree 2 some_path (omega arith)) (agree 3 some_path (omega arith)))

pub other_paths_do_not_matter : (t u : TreeMap) (flags size : ℕ) (a : Args) (request : Request) → request_of flags ≡ Some request → AgreeOn (request_paths request a) t u
    → answer_of t flags a size ≡ answer_of u flags a size
other_paths_do_not_matter t u flags size a request is agree =
    let s = switches_of flags in
    let to_request : (named : Path → Option (List ℕ)) → requested named s (request_of flags) a size ≡ requested named s (Some request) a size = λ named. ap (λ r. requested named s r a size) is in
    to_request (name_in_map t) ∙ (ap (λ text. cut_answer text size) (same_text (name_in_map t) (name_in_map u) s request a agree) ∙ sym (to_request (name_in_map u)))

-- without numbers and brackets one name is shown as it stands
plain_one : (s : Switches) (number word : List ℕ) (name : Option (List ℕ)) (text : List ℕ) → s.numeric ≡ false → s.no_numbers ≡ true → s.mixed ≡ false
    → one_text s number word name ≡ Some text → name ≡ Some text
plain_one s number word None text named alone plain e = let n : one_text s number word None ≡ None = rw alone refl in absurd cc
plain_one s number word (Some name) text named alone plain e = let n : one_text s number word (Some name) ≡ Some name = rw named (rw plain refl) in sym n ∙ e

counted : (test : Bool) (name : Option (List ℕ)) (text : List ℕ) → where_true test name ≡ Some text → name ≡ Some text
counted true name text e = e
counted false name text e = absurd cc

first_of : (x y z : Option (List ℕ)) (text : List ℕ) → first_there (x ∷ y ∷ z ∷ []) ≡ Some text → (x ≡ Some text) ⊎ ((y ≡ Some text) ⊎ (z ≡ Some text))
first_of (Some x) y z text e = inl e
first_of None (Some y) z text e = inr (inl e)
first_of None None (Some z) text e = inr (inr e)
first_of None None None text e = absurd cc

subsystem_at : (named : Path → Option (List ℕ)) (a : Args) (text : List ℕ) → subsystem_name named a ≡ Some text
    → Any (λ path. named path ≡ Some text) (subsystem_paths a)
subsystem_at named a text e =
    elim (first_of (where_true (nat_lt 0 a.vendor && nat_lt 0 a.device) (named (Subsystem a.vendor a.device a.subvendor a.subdevice))) (named (Generic a.subvendor a.subdevice)) (where_true (a.subvendor == a.vendor && a.subdevice == a.device) (named (Device a.vendor a.device))) text e) [
      | inl x ↦ (0, Subsystem a.vendor a.device a.subvendor a.subdevice, omega arith, refl, counted _ _ text x)
      | inr rest ↦ elim rest [
        | inl y ↦ (1, Generic a.subvendor a.subdevice, omega arith, refl, y)
        | inr z ↦ (2, Device a.vendor a.device, omega arith, refl, counted _ _ text z)
      ]
    ]

plain_text : (named : Path → Option (List ℕ)) (s : Switches) (request : Request) (a : Args) (text : List ℕ) → is_for_one_name request ≡ true
    → s.numeric ≡ false → s.no_numbers ≡ true → s.mixed ≡ false → request_text named s request a ≡ Some text → Any (λ path. named path ≡ Some text) (request_paths request a)
plain_text named s requests.Vendor a text one named_too alone plain e = (0, Vendor a.vendor, omega arith, refl, plain_one s _ (request_word requests.Vendor) _ text named_too alone plain e)
plain_text named s requests.Device a text one named_too alone plain e = (0, Device a.vendor a.device, omega arith, refl, plain_one s _ (request_word requests.Device) _ text named_too alone plain e)
plain_text named s requests.Subvendor a text one named_too alone plain e = (0, Vendor a.subvendor, omega arith, refl, plain_one s _ (request_word requests.Subvendor) _ text named_too alone plain e)
plain_text named s requests.Subsystem a text one named_too alone plain e = subsystem_at named a text (plain_one s _ (request_word requests.Subsystem) _ text named_too alone plain e)
plain_text named s requests.VendorAndDevice a text one named_too alone plain e = absurd cc
plain_text named s requests.SubvendorAndSubsystem a text one named_too alone plain e = absurd cc
plain_text named s requests.Class a text one named_too alone plain e = absurd cc
plain_text named s requests.ProgIf a text one named_too alone plain e = absurd cc

not_numeric : (numeric no_numbers unknown : Bool) → ((numeric && no_numbers) || unknown) ≡ false → no_numbers ≡ true → numeric ≡ false
not_numeric false no_numbers unknown good alone = refl
not_numeric true false unknown good alone = absurd cc
not_numeric true true unknown good alone = absurd cc

pub plain_answers_are_names : (t : TreeMap) (flags size : ℕ) (a : Args) (request : Request) (text : List ℕ) → is_bad flags ≡ false
    → (switches_of flags).no_numbers ≡ true → (switches_of flags).mixed ≡ false → request_of flags ≡ Some request → is_for_one_name request ≡ true
    → answer_of t flags a size ≡ Text text → IsNameOf t (request_paths request a) size text
plain_answers_are_names t flags size a request text good alone plain is one e =
    let s = switches_of flags in
    let whole = the_text (name_in_map t) s (request_of flags) request a size text is e in
    record {
      name = whole.0;
      is_there = plain_text (name_in_map t) s request a whole.0 one (not_numeric s.numeric s.no_numbers (has_bits flags 0xfff80000) good alone) alone plain whole.1;
      shown = whole.2;
    }

-- names and numbers
abbrev mixing : Bool → Switches
mixing no_numbers = record { numeric = false; no_numbers = no_numbers; mixed = true }

abbrev HasNumber : List ℕ → List ℕ → Type 0
HasNumber number text = (front : List ℕ) × (text ≡ front ++ bracketed number)

mixed_one : (n : Bool) (number word : List ℕ) (name : Option (List ℕ)) (text : List ℕ) → one_text (mixing n) number word name ≡ Some text → HasNumber number text
mixed_one true number word None text e = absurd cc
mixed_one false number word None text e = (word, cc)
mixed_one n number word (Some name) text e = (name, cc)

mixed_pair : (n : Bool) (number : List ℕ) (v d : Option (List ℕ)) (text : List ℕ) → pair_text (mixing n) number v d ≡ Some text → HasNumber number text
mixed_pair true number None d text e = absurd cc
mixed_pair false number None d text e = (codes "Device", cc)
mixed_pair true number (Some v) None text e = absurd cc
mixed_pair false number (Some v) None text e = (v ++ codes " Device", cc)
mixed_pair n number (Some v) (Some d) text e = (v ++ codes " " ++ d, cc)

mixed_class : (n : Bool) (a : Args) (sub class : Option (List ℕ)) (text : List ℕ) → class_shown (mixing n) a sub class ≡ Some text → HasNumber (request_number requests.Class a) text
mixed_class n a (Some sub) class text = mixed_one n (request_number requests.Class a) (request_word requests.Class) (Some sub) text
mixed_class n a None None text = mixed_one n (request_number requests.Class a) (request_word requests.Class) None text
mixed_class n a None (Some class) text = mixed_one n (request_number requests.Class a) (request_word requests.Class) (Some class) text

mixed_text : (named : Path → Option (List ℕ)) (n : Bool) (request : Request) (a : Args) (text : List ℕ) → request_text named (mixing n) request a ≡ Some text → HasNumber (request_number request a) text
mixed_text named n requests.Vendor a text = mixed_one n (request_number requests.Vendor a) (request_word requests.Vendor) _ text
mixed_text named n requests.Device a text = mixed_one n (request_number requests.Device a) (request_word requests.Device) _ text
mixed_text named n requests.Subvendor a text = mixed_one n (request_number requests.Subvendor a) (request_word requests.Subvendor) _ text
mixed_text named n requests.Subsystem a text = mixed_one n (request_number requests.Subsystem a) (request_word requests.Subsystem) _ text
mixed_text named n requests.Class a text = mixed_class n a _ _ text
mixed_text named n requests.ProgIf a text = mixed_one n (request_number requests.ProgIf a) (request_word requests.ProgIf) _ text
mixed_text named n requests.VendorAndDevice a text = mixed_pair n (request_number requests.VendorAndDevice a) _ _ text
mixed_text named n requests.SubvendorAndSubsystem a text = mixed_pair n (request_number requests.SubvendorAndSubsystem a) _ _ text

mixing_is : (s : Switches) → s.numeric ≡ false → s.mixed ≡ true → s ≡ mixing s.no_numbers
mixing_is s named mixed = both {C = Switches} (λ n m. record { numeric = n; no_numbers = s.no_numbers; mixed = m }) named mixed

cleared : (numeric mixed : Bool) → mixed ≡ true → (numeric && not mixed) ≡ false
cleared true true e = refl
cleared false true e = refl
cleared numeric false e = absurd cc

pub mixed_answers_end_with_the_number : (t : TreeMap) (flags size : ℕ) (a : Args) (request : Request) (text : List ℕ) → (switches_of flags).mixed ≡ true
    → request_of flags ≡ Some request → answer_of t flags a size ≡ Text text → EndsWithNumber (request_number request a) size text
mixed_answers_end_with_the_number t flags size a request text mixed is e =
    let s = switches_of flags in
    let whole = the_text (name_in_map t) s (request_of flags) request a size text is e in
    let same = mixing_is s (cleared (has_bits flags 0x10000) (has_bits flags 0x40000) mixed) mixed in
    let its_number = mixed_text (name_in_map t) s.no_numbers request a whole.0 (sym (ap (λ style. request_text (name_in_map t) style request a) same) ∙ whole.1) in
    record { front = its_number.0; shown = whole.2 ∙ ap (λ w. cut w size) its_number.1 }

-- where numbers may be shown there is an answer
abbrev with_any : Bool → Bool → Switches
with_any numeric mixed = record { numeric = numeric; no_numbers = false; mixed = mixed }

one_there : (n m : Bool) (number word : List ℕ) (name : Option (List ℕ)) → one_text (with_any n m) number word name ≡ None → ⊥
one_there true m number word None e = absurd cc
one_there false true number word None e = absurd cc
one_there false false number word None e = absurd cc
one_there true m number word (Some name) e = absurd cc
one_there false true number word (Some name) e = absurd cc
one_there false false number word (Some name) e = absurd cc

pair_there : (n m : Bool) (number : List ℕ) (v d : Option (List ℕ)) → pair_text (with_any n m) number v d ≡ None → ⊥
pair_there true m number None d e = absurd cc
pair_there false true number None d e = absurd cc
pair_there false false number None d e = absurd cc
pair_there true m number (Some v) None e = absurd cc
pair_there false true number (Some v) None e = absurd cc
pair_there false false number (Some v) None e = absurd cc
pair_there true m number (Some v) (Some d) e = absurd cc
pair_there false true number (Some v) (Some d) e = absurd cc
pair_there false false number (Some v) (Some d) e = absurd cc

class_there : (n m : Bool) (a : Args) (sub class : Option (List ℕ)) → class_shown (with_any n m) a sub class ≡ None → ⊥
class_there n m a (Some sub) class = one_there n m _ (request_word requests.Class) (Some sub)
class_there n m a None None = one_there n m _ (request_word requests.Class) None
class_there n m a None (Some class) = one_there n (m || not n) _ (request_word requests.Class) (Some class)

text_there : (named : Path → Option (List ℕ)) (n m : Bool) (request : Request) (a : Args) → request_text named (with_any n m) request a ≡ None → ⊥
text_there named n m requests.Vendor a = one_there n m _ (request_word requests.Vendor) _
text_there named n m requests.Device a = one_there n m _ (request_word requests.Device) _
text_there named n m requests.Subvendor a = one_there n m _ (request_word requests.Subvendor) _
text_there named n m requests.Subsystem a = one_there n m _ (request_word requests.Subsystem) _
text_there named n m requests.Class a = class_there n m a _ _
text_there named n m requests.ProgIf a = one_there n m _ (request_word requests.ProgIf) _
text_there named n m requests.VendorAndDevice a = pair_there n m _ _ _
text_there named n m requests.SubvendorAndSubsystem a = pair_there n m _ _ _

missing : (shown : Option (List ℕ)) (size : ℕ) → cut_answer shown size ≡ NoAnswer → shown ≡ None
missing None size e = refl
missing (Some text) size e = absurd cc

requested_there : (named : Path → Option (List ℕ)) (s : Switches) (asked : Option Request) (a : Args) (size : ℕ) → s.no_numbers ≡ false → requested named s asked a size ≢ NoAnswer
requested_there named s None a size shown e = absurd cc
requested_there named s (Some request) a size shown e =
    let same : s ≡ with_any s.numeric s.mixed = ap {B = Switches} (λ n. record { numeric = s.numeric; no_numbers = n; mixed = s.mixed }) shown in
    text_there named s.numeric s.mixed request a (sym (ap (λ style. request_text named style request a) same) ∙ missing (request_text named s request a) size e)

pub answers_are_there : (t : TreeMap) (flags size : ℕ) (a : Args) → (switches_of flags).no_numbers ≡ false → answer_of t flags a size ≢ NoAnswer
answers_are_there t flags size a = requested_there (name_in_map t) (switches_of flags) (request_of flags) a size
