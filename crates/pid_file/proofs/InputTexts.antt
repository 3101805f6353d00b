-- What the text of an input says, by what a sink took of it.
use Rattle.std.proofs.Common.{◌≡◌, ℕ, ◌+◌, ◌≤◌, List, ◌++◌, length, Option, Some, None, Result, Ok, Err, refl, sym, ap, subst, ◌∙◌, inl, inr, arith}
use mathlib.Core.Bool.{true≢false}
use mathlib.Core.Logic.{⊎_elim}
use Rattle.std.specs.Prelude.{IfSome, is_ok}
use Rattle.std.specs.Io.KnownBytes.{Consumes}
use Rattle.std.proofs.lemmas.List.{append-nil, length-append}
use Rattle.pid_file.specs.declared.counter.Never.{Never}
use Rattle.pid_file.specs.declared.io.Input.{Ghosts}
use Rattle.pid_file.specs.declared.refusal.ReadRefusal.TheVariants.{Memory}
use Rattle.pid_file.specs.declared.sink.CutEnd.TheVariants.{Refused, Fault}
use Rattle.pid_file.specs.declared.whole_input.InputEnd.{InputEnd}
use Rattle.pid_file.specs.declared.whole_input.InputEnd.TheVariants.{ReadFault, TooLong, Cut}
use Rattle.pid_file.specs.InputTexts.{IsUnread}
use Rattle.pid_file.specs.Numbered.{Numbered}
use Rattle.pid_file.specs.Reading.{refused}
use Rattle.pid_file.specs.Refusals.{IsRefusal}
use Rattle.pid_file.specs.Steps.InputTexts.{without_fault}
use Rattle.pid_file.specs.WholeInputs.{CutsInput, IsWhole, LeavesInput}

-- the text that was read whole is all that was to come
all_read : (limit : ℕ) (all text rest : List ℕ) → all ≡ text ++ rest → IsWhole limit (Some rest) text → text ≡ all
all_read limit all text rest parts whole = sym (append-nil text) ∙ ap (λ (l : List ℕ). text ++ l) (sym whole.at_end) ∙ sym parts

pub read_whole : {D : Type 0} (gives : List ℕ → D → Type 0) (limit : ℕ) (d : D) (old new : Option (List ℕ)) (text : List ℕ) → Consumes old new text → IsWhole limit new text → refused text ≡ None → gives text d
    → IfSome old (λ all. (length all ≤ limit) × (refused all ≡ None) × gives all d)
read_whole gives limit d None new text consumed whole good made = tt
read_whole gives limit d (Some all) None text consumed whole good made = absurd consumed
read_whole gives limit d (Some all) (Some rest) text consumed whole good made =
    subst (λ (t : List ℕ). (length t ≤ limit) × (refused t ≡ None) × gives t d) (all_read limit all text rest consumed whole) (whole.short, good, made)

-- why it was not read whole, or is refused
pub unread : {S F : Type 0} (takes : S → Numbered → S → Type 0) (faults : S → Numbered → F → S → Type 0) (limit : ℕ) (end : InputEnd F) (old new : Option (List ℕ)) (text : List ℕ) (s t : S) → Consumes old new text → CutsInput {X = Unit {0}} takes faults limit (Err end) new text s t
    → IfSome old (λ all. IsUnread limit (without_fault {G = Never} end) all)
unread takes faults limit end None new text s t consumed cut = tt
unread takes faults limit end (Some all) None text s t consumed cut = absurd consumed
unread takes faults limit ReadFault (Some all) (Some rest) text s t consumed cut = tt
unread takes faults limit TooLong (Some all) (Some rest) text s t consumed cut = let long : length all ≡ length text + length rest = ap length consumed ∙ length-append text rest in omega (arith, long, cut.0)
unread takes faults limit (Cut (Refused r)) (Some all) (Some rest) text s t consumed cut =
    subst (λ (l : List ℕ). (length l ≤ limit) × IsRefusal r (refused l)) (all_read limit all text rest consumed cut.0) (cut.0.short, ⊎_elim (λ a. inr a.0) (λ a. inl a.0) cut.1)
unread takes faults limit (Cut (Fault f)) (Some all) (Some rest) text s t consumed cut =
    subst (λ (l : List ℕ). (length l ≤ limit) × IsRefusal Memory (refused l)) (all_read limit all text rest consumed cut.0) (cut.0.short, inl refl)

-- what is left of an input, by another word for its fault
pub leaves_as : {X : Type 0} (input : Ghosts X) (limit : ℕ) (old new : X) (failed so : Type 0) → (failed → so) → (so → failed) → LeavesInput input limit old new failed → LeavesInput input limit old new so
leaves_as input limit old new failed so to back left =
    record { stops = left.stops; fault = λ f. left.fault (back f); fault_first = λ some. to (left.fault_first some); goes = left.goes }

pub ok_no_fault : {D F : Type 0} (d : D) → ◌≡◌ {A = Result D (InputEnd F)} (Ok d) (Err ReadFault) → ⊥
ok_no_fault d e = true≢false (ap is_ok e)

pub is_read_fault : {D F : Type 0} (end : InputEnd F) → ◌≡◌ {A = Result D (InputEnd F)} (Err end) (Err ReadFault) → end ≡ ReadFault
is_read_fault ReadFault e = refl
is_read_fault TooLong e = absurd (let no : ⊥ = cc in no)
is_read_fault (Cut end) e = absurd (let no : ⊥ = cc in no)
