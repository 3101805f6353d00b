-- What a registry under moderation exports and answers to look-ups, whatever keeps it.
use Rattle.std.specs.Prelude.{◌≡◌, ℕ, true, false, List, Option, Result, Ok, Err}
use Rattle.std.specs.Io.KnownBytes.{Appends}
use Rattle.pid_ident.specs.Sending.{SendsFront}
use Rattle.pid_ident.specs.Trees.{TreeMap}
use Rattle.pid_lookup.specs.declared.answer.Answer.{Answer}
use Rattle.pid_lookup.specs.declared.args.Args.{Args}
use Rattle.pid_lookup.specs.declared.answering.LookupRefusal.{LookupRefusal}
use Rattle.pid_lookup.specs.declared.answering.LookupRefusal.TheVariants.{BadFlags, Names, Memory}
use Rattle.pid_lookup.specs.Answers.{answer_of}
use Rattle.pid_lookup.specs.Flags.{is_bad}
use Rattle.pid_moderation.specs.declared.refusal.Refusal.{Refusal}
use Rattle.pid_moderation.specs.Faults.{IsMemoryOrStore}
use Rattle.pid_service_laws.specs.declared.faults.ExportFault.{ExportFault}
use Rattle.pid_service_laws.specs.declared.faults.ExportFault.TheVariants.{Refused, Write}
use Rattle.pid_service_laws.specs.WholeFronts.{IsWholeFront}

-- whole lines of the text went out
pub record TakesWholeFront (old new : Option (List ℕ)) (text : List ℕ) : Type 0 where
  pub front : List ℕ
  pub whole : IsWholeFront text front
  pub told : Appends old new front

-- The whole text; a prefix of it, and not all, if the writer failed; or whole lines of it, if
-- memory ran out or the store failed.
abbrev pub ExportsText : {X : Type 0} → Result X ExportFault → Option (List ℕ) → Option (List ℕ)
    → List ℕ → Type 0
ExportsText (Ok x) old new text = Appends old new text
ExportsText (Err (Write fault)) old new text = SendsFront old new text
ExportsText (Err (Refused refusal)) old new text =
    IsMemoryOrStore refusal × TakesWholeFront old new text

-- the answer over the tree, if the flags are not bad; that they are bad; or out of memory or a
-- fault of the store
abbrev pub LooksUp : Result Answer (LookupRefusal Refusal) → TreeMap → ℕ → Args → ℕ → Type 0
LooksUp (Ok answer) tree flags args size = (is_bad flags ≡ false)
    × (answer ≡ answer_of tree flags args size)
LooksUp (Err BadFlags) tree flags args size = is_bad flags ≡ true
LooksUp (Err (Names refusal)) tree flags args size = IsMemoryOrStore refusal
LooksUp (Err Memory) tree flags args size = Unit {0}
