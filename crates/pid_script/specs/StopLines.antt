-- The line that stops a script: choices of this project.
use Rattle.std.specs.Prelude.{◌≡◌, ◌⊎◌, ℕ, Bool, true, false, List, [], ◌++◌}
use Rattle.pid_file.specs.Printing.{print}
use Rattle.pid_moderation.specs.declared.refusal.Refusal.{Refusal}
use Rattle.pid_moderation.specs.declared.refusal.Refusal.TheVariants.{Memory, Store, Failed}
use Rattle.pid_moderation.specs.History.{History}
use Rattle.pid_moderation.specs.ReplyLines.{refused_line}
use Rattle.pid_moderation.specs.Writes.{tree_of}
use Rattle.pid_service_laws.specs.declared.registry_calls.RegistryCalls.{Ghosts}
use Rattle.pid_moderation.specs.Faults.{IsMemoryOrStore}
use Rattle.pid_script.specs.Replies.{is_call}
use Rattle.pid_script.specs.ScriptLines.{Ask, AsksNothing, AsksCommand, AsksExport, AsksName}
use Rattle.pid_script.specs.ScriptLines.{AsksLookup, Unclear, TooLong}
use Rattle.pid_service_laws.specs.WholeFronts.{IsWholeFront}

-- a refusal of memory, of the store, or of a registry that has failed: it judges nothing, and stops
-- the script
abbrev pub is_stop : Refusal → Bool
is_stop Memory = true
is_stop Store = true
is_stop Failed = true
is_stop refusal = false

-- the line of such a refusal
abbrev pub IsStopLine : List ℕ → Type 0
IsStopLine text = (refusal : Refusal) × (is_stop refusal ≡ true) × (text ≡ refused_line refusal)

-- what comes before the line: of an export whole lines of its text, else nothing
abbrev pub IsBegun : Ask → History → List ℕ → Type 0
IsBegun AsksExport h = λ begun. IsWholeFront (print (tree_of h)) begun
IsBegun AsksNothing h = λ begun. begun ≡ []
IsBegun (AsksCommand verb account fields) h = λ begun. begun ≡ []
IsBegun (AsksName fields) h = λ begun. begun ≡ []
IsBegun (AsksLookup fields) h = λ begun. begun ≡ []
IsBegun Unclear h = λ begun. begun ≡ []
IsBegun TooLong h = λ begun. begun ≡ []

-- the text of a stop in place of a reply: the line of such a refusal, after what was begun
pub record IsStopText (Cause : Refusal → Type 0) (Begun : List ℕ → Type 0)
    (text : List ℕ) : Type 0 where
  pub begun : List ℕ
  pub front : Begun begun
  pub refusal : Refusal
  pub cause : Cause refusal
  pub is : text ≡ begun ++ refused_line refusal

module _ {R : Type 0} (registry : Ghosts R) where
  -- Which answer stops a script: of a live registry, that memory ran out or that its store failed;
  -- of one that has failed, that it has; and of the script itself, that memory ran out, which is all
  -- that stops it at a line that asks nothing of the registry.
  pub record StoppedBy (r : R) (h : History) (ask : Ask) (refusal : Refusal) : Type 0 where
    pub stops : is_stop refusal ≡ true
    pub live : registry.showing.shows r h → IsMemoryOrStore refusal
    pub failed : registry.is_live r ≡ false → (refusal ≡ Failed) ⊎ (refusal ≡ Memory)
    pub unasked : is_call ask ≡ false → refusal ≡ Memory

  -- What may come in place of the reply to what a line asks: the registry showed the first history
  -- at the start, and the second before the line.
  abbrev pub IsStopInPlace : R → (first at : History) → Ask → List ℕ → Type 0
  IsStopInPlace r first at ask = IsStopText (StoppedBy r first ask) (IsBegun ask at)
