-- A look-up in a text: its answer.
use Rattle.std.specs.Prelude.{◌≡◌, ℕ, List, Result, IfOk}
use Rattle.pid_file.specs.Trees.{TreeMap}
use Rattle.pid_lookup.specs.Answers.{answer_of}
use Rattle.pid_lookup.specs.declared.answer.Answer.{Answer}
use Rattle.pid_lookup.specs.declared.answering.LookupRefusal.{LookupRefusal}
use Rattle.pid_lookup.specs.declared.args.Args.{Args}
use Rattle.pid_file.specs.Reading.{Reads}

-- it is the answer of the tree that the text reads to
abbrev pub IsAnswerOfText : {F : Type 0} → ℕ → Args → ℕ → List ℕ → Result Answer (LookupRefusal F)
    → Type 0
IsAnswerOfText flags a size text found = IfOk found
    (λ answer. (t : TreeMap) → Reads text t → answer ≡ answer_of t flags a size)
