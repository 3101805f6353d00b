-- The words of the commands: choices of this project.
use Rattle.std.specs.Prelude.{ℕ, List, [], ◌∷◌, find, Option, codes}
use Rattle.std.specs.Str.{bytes_eq}
use Rattle.pid_moderation.specs.declared.verb.Verb.{Verb}
use Rattle.pid_moderation.specs.declared.verb.Verb.TheVariants.{Account, Submit, Comment, Withdraw}
use Rattle.pid_moderation.specs.declared.verb.Verb.TheVariants.{Approve, Confirm, Reject, Import}

abbrev pub verb_word : Verb → List ℕ
verb_word Account = codes "account"
verb_word Submit = codes "submit"
verb_word Comment = codes "comment"
verb_word Withdraw = codes "withdraw"
verb_word Approve = codes "approve"
verb_word Confirm = codes "confirm"
verb_word Reject = codes "reject"
verb_word Import = codes "import"

-- the verb with this word
abbrev pub verb_of : List ℕ → Option Verb
verb_of word = find (λ v. bytes_eq word (verb_word v))
    (Account ∷ Submit ∷ Comment ∷ Withdraw ∷ Approve ∷ Confirm ∷ Reject ∷ Import ∷ [])
