-- Texts as words that keep a rule: an account, a key, a note, a name.
use Rattle.std.specs.Prelude.{◌≡◌, ◌↔◌, ℕ, Bool, false, List, Result, IfOk, IsErrOf}
use Rattle.pid_ident.specs.declared.word_fault.WordFault.{WordFault}
use Rattle.pid_ident.specs.declared.word_fault.WordFault.TheVariants.{Bad}

-- the word has the bytes of the text, which is bad exactly if it breaks the rule
pub record IsWordOf (keeps : List ℕ → Bool) (text : List ℕ) (result : Result (List ℕ) WordFault)
    : Type 0 where
  pub ok : IfOk result (λ word. word ≡ text)
  pub bad : IsErrOf result Bad ↔ (keeps text ≡ false)
