-- What a text that may be empty, or no path, says.
use Rattle.std.proofs.Common.{◌≡◌, ℕ, Bool, List, [], ◌∷◌, length, refl, sym, ◌∙◌, arith}
use Rattle.std.specs.Prelude.{◌==◌}
use Rattle.std.proofs.lemmas.Bool.Decides.{nat_tests}
use Rattle.pid_ident.specs.Bytes.{is_empty}

tested : (text : List ℕ) → (length text == 0) ≡ is_empty text
tested [] = refl
tested (b ∷ text) = grind (arith, nat_tests)

-- the code's test is that of the definitions
pub said_so : (text : List ℕ) (test answer : Bool) → test ≡ (length text == 0) → test ≡ answer → is_empty text ≡ answer
said_so text test answer e is = sym (tested text) ∙ sym e ∙ is
