use Rattle.std.proofs.Common.{◌≡◌, ◌∙◌, ap, append_assoc, ◌++◌, List, ℕ, Result, Ok, Err}
use Rattle.std.specs.Prelude.{OnOk}
use Rattle.pid_ident.proofs.path_text.print.push_parts.Goals as goal

-- four parts, one after another
four_parts : {X E : Type 0} (r : Result X E) (a b c d e x y z w : List ℕ) → b ≡ a ++ x → c ≡ b ++ y → d ≡ c ++ z → OnOk r (e ≡ d ++ w) → OnOk r (e ≡ a ++ (x ++ (y ++ (z ++ w))))
four_parts (Ok v) a b c d e x y z w p q r s =
    s ∙ ap (λ (l : List ℕ). l ++ w) (r ∙ ap (λ (l : List ℕ). l ++ z) (q ∙ ap (λ (l : List ℕ). l ++ y) p))
    ∙ append_assoc ((a ++ x) ++ y) z w ∙ append_assoc (a ++ x) y (z ++ w) ∙ append_assoc a x (y ++ (z ++ w))
four_parts (Err v) a b c d e x y z w p q r s = tt

pub returns-in_ok-push_part4-in-Subsystem-3 : goal.returns-in_ok-push_part4-in-Subsystem-3
returns-in_ok-push_part4-in-Subsystem-3 c =
    rw c.in-Subsystem.is (four_parts _ _ _ _ _ _ _ _ _ _ c.in_ok-push_part4-in-Subsystem.ensures c.in_ok-push_part4-in-Subsystem-2.ensures c.in_ok-push_part4-in-Subsystem-3.ensures (rw c.hex4.ensures at c.push_digits.ensures))
