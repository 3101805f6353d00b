-- What is so of an answer, or of no memory for it.
use Rattle.std.proofs.Common.{◌≡◌, ◌≢◌, Option, Some, None, Result, Ok, Err, IfOk, sym, subst, ◌∙◌}
use Rattle.std.specs.Prelude.{IsSome}
use Rattle.pid_lookup.specs.declared.answer.Answer.{Answer}
use Rattle.pid_lookup.specs.declared.answering.LookupRefusal.{LookupRefusal}
use Rattle.pid_lookup.specs.declared.answering.LookupRefusal.TheVariants.{BadFlags, Names}
use Rattle.pid_lookup.specs.Steps.Answering.{in_memory}
use Rattle.pid_lookup.specs.Told.{TellsOnlyIf}

if_there : {E : Type 0} (F : Type 0) (x : Result Answer E) (P Q : Answer → Type 0) → ((a : Answer) → P a → Q a) → IfOk x P → IfOk (in_memory {F = F} x) Q
if_there F (Ok a) P Q means told = means a told
if_there F (Err e) P Q means told = tt

pub answer_there : {E F : Type 0} (x : Result Answer E) (r : Result Answer (LookupRefusal F)) (P Q : Answer → Type 0) → r ≡ in_memory x → ((a : Answer) → P a → Q a) → IfOk x P → IfOk r Q
answer_there x r P Q is means told = subst (λ (k : Result Answer (LookupRefusal _)). IfOk k Q) (sym is) (if_there _ x P Q means told)

no_flags : {E F : Type 0} (x : Result Answer E) → in_memory {F = F} x ≢ Err BadFlags
no_flags (Ok a) is = let no : ⊥ = cc in no
no_flags (Err e) is = let no : ⊥ = cc in no

pub not_bad : {E F : Type 0} (x : Result Answer E) (r : Result Answer (LookupRefusal F)) → r ≡ in_memory x → r ≢ Err BadFlags
not_bad x r is bad = no_flags x (sym is ∙ bad)

no_names : {E F : Type 0} (x : Result Answer E) (f : F) → in_memory x ≢ Err (Names f)
no_names (Ok a) f is = let no : ⊥ = cc in no
no_names (Err e) f is = let no : ⊥ = cc in no

pub not_names : {E F Z : Type 0} (x : Result Answer E) (r : Result Answer (LookupRefusal F)) → r ≡ in_memory x → (f : F) → r ≡ Err (Names f) → Z
not_names x r is f bad = absurd (no_names x f (sym is ∙ bad))

only_if : {E : Type 0} (F : Type 0) (x : Result Answer E) (May : Type 0) → May → TellsOnlyIf May (in_memory {F = F} x)
only_if F (Ok a) May may = may
only_if F (Err e) May may = may

pub told_only : {E F : Type 0} (x : Result Answer E) (r : Result Answer (LookupRefusal F)) (May : Type 0) → r ≡ in_memory x → May → TellsOnlyIf May r
told_only x r May is may = subst (λ (k : Result Answer (LookupRefusal _)). TellsOnlyIf May k) (sym is) (only_if _ x May may)

pub not_there : {X Z : Type 0} (o : Option X) → o ≡ None → IsSome o → Z
not_there None none some = absurd (let no : ⊥ = cc in no)
not_there (Some x) none some = absurd (let no : ⊥ = cc in no)
