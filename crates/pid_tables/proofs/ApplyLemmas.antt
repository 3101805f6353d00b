-- What a whole change leaves of counts and receipts.
use Rattle.std.proofs.Common.{◌≡◌, ℕ, true, [], ◌∷◌, length, None, Some, Option, Ok, Err, Result, OnOk, IfErr, MatchResult, refl, sym, ap, subst, ◌∙◌, length-append}
use Rattle.std.specs.Prelude.{is_none}
use Rattle.sqlite.specs.Effect.{Database}
use Rattle.pid_moderation.specs.declared.change.Change.{Change}
use Rattle.pid_moderation.specs.declared.change.Effect.{Effect}
use Rattle.pid_moderation.specs.declared.change.Effect.TheVariants.{Nothing, Ranked, Submitted, Remarked, Decided, Imported}
use Rattle.pid_moderation.specs.declared.change.Receipt.{Receipt}
use Rattle.pid_moderation.specs.Changes.{affected, keeping, changed, FitsEffect, FitsReceipt}
use Rattle.pid_moderation.specs.Views.{Views}
use Rattle.pid_tables.specs.Rows.Shows.{Counts, Shows, counts_of}
use Rattle.pid_tables.specs.Rows.Steps.Shows.{ShowsCounting}
use Rattle.pid_tables.specs.Rows.Steps.Writes.{with_revision}
use Rattle.pid_tables.specs.Steps.Fits.{CountsFit}
use Rattle.pid_tables.specs.Steps.Applies.{recounted}

-- the counts of the views are those that a change asks for
pub counted : (e : Effect) (v : Views) → CountsFit e (counts_of v) v
counted Nothing v = refl
counted (Ranked who rank is_new) v = refl
counted (Submitted number author path proposal note) v = refl
counted (Remarked number place author text) v = refl
counted (Decided number state write) v = refl
counted (Imported items) v = refl

-- meta has the counts of the changed views
pub recounted_is : (n : ℕ) (e : Effect) (c : Counts) (v : Views) → CountsFit e c v → FitsEffect e v → recounted e c ≡ counts_of (affected n e v)
recounted_is n Nothing c v is fits = is
recounted_is n (Ranked who rank is_new) c v is fits = is
recounted_is n (Submitted number author path proposal note) c v is fits =
    ap (λ (k : Counts). record k { submissions = number }) is
    ∙ ap (λ n. record { items = length v.items; submissions = n }) (fits ∙ sym (length-append v.submits (record { author = author; path = path; proposal = proposal; note = note } ∷ [])))
recounted_is n (Remarked number place author text) c v is fits = is
recounted_is n (Decided number state None) c v is fits = is
recounted_is n (Decided number state (Some w)) c v is fits = ap (λ (k : Counts). record k { items = w.items }) is ∙ ap (λ n. record { items = n; submissions = length v.submits }) fits.1.0
recounted_is n (Imported items) c v is fits = λ i. record { items = fits i; submissions = is i }

pub receipt_still_fits : (n : ℕ) (e : Effect) (r : Option Receipt) (v : Views) → FitsReceipt r v → FitsReceipt r (affected n e v)
receipt_still_fits n Nothing None v h = tt
receipt_still_fits n (Ranked who rank is_new) None v h = tt
receipt_still_fits n (Submitted number author path proposal note) None v h = tt
receipt_still_fits n (Remarked number place author text) None v h = tt
receipt_still_fits n (Decided number state w) None v h = tt
receipt_still_fits n (Imported items) None v h = tt
receipt_still_fits n Nothing (Some r) v h = h
receipt_still_fits n (Ranked who rank is_new) (Some r) v h = h
receipt_still_fits n (Submitted number author path proposal note) (Some r) v h = h
receipt_still_fits n (Remarked number place author text) (Some r) v h = h
receipt_still_fits n (Decided number state w) (Some r) v h = h
receipt_still_fits n (Imported items) (Some r) v h = h

kept_counts : (r : Option Receipt) (v : Views) → counts_of (keeping r v) ≡ counts_of v
kept_counts None v = refl
kept_counts (Some r) v = refl

-- so the tables show them whole
pub shows_whole : (change : Change) (c : Counts) (v : Views) (db : Database) → CountsFit change.effect c v → FitsEffect change.effect v → ShowsCounting (recounted change.effect c) db (changed change v) → Shows db (changed change v)
shows_whole change c v db is fits = subst (λ counts. ShowsCounting counts db (changed change v)) (recounted_is change.revision change.effect c v is fits ∙ sym (kept_counts change.receipt (affected change.revision change.effect v)))

pub whole_with : (change : Change) (r : Option Receipt) (c : Counts) (v : Views) (db : Database) → change.receipt ≡ r → CountsFit change.effect c v → FitsEffect change.effect v
    → ShowsCounting (recounted change.effect c) db (with_revision change.revision (keeping r (affected change.revision change.effect v))) → Shows db (changed change v)
whole_with change r c v db is counted fits h =
    shows_whole change c v db counted fits (subst (λ r. ShowsCounting (recounted change.effect c) db (with_revision change.revision (keeping r (affected change.revision change.effect v)))) (sym is) h)

pub none_there : {X : Type 0} (o : Option X) → is_none o ≡ true → o ≡ None
none_there None h = refl
none_there (Some x) h = absurd cc

-- ---- the two sides of what a call leads to

pub succeeds : {X E : Type 0} (P : Type 0) (Q : E → Type 0) (r : Result X E) → MatchResult r (λ _. P) Q → OnOk r P
succeeds P Q (Ok x) h = h
succeeds P Q (Err e) h = tt

pub faults : {X E : Type 0} (P : X → Type 0) (Q : E → Type 0) (r : Result X E) → MatchResult r P Q → IfErr r Q
faults P Q (Ok x) h = tt
faults P Q (Err e) h = h

pub either_side : {X E P Q : Type 0} (F : E → Type 0) (r : Result X E) → (P → Q) → MatchResult r (λ _. P) F → MatchResult r (λ _. Q) F
either_side F (Ok x) f h = f h
either_side F (Err e) f h = h
