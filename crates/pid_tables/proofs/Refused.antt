-- A refusal by the judgement changes nothing.
use Rattle.std.proofs.Common.{◌≡◌, ◌≢◌, inl, inr, Err, refl}
use Rattle.pid_moderation.specs.declared.refusal.Refusal.{Refusal}
use Rattle.pid_moderation.specs.declared.refusal.Refusal.TheVariants.{BadPath, BadName, BadText, NoAccount, RankTooLow, NoSubmission, NotPending, NotAuthor, OwnDecision, ParentMissing, HasChildren, NothingToDo, FileFault, Full, Memory, Store, Failed, Changed}
use Rattle.pid_moderation.specs.History.{Asked, History}
use Rattle.pid_moderation.specs.Judgement.{Outcome, Refused, Repeated, Accepts, judge, answer, added, after}
use Rattle.pid_moderation.specs.Views.{views_of}
use Rattle.pid_tables.specs.Importing.{RefusesImport}

refusal_adds : (h : History) (c : Asked) (o : Outcome) (e : Refusal) → answer o ≡ Err e → added h c o ≡ h
refusal_adds h c (Refused r) e same = refl
refusal_adds h c (Repeated r) e same = refl
refusal_adds h c (Accepts r) e same = absurd (let no : ⊥ = cc in no)

pub refused_stays : (h : History) (c : Asked) (e : Refusal) → answer (judge (views_of h) c) ≡ Err e → after h c ≡ h
refused_stays h c e same = refusal_adds h c (judge (views_of h) c) e same

pub told_by : (h : History) (c : Asked) (e : Refusal) → answer (judge (views_of h) c) ≡ Err e → RefusesImport h c e
told_by h c e same = inl (same, refused_stays h c e same)

pub refusal_told : (h : History) (c : Asked) (e : Refusal) → (e ≢ Memory → answer (judge (views_of h) c) ≡ Err e) → RefusesImport h c e
refusal_told h c BadPath told = told_by h c BadPath (told (λ bad. let no : ⊥ = cc in no))
refusal_told h c BadName told = told_by h c BadName (told (λ bad. let no : ⊥ = cc in no))
refusal_told h c BadText told = told_by h c BadText (told (λ bad. let no : ⊥ = cc in no))
refusal_told h c NoAccount told = told_by h c NoAccount (told (λ bad. let no : ⊥ = cc in no))
refusal_told h c RankTooLow told = told_by h c RankTooLow (told (λ bad. let no : ⊥ = cc in no))
refusal_told h c NoSubmission told = told_by h c NoSubmission (told (λ bad. let no : ⊥ = cc in no))
refusal_told h c NotPending told = told_by h c NotPending (told (λ bad. let no : ⊥ = cc in no))
refusal_told h c NotAuthor told = told_by h c NotAuthor (told (λ bad. let no : ⊥ = cc in no))
refusal_told h c OwnDecision told = told_by h c OwnDecision (told (λ bad. let no : ⊥ = cc in no))
refusal_told h c ParentMissing told = told_by h c ParentMissing (told (λ bad. let no : ⊥ = cc in no))
refusal_told h c HasChildren told = told_by h c HasChildren (told (λ bad. let no : ⊥ = cc in no))
refusal_told h c NothingToDo told = told_by h c NothingToDo (told (λ bad. let no : ⊥ = cc in no))
refusal_told h c (FileFault f) told = told_by h c (FileFault f) (told (λ bad. let no : ⊥ = cc in no))
refusal_told h c Full told = told_by h c Full (told (λ bad. let no : ⊥ = cc in no))
refusal_told h c Memory told = inr refl
refusal_told h c Store told = told_by h c Store (told (λ bad. let no : ⊥ = cc in no))
refusal_told h c Failed told = told_by h c Failed (told (λ bad. let no : ⊥ = cc in no))
refusal_told h c Changed told = told_by h c Changed (told (λ bad. let no : ⊥ = cc in no))
