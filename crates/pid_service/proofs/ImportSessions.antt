-- What an import of an input promises is what sessions ask of it.
use Rattle.std.proofs.Common.{◌≡◌, ◌⊎◌, inl, inr, ℕ, List, false, Result, Ok, Err, refl, sym, ap, ◌∙◌}
use Rattle.pid_service_laws.specs.declared.faults.ImportEnd.TheVariants.{Refused}
use Rattle.pid_service.specs.Sessions.{showing}
use Rattle.pid_service.specs.Registries.{HasCleanDisk}
use Rattle.pid_service.proofs.Words.{AnswersPast, Asked, Body, Does, Failed, Ghosts, History, import_sent, ImportEnd, is_live, nothing_sent, obeyed, Obeys, ObeysImport, Refusal, Registry, Reply, Shows}

-- what a registry that has failed answers
abbrev pub IsOfFailed : Result Reply ImportEnd → Type 0
IsOfFailed result = (result ≡ Err (Refused Failed)) ⊎ (result ≡ Err Body)

never_ok : (reply : Reply) (result : Result Reply Refusal) → IsOfFailed (Ok reply) → result ≡ Err Failed
never_ok reply result (inl is) = absurd (let no : ⊥ = cc in no)
never_ok reply result (inr is) = absurd (let no : ⊥ = cc in no)

then_failed : (e : Refusal) (result : Result Reply Refusal) → IsOfFailed (Err (Refused e)) → result ≡ Err e → result ≡ Err Failed
then_failed e result (inl is) told = let same : e ≡ Failed = cc in told ∙ ap Err same
then_failed e result (inr is) told = absurd (let no : ⊥ = cc in no)

-- one that answered without reading the file
pub failed_past : (result : Result Reply ImportEnd) (text : List ℕ) → AnswersPast false (Err Failed) result text → IsOfFailed result
failed_past (Ok reply) text past = absurd (let is : ◌≡◌ {A = Result Reply Refusal} (Err Failed) (Ok reply) = past.0 in let no : ⊥ = cc in no)
failed_past (Err (Refused e)) text (inl past) = let is : ◌≡◌ {A = Result Reply Refusal} (Err Failed) (Err e) = past.0 in let same : Failed ≡ e = cc in inl (ap (λ (x : Refusal). Err (Refused x)) (sym same))
failed_past (Err (Refused e)) text (inr past) = inl (ap (λ (x : Refusal). Err (Refused x)) past.0)
failed_past (Err Body) text past = inr refl

module _ {S : Type 0} (database : Ghosts S) where
  -- the laws of commands and of questions
  abbrev pub ObeysLaw : Type 0
  ObeysLaw = (old new : Registry S database) (c : Asked) (result : Result Reply Refusal) → (HasCleanDisk database new → HasCleanDisk database old) → (is_live old ≡ false → (result ≡ Err Failed) × (new ≡ old))
      → (HasCleanDisk database new → (h : History) → Shows database old h → Obeys database result new h c) → Does (showing database) old (obeyed c result (is_live new)) new

  abbrev pub LooksLaw : Type 0
  LooksLaw = (old new : Registry S database) → (HasCleanDisk database new → HasCleanDisk database old) → (is_live old ≡ false → new ≡ old)
      → (HasCleanDisk database new → (h : History) → Shows database old h → Shows database new h) → Does (showing database) old nothing_sent new

  pub import_sessions : ObeysLaw → LooksLaw → (old new : Registry S database) (c : Asked) (result : Result Reply ImportEnd) → (HasCleanDisk database new → HasCleanDisk database old)
      → (is_live old ≡ false → IsOfFailed result × (new ≡ old)) → (HasCleanDisk database new → (h : History) → Shows database old h → ObeysImport database result new h c)
      → Does (showing database) old (import_sent c result (is_live new)) new
  import_sessions obeys looks old new c (Ok reply) clean failed told = obeys old new c (Ok reply) clean (λ off. let is = failed off in (never_ok reply (Ok reply) is.0, is.1)) told
  import_sessions obeys looks old new c (Err (Refused e)) clean failed told = obeys old new c (Err e) clean (λ off. let is = failed off in (then_failed e (Err e) is.0 refl, is.1)) told
  import_sessions obeys looks old new c (Err Body) clean failed told = looks old new clean (λ off. (failed off).1) told
