-- Whether a registry is live, by what it answers to a question.
use Rattle.std.proofs.Common.{◌≡◌, inl, inr, Bool, true, false, Result, Ok, Err, refl, ap}
use Rattle.std.specs.Prelude.{not}
use Rattle.pid_moderation.specs.declared.refusal.Refusal.{Refusal}
use Rattle.pid_moderation.specs.declared.refusal.Refusal.TheVariants.{Failed}
use Rattle.pid_moderation.specs.History.{History}
use Rattle.pid_service_laws.specs.Outcomes.{IsMemoryOrStore}
use Rattle.pid_service_laws.specs.Questions.{IsAnswered, ShowsWhileLive}
use Rattle.pid_service_laws.specs.Registries.{Showing}
use Rattle.pid_journal.specs.Steps.Parts.{IsProbed}

must_live : (b : Bool) (e : Refusal) → (b ≡ true → e ≡ Failed) → IsMemoryOrStore e → not b ≡ true
must_live true e on (inl is) = let same : e ≡ Failed = on refl in absurd (let no : ⊥ = cc in no)
must_live true e on (inr is) = let same : e ≡ Failed = on refl in absurd (let no : ⊥ = cc in no)
must_live false e on told = refl

must_fall : (b : Bool) (e : Refusal) → (b ≡ false → e ≡ Failed → ⊥) → e ≡ Failed → not b ≡ false
must_fall true e off is = refl
must_fall false e off is = absurd (off refl is)

abbrev pub refusal_or : {X : Type 0} → Result X Refusal → Refusal → Refusal
refusal_or (Ok x) d = d
refusal_or (Err e) d = e

module _ {R X : Type 0} (w : Showing R) (is_live : R → Bool) (lives : ShowsWhileLive w is_live) (old new : R) (Says : History → X → Type 0) where
  pub ok_probed : (x : X) → IsAnswered w is_live old new (Ok x) Says → IsProbed w is_live old new true
  ok_probed x asked = record {
    clean = asked.calls.clean;
    shown = λ clean h shows. (refl, (asked.told clean h shows).1);
    fallen = λ h next fails. absurd (let is = (asked.failed (lives.fallen old h next fails)).0 in let no : ⊥ = cc in no);
    off = λ down. absurd (let is = (asked.failed down).0 in let no : ⊥ = cc in no);
  }

  pub err_probed : (e : Refusal) (b : Bool) → (b ≡ true → e ≡ Failed) → (b ≡ false → e ≡ Failed → ⊥) → IsAnswered w is_live old new (Err e) Says → IsProbed w is_live old new (not b)
  err_probed e b on off asked = record {
    clean = asked.calls.clean;
    shown = λ clean h shows. let told = asked.told clean h shows in (must_live b e on told.0, told.1);
    fallen = λ h next fails. let is = (asked.failed (lives.fallen old h next fails)).0 in (must_fall b e off (ap (λ (r : Result X Refusal). refusal_or r Failed) is), (asked.calls.failed h next fails).1);
    off = λ down. let f = asked.failed down in (must_fall b e off (ap (λ (r : Result X Refusal). refusal_or r Failed) f.0), f.1);
  }
