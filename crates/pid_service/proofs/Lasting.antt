-- Whether a registry is live behind a call, on any disk.
use Rattle.std.proofs.Common.{◌≡◌, ◌≢◌, inl, inr, Bool, true, false, Option, Some, None, Result, Ok, Err, IsErrAnd, is_some, refl, sym, subst, ◌∙◌}
use Rattle.std.specs.Prelude.{IfErr, IfSome, IsSomeAnd, MatchResult}
use Rattle.pid_moderation.specs.declared.refusal.Refusal.TheVariants.{Memory, Store}
use Rattle.pid_service_laws.specs.declared.faults.ImportEnd.TheVariants.{Refused}
use Rattle.pid_service.specs.Histories.{IsMemoryOrStore}
use Rattle.pid_service.proofs.Words.{Asked, BadText, Body, EndIsNotFailed, EndLasts, EndStaysLive, Failed, fault_in, Ghosts, ImportEnd, ImportFaults, is_live, is_outcome, IsEndFault, KeepsLimit, Lasts, leaves_live, MayGive, OfRefusal, OverHistory, Reading, Refusal, Registry, Reply, StaysLive}
use Rattle.pid_service.proofs.Runs.{no_fault}

pub no_outcome : (e : Refusal) → IsMemoryOrStore e → is_outcome (Err e) ≡ true → ⊥
no_outcome e (inl is) told = let no : is_outcome (Err Memory) ≡ true = subst (λ (x : Refusal). is_outcome (Err x) ≡ true) is told in let bad : ⊥ = cc in bad
no_outcome e (inr is) told = let no : is_outcome (Err Store) ≡ true = subst (λ (x : Refusal). is_outcome (Err x) ≡ true) is told in let bad : ⊥ = cc in bad

both : {X : Type 0} (before after : Bool) → after ≡ before → before ≡ true → after ≡ false → X
both before after same on off = absurd (let no : true ≡ false = sym on ∙ sym same ∙ off in let bad : ⊥ = cc in bad)

stays_live : (r : Result Reply Refusal) (before after : Bool) → StaysLive r before after → before ≡ true → is_outcome r ≡ true → after ≡ true
stays_live (Ok reply) before after same on told = same ∙ on
stays_live (Err e) before after (alive, inl fault) on told = absurd (no_outcome e fault told)
stays_live (Err e) before after (alive, inr same) on told = same ∙ on

fails_so : (r : Result Reply Refusal) (before after : Bool) → StaysLive r before after → before ≡ true → after ≡ false → IsErrAnd r IsMemoryOrStore
fails_so (Ok reply) before after same on off = both before after same on off
fails_so (Err e) before after (alive, inl fault) on off = fault
fails_so (Err e) before after (alive, inr same) on off = both before after same on off

alive_so : (r : Result Reply Refusal) (before after : Bool) → StaysLive r before after → IfErr r (λ e. e ≢ Failed)
alive_so (Ok reply) before after same = tt
alive_so (Err e) before after held = held.0

end_stays : (r : Result Reply ImportEnd) (before after : Bool) → EndStaysLive r before after → before ≡ true → leaves_live r ≡ true → after ≡ true
end_stays (Ok reply) before after same on told = same ∙ on
end_stays (Err (Refused e)) before after (alive, inl fault) on told = absurd (no_outcome e fault told)
end_stays (Err (Refused e)) before after (alive, inr same) on told = same ∙ on
end_stays (Err Body) before after same on told = same ∙ on

end_fails : (r : Result Reply ImportEnd) (before after : Bool) → EndStaysLive r before after → before ≡ true → after ≡ false → IsErrAnd r IsEndFault
end_fails (Ok reply) before after same on off = both before after same on off
end_fails (Err (Refused e)) before after (alive, inl fault) on off = fault
end_fails (Err (Refused e)) before after (alive, inr same) on off = both before after same on off
end_fails (Err Body) before after same on off = both before after same on off

end_alive : (r : Result Reply ImportEnd) (before after : Bool) → EndStaysLive r before after → IfErr r EndIsNotFailed
end_alive (Ok reply) before after same = tt
end_alive (Err (Refused e)) before after held = held.0
end_alive (Err Body) before after same = tt

-- what is not written stays as live
pub still_live : (r : Result Reply ImportEnd) → IfErr r EndIsNotFailed → (live : Bool) → EndStaysLive r live live
still_live (Ok reply) alive live = refl
still_live (Err (Refused e)) alive live = (alive, inr refl)
still_live (Err Body) alive live = refl

-- a fault is not that a registry had failed
pub fault_alive : (e : Refusal) → IsMemoryOrStore e → e ≢ Failed
fault_alive e (inl is) = λ failed. let no : Memory ≡ Failed = sym is ∙ failed in let bad : ⊥ = cc in bad
fault_alive e (inr is) = λ failed. let no : Store ≡ Failed = sym is ∙ failed in let bad : ⊥ = cc in bad

pub not_failed : BadText ≢ Failed
not_failed is = let bad : ⊥ = cc in bad

-- a change was carried out, or could not be
pub carried : (r : Result Reply Refusal) (before after : Bool) → MatchResult r (λ x. after ≡ before) (λ e. IsMemoryOrStore e × (after ≡ false)) → StaysLive r before after
carried (Ok reply) before after same = same
carried (Err e) before after (fault, off) = (fault_alive e fault, inl fault)

module _ {S : Type 0} (database : Ghosts S) (old new : Registry S database) where
  pub lasting : (r : Result Reply Refusal) → StaysLive r (is_live old) (is_live new) → KeepsLimit database old new → Lasts database old new r
  lasting r held limit = record {
    alive = λ on. alive_so r (is_live old) (is_live new) held;
    stays = stays_live r (is_live old) (is_live new) held;
    fails = fails_so r (is_live old) (is_live new) held;
    limit = limit;
  }

  pub end_lasting : (asks : Reading → Asked) (r : Result Reply ImportEnd) → EndStaysLive r (is_live old) (is_live new) → KeepsLimit database old new
      → OverHistory database old new (λ h. (reading : Reading) → IfErr r (OfRefusal (ImportFaults database old new h (asks reading)))) → EndLasts database old new asks r
  end_lasting asks r held limit caused = record {
    alive = λ on. end_alive r (is_live old) (is_live new) held;
    stays = end_stays r (is_live old) (is_live new) held;
    fails = end_fails r (is_live old) (is_live new) held;
    limit = limit;
    caused = caused;
  }

-- ---- a list

-- behind an answer that is no fault
pub on_after : (r : Result Reply Refusal) (after : Bool) → fault_in r ≡ None → (after ≡ false → IsErrAnd r IsMemoryOrStore) → after ≡ true
on_after r true none fails = refl
on_after r false none fails = absurd (no_fault r none (fails refl))

pub some_fault : (fault : Option Refusal) → is_some fault ≡ true → IfSome fault IsMemoryOrStore → IsSomeAnd fault IsMemoryOrStore
some_fault None some is = let no : ⊥ = cc in absurd no
some_fault (Some e) some is = is

-- a live registry gives a fault as it may
pub given_live : (fault : Option Refusal) (live : Bool) → live ≡ true → IfSome fault IsMemoryOrStore → IfSome fault (MayGive live)
given_live None live on is = tt
given_live (Some e) live on is = record { alive = λ was. is; failed = λ off. absurd (let no : true ≡ false = sym on ∙ off in let bad : ⊥ = cc in bad) }
