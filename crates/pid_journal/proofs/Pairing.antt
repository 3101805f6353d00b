-- A registry with a journal in front of it is a registry under moderation.
use Rattle.std.proofs.Common.{◌≡◌, inl, inr, Bool, true, false, ◌++◌, Some, Result, Err, refl, sym, ap, subst}
use Rattle.pid_moderation.specs.declared.command.Reply.{Reply}
use Rattle.pid_moderation.specs.declared.refusal.Refusal.{Refusal}
use Rattle.pid_moderation.specs.declared.refusal.Refusal.TheVariants.{Failed}
use Rattle.pid_moderation.specs.History.{Asked, History}
use Rattle.pid_service_laws.specs.Calls.{nothing_sent, obeyed}
use Rattle.pid_service_laws.specs.Questions.{IsAsked, ShowsWhileLive}
use Rattle.pid_service_laws.specs.Registries.{CommandLeaves, Does}
use Rattle.pid_service_laws.specs.declared.registry_calls.RegistryCalls.{Ghosts}
use Rattle.pid_service_laws.proofs.Calling.{looked_does, obeyed_does}
use Rattle.pid_journal.specs.declared.file.JournalFile as files
use Rattle.pid_journal.specs.declared.journaled.Journaled.{Journaled}
use Rattle.pid_journal.specs.Pairs.{PairFailsBetween, PairShows, pair_is_live, pair_showing}
use Rattle.pid_journal.specs.Steps.Living.{pair_lives, registry_off}
use Rattle.pid_journal.specs.Steps.Parts.{pair_showing_from}
use Rattle.pid_journal.proofs.Noted.{anywhere}

pub not_both : (b : Bool) → b ≡ true → b ≡ false → ⊥
not_both b on off = cc

module _ {R J : Type 0} (registry : Ghosts R) (file : files.Ghosts J) where
  -- A COMMAND

  pub pair_obeys : ShowsWhileLive registry.showing registry.is_live → (old new : Journaled R J) (c : Asked) (result : Result Reply Refusal)
      → (registry.showing.is_clean new.registry → registry.showing.is_clean old.registry)
      → (registry.showing.is_clean new.registry → (start h : History) → PairShows registry file start old h → CommandLeaves (pair_showing_from registry file start) result new h c)
      → (pair_is_live registry file old ≡ false → (result ≡ Err Failed) × (new ≡ old))
      → Does (pair_showing registry file) old (obeyed c result (pair_is_live registry file new)) new
  pair_obeys lives old new c result honest obeys failed =
      obeyed_does (pair_showing registry file) old new c result (pair_is_live registry file new) honest
      (λ clean h shows. anywhere registry file shows.0 h new result c (obeys clean shows.0 h shows.1))
      (λ h next fails. let f = failed ((pair_lives registry file lives).fallen old h next fails) in (f.0, subst (λ (p : Journaled R J). (pair_showing registry file).fails_between p h next) (sym f.1) fails))
      (λ h next fails. (pair_lives registry file lives).fallen new h next fails)

  -- A QUESTION

  -- the registry alone has changed
  abbrev pub with_registry : Journaled R J → R → Journaled R J
  with_registry p r = record p { registry = r }

  pub still_shows : (start h : History) (p : Journaled R J) (r : R) → PairShows registry file start p h → registry.showing.shows r h → PairShows registry file start (with_registry p r) h
  still_shows start h p r shows shown = record { shown = shown; settled = shows.settled; leads = shows.leads }

  still_fails : (start h next : History) (p : Journaled R J) (r : R) (fails : PairFailsBetween registry file start p h next) → file.safe p.journal ≡ Some (fails.doubt.text ++ fails.doubt.more) → registry.showing.fails_between r h next → PairFailsBetween registry file start (with_registry p r) h next
  still_fails start h next p r fails none down = record { doubt = fails.doubt; fails = inr (none, down) }

  -- what failed between two and has no entry left
  registry_fails : (start h next : History) (p : Journaled R J) (fails : PairFailsBetween registry file start p h next) → p.failed ≡ false → (file.safe p.journal ≡ Some (fails.doubt.text ++ fails.doubt.more)) × registry.showing.fails_between p.registry h next
  registry_fails start h next p fails settled = elim fails.fails [ inl left ↦ absurd (not_both p.failed left.0 settled) | inr down ↦ down ]

  -- the registry was asked
  pub looks_on : (p : Journaled R J) (r : R) → Does registry.showing p.registry nothing_sent r → (registry.showing.is_clean r → (h : History) → registry.showing.shows p.registry h → registry.showing.shows r h) → p.failed ≡ false
      → Does (pair_showing registry file) p nothing_sent (with_registry p r)
  looks_on p r calls kept settled =
      looked_does (pair_showing registry file) p (with_registry p r) calls.clean
      (λ clean h shows. (shows.0, still_shows shows.0 h p r shows.1 (kept clean h shows.1.shown)))
      (λ h next fails. let d = registry_fails fails.0 h next p fails.1 settled in (fails.0, still_fails fails.0 h next p r fails.1 d.0 (calls.failed h next d.1).1))

  -- nothing was asked of it
  pub looks_nowhere : (p : Journaled R J) → Does (pair_showing registry file) p nothing_sent p
  looks_nowhere p = looked_does (pair_showing registry file) p p (λ clean. clean) (λ clean h shows. shows) (λ h next fails. fails)

  pub asked_on : {X : Type 0} (p : Journaled R J) (r : R) (result : Result X Refusal) (Says : History → X → Type 0) (Denies : History → Refusal → Type 0)
      → IsAsked registry.showing registry.is_live p.registry r result Says Denies → p.failed ≡ false
      → IsAsked (pair_showing registry file) (pair_is_live registry file) p (with_registry p r) result Says Denies
  asked_on p r result Says Denies asked settled = record {
    calls = looks_on p r asked.calls (λ clean h shown. (asked.told clean h shown).1) settled;
    failed = λ off. let f = asked.failed (registry_off p.failed (registry.is_live p.registry) settled off) in (f.0, ap (with_registry p) f.1);
    beside = refl;
    told = λ clean h shows. let t = asked.told clean h shows.1.shown in (t.0, (shows.0, still_shows shows.0 h p r shows.1 t.1));
  }

  pub asked_off : {X : Type 0} (p : Journaled R J) (Says : History → X → Type 0) (Denies : History → Refusal → Type 0) → p.failed ≡ true
      → IsAsked (pair_showing registry file) (pair_is_live registry file) p p (Err Failed) Says Denies
  asked_off p Says Denies down = record {
    calls = looks_nowhere p;
    failed = λ off. (refl, refl);
    beside = refl;
    told = λ clean h shows. absurd (not_both p.failed down shows.1.settled);
  }
