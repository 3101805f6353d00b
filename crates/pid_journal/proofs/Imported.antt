-- An import whose file comes as an input, with a journal in front of the registry.
use Rattle.std.proofs.Common.{◌≡◌, inl, inr, ℕ, ◌+◌, true, false, List, ◌++◌, length, Option, Some, None, Result, Ok, Err, refl, sym, ap, subst, ◌∙◌, arith}
use Rattle.std.specs.Prelude.{nat_lt, IfSome, IsSomeAnd}
use Rattle.std.proofs.lemmas.Bool.Decides.{nat_tests}
use Rattle.pid_file.specs.declared.whole_input.SkipEnd.{SkipEnd}
use Rattle.pid_file.specs.declared.whole_input.SkipEnd.TheVariants as skips
use Rattle.pid_file.specs.WholeInputs.{SkipsInput}
use Rattle.pid_moderation.proofs.BrokenForms.{broken_refused}
use Rattle.pid_moderation.specs.declared.command.Act.TheVariants.{Import}
use Rattle.pid_moderation.specs.declared.command.Reply.{Reply}
use Rattle.pid_moderation.specs.declared.refusal.Refusal.{Refusal}
use Rattle.pid_moderation.specs.declared.refusal.Refusal.TheVariants.{BadText, Failed, Memory}
use Rattle.pid_moderation.specs.BeforeFile.{import_of}
use Rattle.pid_moderation.specs.CheckTables.{most_file_bytes}
use Rattle.pid_moderation.specs.Files.{file_reading}
use Rattle.pid_moderation.specs.History.{Asked, History}
use Rattle.pid_moderation.specs.Judgement.{Refused, judge}
use Rattle.pid_moderation.specs.Views.{views_of}
use Rattle.pid_service_laws.specs.declared.faults.ImportEnd.TheVariants as ends
use Rattle.pid_service_laws.specs.Imports.{ObeysFile}
use Rattle.pid_service_laws.specs.Questions.{ShowsWhileLive}
use Rattle.pid_service_laws.specs.Registries.{CommandLeaves}
use Rattle.pid_service_laws.specs.declared.registry_calls.RegistryCalls.{Ghosts}
use Rattle.pid_journal.specs.declared.file.JournalFile as files
use Rattle.pid_journal.specs.declared.journaled.Journaled.{Journaled}
use Rattle.pid_journal.specs.Pairs.{PairShows, pair_is_live, pair_showing}
use Rattle.pid_journal.specs.Steps.Parts.{RefusesNothing, pair_showing_from}
use Rattle.pid_journal.proofs.Forms.{broken_stays, tells_any}
use Rattle.pid_journal.proofs.Noted.{anywhere}
use Rattle.pid_journal.proofs.Pairing.{looks_nowhere, pair_obeys}

err_alike : (e : Refusal) → e ≡ Failed → ◌≡◌ {A = Result Reply Refusal} (Err e) (Err Failed)
err_alike e is = let make : Refusal → Result Reply Refusal = λ d. Err d in ap make is

module _ {R J : Type 0} (registry : Ghosts R) (file : files.Ghosts J) where
  -- the input failed, and nothing was asked
  pub body_failed : (p : Journaled R J) (c : Asked) → ObeysFile (pair_showing registry file) (pair_is_live registry file) p p (Err ends.Body) c
  body_failed p c = record { calls = looks_nowhere registry file p; leaves = λ clean h shows. shows }

  -- the command was obeyed
  pub ok_obeyed : ShowsWhileLive registry.showing registry.is_live → (old new : Journaled R J) (c : Asked) (reply : Reply)
      → (registry.showing.is_clean new.registry → registry.showing.is_clean old.registry)
      → (registry.showing.is_clean new.registry → (start h : History) → PairShows registry file start old h → CommandLeaves (pair_showing_from registry file start) (Ok reply) new h c)
      → (pair_is_live registry file old ≡ false → (◌≡◌ {A = Result Reply Refusal} (Ok reply) (Err Failed)) × (new ≡ old))
      → ObeysFile (pair_showing registry file) (pair_is_live registry file) old new (Ok reply) c
  ok_obeyed lives old new c reply honest obeys failed = record {
    calls = pair_obeys registry file lives old new c (Ok reply) honest obeys failed;
    leaves = λ clean h shows. anywhere registry file shows.0 h new (Ok reply) c (obeys clean shows.0 h shows.1);
  }

  pub err_obeyed : ShowsWhileLive registry.showing registry.is_live → (old new : Journaled R J) (c : Asked) (e : Refusal)
      → (registry.showing.is_clean new.registry → registry.showing.is_clean old.registry)
      → (registry.showing.is_clean new.registry → (start h : History) → PairShows registry file start old h → CommandLeaves (pair_showing_from registry file start) (Err e) new h c)
      → (pair_is_live registry file old ≡ false → (◌≡◌ {A = Result Reply Refusal} (Err e) (Err Failed)) × (new ≡ old))
      → ObeysFile (pair_showing registry file) (pair_is_live registry file) old new (Err (ends.Refused e)) c
  err_obeyed lives old new c e honest obeys failed = record {
    calls = pair_obeys registry file lives old new c (Err e) honest obeys failed;
    leaves = λ clean h shows. anywhere registry file shows.0 h new (Err e) c (obeys clean shows.0 h shows.1);
  }

  -- an import of these bytes, which are the text
  pub ok_imported : ShowsWhileLive registry.showing registry.is_live → (old new : Journaled R J) (account : List ℕ) (key : Option (List ℕ)) (reply : Reply) (bytes text : List ℕ) → bytes ≡ text
      → (registry.showing.is_clean new.registry → registry.showing.is_clean old.registry)
      → (registry.showing.is_clean new.registry → (start h : History) → PairShows registry file start old h → CommandLeaves (pair_showing_from registry file start) (Ok reply) new h (import_of account key (file_reading bytes)))
      → (pair_is_live registry file old ≡ false → (◌≡◌ {A = Result Reply Refusal} (Ok reply) (Err Failed)) × (new ≡ old))
      → ObeysFile (pair_showing registry file) (pair_is_live registry file) old new (Ok reply) (import_of account key (file_reading text))
  ok_imported lives old new account key reply bytes text same honest obeys failed =
      subst (λ (t : List ℕ). ObeysFile (pair_showing registry file) (pair_is_live registry file) old new (Ok reply) (import_of account key (file_reading t))) same (ok_obeyed lives old new (import_of account key (file_reading bytes)) reply honest obeys failed)

  pub err_imported : ShowsWhileLive registry.showing registry.is_live → (old new : Journaled R J) (account : List ℕ) (key : Option (List ℕ)) (e : Refusal) (bytes text : List ℕ) → bytes ≡ text
      → (registry.showing.is_clean new.registry → registry.showing.is_clean old.registry)
      → (registry.showing.is_clean new.registry → (start h : History) → PairShows registry file start old h → CommandLeaves (pair_showing_from registry file start) (Err e) new h (import_of account key (file_reading bytes)))
      → (pair_is_live registry file old ≡ false → (◌≡◌ {A = Result Reply Refusal} (Err e) (Err Failed)) × (new ≡ old))
      → ObeysFile (pair_showing registry file) (pair_is_live registry file) old new (Err (ends.Refused e)) (import_of account key (file_reading text))
  err_imported lives old new account key e bytes text same honest obeys failed =
      subst (λ (t : List ℕ). ObeysFile (pair_showing registry file) (pair_is_live registry file) old new (Err (ends.Refused e)) (import_of account key (file_reading t))) same (err_obeyed lives old new (import_of account key (file_reading bytes)) e honest obeys failed)

  refused_alike : (start h : History) (new : Journaled R J) (c : Asked) (refusal e : Refusal) → e ≡ refusal → CommandLeaves (pair_showing_from registry file start) (Err refusal) new h c → CommandLeaves (pair_showing_from registry file start) (Err e) new h c
  refused_alike start h new c refusal e is leaves = subst (λ (d : Refusal). CommandLeaves (pair_showing_from registry file start) (Err d) new h c) (sym is) leaves

  -- nothing was done, and what is answered says so
  pub nothing_done : ShowsWhileLive registry.showing registry.is_live → (old new : Journaled R J) (c : Asked) (refusal e : Refusal)
      → (registry.showing.is_clean new.registry → registry.showing.is_clean old.registry)
      → RefusesNothing registry file old new refusal e
      → ((start h : History) → PairShows registry file start new h → CommandLeaves (pair_showing_from registry file start) (Err refusal) new h c)
      → (pair_is_live registry file old ≡ false → (e ≡ Failed) × (new ≡ old))
      → ObeysFile (pair_showing registry file) (pair_is_live registry file) old new (Err (ends.Refused e)) c
  nothing_done lives old new c refusal e honest told leaves failed =
      err_obeyed lives old new c e honest
      (λ clean start h shows. let t = told.shown clean start h shows in refused_alike start h new c refusal e t.0 (leaves start h t.1))
      (λ off. let f = failed off in (err_alike e f.0, f.1))

  pub memory_leaves : (start h : History) (new : Journaled R J) (c : Asked) → PairShows registry file start new h → CommandLeaves (pair_showing_from registry file start) (Err Memory) new h c
  memory_leaves start h new c shows = inr (inl refl, inl shows)

  pub broken_leaves : (start h : History) (new : Journaled R J) (c : Asked) → judge (views_of h) c ≡ Refused BadText → PairShows registry file start new h → CommandLeaves (pair_showing_from registry file start) (Err BadText) new h c
  broken_leaves start h new c is shows =
      let stays = broken_stays h c is in
      inl (stays.0, subst (λ (g : History). PairShows registry file start new g) stays.1 shows)

is_long : (text : List ℕ) → length text ≡ most_file_bytes + 1 → nat_lt most_file_bytes (length text) ≡ true
is_long text long = grind (arith, nat_tests)

-- a file that is too long is refused as such
pub long_refused : (h : History) (account : List ℕ) (key : Option (List ℕ)) (text : List ℕ) → length text ≡ most_file_bytes + 1 → judge (views_of h) (import_of account key (file_reading text)) ≡ Refused BadText
long_refused h account key text long = broken_refused (record { account = account; key = key; act = Import text }) (views_of h) (file_reading text) (tells_any (Import text)) (is_long text long)

-- what was skipped is too long
pub too_long : {X : Type 0} (limit : ℕ) (result : Result X SkipEnd) (e : SkipEnd) (rest : Option (List ℕ)) (text : List ℕ) → result ≡ Err e → e ≡ skips.TooLong → SkipsInput limit result rest text → length text ≡ limit + 1
too_long {X} limit result e rest text failed is read =
    let this : SkipsInput {X = X} limit (Err e) rest text = subst (λ (r : Result X SkipEnd). SkipsInput limit r rest text) failed read in
    subst (λ (d : SkipEnd). SkipsInput {X = X} limit (Err d) rest text) is this

-- what is kept of a file, with a piece more
pub kept_on : {V : Type 0} (old new : Option V) (front piece : List ℕ) (items : V → List ℕ) → IfSome old (λ b. items b ≡ front) → IfSome new (λ n. IsSomeAnd old (λ b. items n ≡ items b ++ piece)) → IfSome new (λ n. items n ≡ front ++ piece)
kept_on old None front piece items kept more = tt
kept_on None (Some n) front piece items kept more = absurd more
kept_on (Some b) (Some n) front piece items kept more = more ∙ ap (λ (l : List ℕ). l ++ piece) kept
