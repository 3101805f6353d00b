-- Questions one after another.
use Rattle.std.proofs.Common.{◌≡◌, ℕ, List, Option, Result, Ok, Err, IfErr, IfOk, sym, subst}
use Rattle.pid_file.specs.declared.path.Path.{Path}
use Rattle.pid_lookup.specs.declared.args.Args.{Args}
use Rattle.pid_lookup.specs.declared.find.Found.{Found}
use Rattle.pid_lookup.specs.declared.find.Found.TheVariants as founds
use Rattle.pid_lookup.specs.declared.flags.Request.{Request}
use Rattle.pid_lookup.specs.declared.names.Names.{Ghosts}
use Rattle.pid_lookup.specs.Questions.{IsStill}
use Rattle.pid_lookup.specs.Steps.Asking.{AsksNames, AsksNamesFor}
use Rattle.pid_lookup.specs.Steps.FoundTexts.{IsFoundFor, found_one}

pub kept_through : {X F : Type 0} (names : Ghosts X F) {old mid new : X} → IsStill names old mid → IsStill names mid new → IsStill names old new
kept_through names first second = record {
  shown = λ s shown. second.shown s (first.shown s shown);
  was_honest = λ honest. first.was_honest (second.was_honest honest);
  faults = λ f. (λ may. (second.faults f).0 ((first.faults f).0 may), λ may. (first.faults f).1 ((second.faults f).1 may));
  told = (λ may. second.told.0 (first.told.0 may), λ may. first.told.1 (second.told.1 may));
  asked = λ start only. second.asked start (first.asked start only);
}

-- what is so of an answer, or of a fault

pub of_answer : {A F : Type 0} (r : Result A F) (P Q : A → Type 0) → ((x : A) → P x → Q x) → IfOk r P → IfOk r Q
of_answer (Ok x) P Q means so = means x so
of_answer (Err f) P Q means so = tt

pub of_fault : {A F : Type 0} (r : Result A F) (P Q : F → Type 0) → ((f : F) → P f → Q f) → IfErr r P → IfErr r Q
of_fault (Ok x) P Q means so = tt
of_fault (Err f) P Q means so = means f so

-- one name is what there is for a request

as_one : {X F : Type 0} (names : Ghosts X F) (old new : X) (name : Result (Option (List ℕ)) F) (request : Request) (a : Args) (wanted : (Path → Option (List ℕ)) → Option (List ℕ)) → AsksNamesFor names old new name wanted
    → ((named : Path → Option (List ℕ)) (n : Option (List ℕ)) → n ≡ wanted named → IsFoundFor (founds.One n) named request a) → AsksNames names old new (found_one name) (λ named found. IsFoundFor found named request a)
as_one names old new (Ok n) request a wanted asks means = record { found = λ honest s shown. means _ n (asks.found honest s shown); fault = tt; caused = λ honest s shown start only. tt; kept = asks.kept }
as_one names old new (Err f) request a wanted asks means = record { found = λ honest s shown. tt; fault = asks.fault; caused = asks.caused; kept = asks.kept }

pub one_asks : {X F : Type 0} (names : Ghosts X F) (old new : X) (name : Result (Option (List ℕ)) F) (result : Result Found F) (asked request : Request) (a : Args) (wanted : (Path → Option (List ℕ)) → Option (List ℕ)) → result ≡ found_one name → asked ≡ request
    → AsksNamesFor names old new name wanted → ((named : Path → Option (List ℕ)) (n : Option (List ℕ)) → n ≡ wanted named → IsFoundFor (founds.One n) named request a) → AsksNames names old new result (λ named found. IsFoundFor found named asked a)
one_asks names old new name result asked request a wanted is for asks means =
    subst (λ (r : Result Found _). AsksNames names old new r (λ named found. IsFoundFor found named asked a)) (sym is)
    (subst (λ (q : Request). AsksNames names old new (found_one name) (λ named found. IsFoundFor found named q a)) (sym for) (as_one names old new name request a wanted asks means))

told_one : {F : Type 0} (name : Result (Option (List ℕ)) F) (Told : Type 0) → IfOk name (λ _. Told) → IfOk (found_one name) (λ _. Told)
told_one (Ok n) Told told = told
told_one (Err f) Told told = tt

pub one_told : {F : Type 0} (name : Result (Option (List ℕ)) F) (result : Result Found F) (Told : Type 0) → result ≡ found_one name → IfOk name (λ _. Told) → IfOk result (λ _. Told)
one_told name result Told is told = subst (λ (r : Result Found _). IfOk r (λ _. Told)) (sym is) (told_one name Told told)
