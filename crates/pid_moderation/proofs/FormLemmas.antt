-- The first of joined checks.
use Rattle.std.proofs.Common.{◌≡◌, ℕ, Bool, true, false, cond, List, [], ◌∷◌, ◌++◌, Option, Some, None, refl, ◌∙◌, sym, ap, subst, ◌≢◌}
use Rattle.std.specs.Prelude.{find, not, Result, Ok, Err}
use Rattle.std.specs.Option.{option_map}
use Rattle.pid_moderation.specs.declared.command.Act.{Act}
use Rattle.pid_moderation.specs.declared.command.Command.{Command}
use Rattle.pid_moderation.specs.declared.refusal.Refusal.{Refusal}
use Rattle.pid_moderation.specs.declared.refusal.Refusal.TheVariants.{BadText, Memory}
use Rattle.pid_moderation.specs.declared.verb.Verb.{Verb}
use Rattle.pid_moderation.specs.Fields.{Fields}
use Rattle.pid_moderation.specs.CheckTables.{Checks, first_failing}
use Rattle.pid_moderation.specs.Steps.Following.{FollowsChecks}
use Rattle.pid_moderation.specs.Forms.{has_fields, value_checks, act_said, sender_checks, form_checks, command_said, SaysByChecks}

abbrev refusal_in : Option (Bool × Refusal) → Option Refusal
refusal_in o = option_map (λ c. c.1) o

one_more : (b : Bool) (c : Bool × Refusal) (xs ys : Option (Bool × Refusal)) (e : Refusal) → (refusal_in xs ≡ Some e → refusal_in ys ≡ Some e) → refusal_in (cond b (Some c) xs) ≡ Some e → refusal_in (cond b (Some c) ys) ≡ Some e
one_more true c xs ys e rest h = h
one_more false c xs ys e rest h = rest h

pub fails_first : (xs ys : Checks) (e : Refusal) → first_failing xs ≡ Some e → first_failing (xs ++ ys) ≡ Some e
fails_first [] ys e h = absurd cc
fails_first (c ∷ xs) ys e h = one_more c.0 c _ _ e (fails_first xs ys e) h

one_less : (b : Bool) (c : Bool × Refusal) (xs : Option (Bool × Refusal)) (ys zs : Option (Bool × Refusal)) → (refusal_in xs ≡ None → refusal_in ys ≡ refusal_in zs) → refusal_in (cond b (Some c) xs) ≡ None → refusal_in (cond b (Some c) ys) ≡ refusal_in zs
one_less true c xs ys zs rest h = absurd cc
one_less false c xs ys zs rest h = rest h

pub fails_later : (xs ys : Checks) → first_failing xs ≡ None → first_failing (xs ++ ys) ≡ first_failing ys
fails_later [] ys h = refl
fails_later (c ∷ xs) ys h = one_less c.0 c _ _ (find (λ c. c.0) ys) (fails_later xs ys) h

abbrev later : Verb → List ℕ → Option (List ℕ) → Fields → Checks
later verb account key fields = value_checks verb fields ++ sender_checks account key

with_fields : (verb : Verb) (account : List ℕ) (key : Option (List ℕ)) (fields : Fields) → has_fields verb fields ≡ true → first_failing (form_checks verb account key fields) ≡ first_failing (later verb account key fields)
with_fields verb account key fields h = ap (λ b. refusal_in (cond (not b) (Some (not b, BadText)) (find (λ c. c.0) (later verb account key fields)))) h

pub act_fails : (verb : Verb) (account : List ℕ) (key : Option (List ℕ)) (fields : Fields) (e : Refusal) → has_fields verb fields ≡ true → first_failing (value_checks verb fields) ≡ Some e → first_failing (form_checks verb account key fields) ≡ Some e
act_fails verb account key fields e h f = with_fields verb account key fields h ∙ fails_first (value_checks verb fields) _ e f

-- once the fields and their values pass, the sender is what is left
pub sender_left : (verb : Verb) (account : List ℕ) (key : Option (List ℕ)) (fields : Fields) → has_fields verb fields ≡ true → first_failing (value_checks verb fields) ≡ None → first_failing (form_checks verb account key fields) ≡ first_failing (sender_checks account key)
sender_left verb account key fields h f = with_fields verb account key fields h ∙ fails_later (value_checks verb fields) (sender_checks account key) f

abbrev signed : Act → List ℕ × Option (List ℕ) → Command
signed act sender = record { account = sender.0; key = sender.1; act = act }

-- where all checks pass, that command is said
pub says_command : (verb : Verb) (account : List ℕ) (key : Option (List ℕ)) (fields : Fields) (act : Act) (sender : List ℕ × Option (List ℕ))
    → has_fields verb fields ≡ true → first_failing (value_checks verb fields) ≡ None → act_said verb fields ≡ Some act → first_failing (sender_checks account key) ≡ None → sender ≡ (account, key)
    → (first_failing (form_checks verb account key fields) ≡ None) × (command_said verb account key fields ≡ Some (signed act sender))
says_command verb account key fields act sender there pass said known is =
    (sender_left verb account key fields there pass ∙ known, ap (option_map (λ (a : Act). signed a (account, key))) said ∙ ap (λ (s : List ℕ × Option (List ℕ)). Some (signed act s)) (sym is))

-- the answer of a call that refused, where what it refused by is told
pub said_so : {X : Type 0} (cs : Checks) (said : Option X) (result : Result X Refusal) (e : Refusal) → result ≡ Err e → (e ≢ Memory → first_failing cs ≡ Some e) → SaysByChecks cs said result
said_so {X = X} cs said result e is h = subst (λ (r : Result X Refusal). SaysByChecks cs said r) (sym is) h

pub follows_so : {X : Type 0} (cs : Checks) (x : X) (result : Result X Refusal) (e : Refusal) → result ≡ Err e → (e ≢ Memory → first_failing cs ≡ Some e) → FollowsChecks cs x result
follows_so {X = X} cs x result e is h = subst (λ (r : Result X Refusal). FollowsChecks cs x r) (sym is) h
