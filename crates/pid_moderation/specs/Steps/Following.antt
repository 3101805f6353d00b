-- What a table of checks leaves. Serves private functions alone; no promise rests on it.
use Rattle.std.specs.Prelude.{◌≡◌, ◌≢◌, List, ℕ, ◌∷◌, is_none, Some, None, Result, MatchResult}
use Rattle.pid_moderation.specs.declared.change.Effect.{Effect}
use Rattle.pid_moderation.specs.declared.command.Reply.{Reply}
use Rattle.pid_moderation.specs.declared.facts.Facts.{Facts}
use Rattle.pid_moderation.specs.declared.refusal.Refusal.{Refusal}
use Rattle.pid_moderation.specs.declared.refusal.Refusal.TheVariants.{Memory, NoAccount}
use Rattle.pid_moderation.specs.CheckTables.{Checks, first_failing, later_checks, reply_by_facts}
use Rattle.pid_moderation.specs.Effects.{effect_of}
use Rattle.pid_moderation.specs.History.{Deed}

-- the first check that fails, else what follows; or out of memory
abbrev pub FollowsChecks : {X : Type 0} → Checks → X → Result X Refusal → Type 0
FollowsChecks cs x result = MatchResult result (λ y. (first_failing cs ≡ None) × (y ≡ x))
    (λ e. e ≢ Memory → first_failing cs ≡ Some e)

-- a deed of an account is refused by its checks, or has its effect and its reply
abbrev pub Settles : Facts → List ℕ → Deed → Result (Effect × Reply) Refusal → Type 0
Settles f account deed result =
    FollowsChecks ((is_none f.rank, NoAccount) ∷ later_checks account f deed)
    (effect_of account f deed, reply_by_facts f deed) result
