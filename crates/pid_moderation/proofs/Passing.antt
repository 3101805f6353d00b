-- What holds where every check passes.
use Rattle.std.proofs.Common.{◌≡◌, Bool, true, false, cond, [], ◌∷◌, ◌++◌, Option, Some, None, refl}
use Rattle.std.specs.Prelude.{find, nat_le}
use Rattle.std.specs.Option.{option_map}
use Rattle.pid_moderation.specs.declared.command.Reply.{Reply}
use Rattle.pid_moderation.specs.declared.refusal.Refusal.{Refusal}
use Rattle.pid_moderation.specs.declared.refusal.Refusal.TheVariants.{BadText}
use Rattle.pid_moderation.specs.declared.facts.Facts.{Facts}
use Rattle.pid_moderation.specs.History.{Asked}
use Rattle.pid_moderation.specs.CheckTables.{Checks, command_checks, revision_checks, checks, most_revision, first_failing, is_ill_formed, reply_by_facts}
use Rattle.pid_moderation.specs.Judgement.{judged, unless, unless_kept, Refused, Accepts}

-- no check fails
abbrev pub AllPass : Checks → Type 0
AllPass [] = Unit {0}
AllPass (c ∷ cs) = (c.0 ≡ false) × AllPass cs

one_passes : (b : Bool) (c : Bool × Refusal) (cs : Checks) → option_map (λ (x : Bool × Refusal). x.1) (cond b (Some c) (find (λ x. x.0) cs)) ≡ None → (b ≡ false) × (first_failing cs ≡ None)
one_passes true c cs h = absurd cc
one_passes false c cs h = (refl, h)

pub all_pass : (cs : Checks) → first_failing cs ≡ None → AllPass cs
all_pass [] h = tt
all_pass (c ∷ cs) h = let p = one_passes c.0 c cs h in (p.0, all_pass cs p.1)

joined : (cs ds : Checks) → AllPass (cs ++ ds) → AllPass cs × AllPass ds
joined [] ds h = (tt, h)
joined (c ∷ cs) ds h = let rest = joined cs ds h.1 in ((h.0, rest.0), rest.1)

pub record Passes (f : Facts) (c : Asked) (reply : Reply) : Type 0 where
  pub well_formed : is_ill_formed f c.deed ≡ false
  pub not_kept : f.kept ≡ None
  pub all : AllPass (command_checks f c)
  pub counted : nat_le most_revision f.revision ≡ false
  pub reply_is : reply ≡ reply_by_facts f c.deed

not_refused : (o : Option Refusal) (reply given : Reply) → unless o reply ≡ Accepts given → o ≡ None
not_refused None reply given h = refl
not_refused (Some e) reply given h = absurd cc

same_reply : (o : Option Refusal) (reply given : Reply) → unless o reply ≡ Accepts given → given ≡ reply
same_reply None reply given h = cc
same_reply (Some e) reply given h = absurd cc

-- what was accepted passed every check
pub accepted_passes : (f : Facts) (c : Asked) (reply : Reply) → judged f c ≡ Accepts reply → Passes f c reply
accepted_passes f c reply h = formed (is_ill_formed f c.deed) refl h
  where
    after : (o : Option Reply) → f.kept ≡ o → is_ill_formed f c.deed ≡ false → unless_kept o (unless (first_failing (checks f c)) (reply_by_facts f c.deed)) ≡ Accepts reply → Passes f c reply
    after (Some r) k w h = absurd cc
    after None k w h =
        let both = joined (command_checks f c) (revision_checks f) (all_pass (checks f c) (not_refused _ _ _ h)) in
        record { well_formed = w; not_kept = k; all = both.0; counted = both.1.0; reply_is = same_reply _ _ _ h }

    formed : (b : Bool) → is_ill_formed f c.deed ≡ b → cond b (Refused BadText) (unless_kept f.kept (unless (first_failing (checks f c)) (reply_by_facts f c.deed))) ≡ Accepts reply → Passes f c reply
    formed true w h = absurd cc
    formed false w h = after f.kept refl w h
