-- At most one command of an account under a key is accepted.
use Rattle.std.proofs.Common.{◌≡◌, ℕ, ◌+◌, ◌≤◌, Bool, true, false, cond, List, [], ◌∷◌, Option, Some, None, refl, sym, ap, ◌∙◌, arith}
use Rattle.std.specs.Prelude.{◌&&◌, is_some}
use Rattle.std.specs.Str.{bytes_eq}
use Rattle.std.proofs.lemmas.List.Sums.{sum_by-cons}
use Rattle.std.proofs.lemmas.Slice.Eq.{bytes_eq-Decides}
use Rattle.pid_moderation.specs.declared.command.Reply.{Reply}
use Rattle.pid_moderation.specs.History.{Asked, Begins, History, accepted_in}
use Rattle.pid_moderation.specs.Views.{views_of, kept_of, receipted}
use Rattle.pid_moderation.specs.FactsOfViews.{facts_of, kept_in}
use Rattle.pid_moderation.specs.Judgement.{Outcome, Refused, Repeated, Accepts, judge, added, after, after_all}
use Rattle.pid_moderation.specs.Keys.{has_key, is_of_key, times_under}
use Rattle.pid_moderation.proofs.Changing.{entry}
use Rattle.pid_moderation.proofs.Passing.{accepted_passes}
use Rattle.pid_moderation.proofs.ReceiptsStay.{facts-kept}

-- what is accepted had no reply kept
new_key : (h : History) (c : Asked) (reply : Reply) → judge (views_of h) c ≡ Accepts reply → kept_in (views_of h) c.account c.key ≡ None
new_key h c reply is = sym (facts-kept (views_of h) c) ∙ (accepted_passes (facts_of (views_of h) c) c reply is).not_kept

-- as often as a reply is kept
abbrev AsKept : List ℕ → List ℕ → History → Type 0
AsKept a k h = times_under a k h ≡ cond (is_some (kept_of a k h)) 1 0

one_under : (b d : Bool) (reply : Reply) (kept : Option Reply) (n : ℕ) → (b ≡ true → d ≡ true → kept ≡ None) → n ≡ cond (is_some kept) 1 0 → cond (b && d) 1 0 + n ≡ cond (is_some (cond (b && d) (Some reply) kept)) 1 0
one_under true true reply kept n new is = let none : n ≡ 0 = is ∙ ap (λ o. cond (is_some o) 1 0) (new refl refl) in omega arith
one_under true false reply kept n new is = let same : 0 + n ≡ n = omega arith in same ∙ is
one_under false d reply kept n new is = let same : 0 + n ≡ n = omega arith in same ∙ is

none_under : (b : Bool) → (b && false) ≡ false
none_under true = refl
none_under false = refl

one_step : (h : History) (a k account : List ℕ) (key : Option (List ℕ)) (reply : Reply) (n : ℕ) → kept_in (views_of h) account key ≡ None → n ≡ cond (is_some (kept_of a k h)) 1 0
    → cond (bytes_eq a account && has_key k key) 1 0 + n ≡ cond (is_some (receipted a k account key reply (kept_of a k h))) 1 0
one_step h a k account None reply n new is =
    let none = none_under (bytes_eq a account) in
    let same : cond (bytes_eq a account && false) 1 0 + n ≡ n = ap (λ b. cond b 1 0 + n) none ∙ omega arith in
    same ∙ is
one_step h a k account (Some key) reply n new is =
    one_under (bytes_eq a account) (bytes_eq k key) reply (kept_of a k h) n
    (λ p q. let pa : a ≡ account = (bytes_eq-Decides a account).0 p in let pk : k ≡ key = (bytes_eq-Decides k key).0 q in (λ i. kept_of (pa i) (pk i) h) ∙ new) is

one_more : (a k : List ℕ) (h : History) (c : Asked) (o : Outcome) → judge (views_of h) c ≡ o → AsKept a k h → AsKept a k (added h c o)
one_more a k h c (Refused e) is old = old
one_more a k h c (Repeated reply) is old = old
one_more a k h c (Accepts reply) is old =
    sum_by-cons (λ e. cond (is_of_key a k e) 1 0) (entry c reply) (accepted_in h) ∙ one_step h a k c.account c.key reply (times_under a k h) (new_key h c reply is) old

all_kept : (a k : List ℕ) (cs : List Asked) (h : History) → AsKept a k h → AsKept a k (after_all h cs)
all_kept a k [] h old = old
all_kept a k (c ∷ cs) h old = all_kept a k cs (after h c) (one_more a k h c (judge (views_of h) c) refl old)

at_most : (b : Bool) (n : ℕ) → n ≡ cond b 1 0 → n ≤ 1
at_most true n h = omega arith
at_most false n h = omega arith

pub at_most_once : (mark : ℕ) (cs : List Asked) (account key : List ℕ) → times_under account key (after_all (Begins mark) cs) ≤ 1
at_most_once mark cs a k = at_most (is_some (kept_of a k (after_all (Begins mark) cs))) _ (all_kept a k cs (Begins mark) refl)
