-- What the judgement says of the history after a command.
use Rattle.std.proofs.Common.{◌≡◌, ◌≢◌, ◌⊎◌, inl, inr, Bool, true, false, [], Option, Some, None, Ok, Err, refl, subst, ap, ◌∙◌, ◌+◌, if◌then◌else◌, is_some}
use Rattle.std.proofs.lemmas.Bool.{false≢true}
use Rattle.pid_moderation.specs.declared.refusal.Refusal.TheVariants.{Memory, Store, Changed}
use Rattle.pid_moderation.specs.Judgement.{Refused}
use Rattle.pid_moderation.proofs.Changing.{not_anew}
use Rattle.pid_tables.proofs.Refused.{refused_stays}
use Rattle.pid_service.specs.Histories.{IsMemoryOrStore}
use Rattle.pid_service.proofs.Words.{Accepts, Account, Act, added, after, answer, Approve, Asked, asked, BadName, BadPath, BadText, Change, changed, checks, Command, Comment, deed_of, facts_of, Failed, FileFault, first_failing, FitsHistory, FitsViews, Full, HasChildren, History, Import, is_ill_formed, is_import, Items, judge, LeadsOn, name_at, new_pairs, NoAccount, NoSubmission, NotAuthor, NothingToDo, NotPending, Outcome, OwnDecision, ParentMissing, RankTooLow, Reading, Refusal, Reject, Repeated, Reply, reply_by_facts, Submit, unless, unless_kept, Views, views_of, with_pairs, Withdraw}

-- the outcome by its parts
abbrev outcome : Bool → Option Reply → Option Refusal → Reply → Outcome
outcome ill kept failing reply = if ill then Refused BadText else unless_kept kept (unless failing reply)

old_stays : (ill : Bool) (kept : Option Reply) (failing : Option Refusal) (to : Reply) (h : History) (c : Asked) → is_some kept ≡ true → added h c (outcome ill kept failing to) ≡ h
old_stays true kept failing to h c e = refl
old_stays false (Some reply) failing to h c e = refl
old_stays false None failing to h c e = absurd (false≢true e)

pub repeated_stays : (h : History) (c : Asked) → is_some (facts_of (views_of h) c).kept ≡ true → after h c ≡ h
repeated_stays h c e = let f = facts_of (views_of h) c in old_stays (is_ill_formed f c.deed) f.kept (first_failing (checks f c)) (reply_by_facts f c.deed) h c e

accepts_new : (ill : Bool) (kept : Option Reply) (failing : Option Refusal) (to reply : Reply) → is_some kept ≡ false → answer (outcome ill kept failing to) ≡ Ok reply → outcome ill kept failing to ≡ Accepts reply
accepts_new true kept failing to reply e is = absurd (let no : ⊥ = cc in no)
accepts_new false (Some r) failing to reply e is = absurd (let no : ⊥ = cc in no)
accepts_new false None (Some f) to reply e is = absurd (let no : ⊥ = cc in no)
accepts_new false None None to reply e is = cc

-- what is answered though no reply is kept is accepted
pub newly_accepts : (h : History) (c : Asked) (reply : Reply) → is_some (facts_of (views_of h) c).kept ≡ false → answer (judge (views_of h) c) ≡ Ok reply → judge (views_of h) c ≡ Accepts reply
newly_accepts h c reply e is = let f = facts_of (views_of h) c in accepts_new (is_ill_formed f c.deed) f.kept (first_failing (checks f c)) (reply_by_facts f c.deed) reply e is

-- a command other than an import brings no pairs

no_pairs : (act : Act) (reading : Reading) (o : Outcome) → is_import act ≡ false → new_pairs o (deed_of act reading) ≡ []
no_pairs act reading (Refused r) other = refl
no_pairs act reading (Repeated r) other = refl
no_pairs (Account who rank) reading (Accepts r) other = refl
no_pairs (Submit path proposal note) reading (Accepts r) other = refl
no_pairs (Comment n text) reading (Accepts r) other = refl
no_pairs (Withdraw n) reading (Accepts r) other = refl
no_pairs (Approve n e) reading (Accepts r) other = refl
no_pairs (Reject n reason) reading (Accepts r) other = refl
no_pairs (Import file) reading (Accepts r) other = absurd (let no : ⊥ = cc in no)

-- without pairs nothing is named anew
no_more : (v : Views) → with_pairs [] v ≡ v
no_more v = λ i. record v { since = λ path. if not_anew (name_at path v.items) i then v.revision + 1 else v.since path }

pub leads : (h : History) (command : Command) (reading : Reading) (change : Change) → is_import command.act ≡ false → LeadsOn h (asked command reading) change → views_of (after h (asked command reading)) ≡ changed change (views_of h)
leads h command reading change other led =
    subst (λ (ps : Items). views_of (after h (asked command reading)) ≡ changed change (with_pairs ps (views_of h))) (no_pairs command.act reading (judge (views_of h) (asked command reading)) other) led
    ∙ ap (changed change) (no_more (views_of h))

pub fits : (h : History) (command : Command) (reading : Reading) (change : Change) → is_import command.act ≡ false → FitsHistory h (asked command reading) change → FitsViews change (views_of h)
fits h command reading change other fit =
    subst (FitsViews change) (no_more (views_of h)) (subst (λ (ps : Items). FitsViews change (with_pairs ps (views_of h))) (no_pairs command.act reading (judge (views_of h) (asked command reading)) other) fit)

told_by : (h : History) (c : Asked) (e : Refusal) → answer (judge (views_of h) c) ≡ Err e → ((answer (judge (views_of h) c) ≡ Err e) × (after h c ≡ h)) ⊎ IsMemoryOrStore e
told_by h c e same = inl (same, refused_stays h c e same)

pub told_or_memory : (h : History) (c : Asked) (e : Refusal) → (e ≢ Memory → answer (judge (views_of h) c) ≡ Err e) → (answer (judge (views_of h) c) ≡ Err e) ⊎ (e ≡ Memory)
told_or_memory h c BadPath told = inl (told (λ bad. let no : ⊥ = cc in no))
told_or_memory h c BadName told = inl (told (λ bad. let no : ⊥ = cc in no))
told_or_memory h c BadText told = inl (told (λ bad. let no : ⊥ = cc in no))
told_or_memory h c NoAccount told = inl (told (λ bad. let no : ⊥ = cc in no))
told_or_memory h c RankTooLow told = inl (told (λ bad. let no : ⊥ = cc in no))
told_or_memory h c NoSubmission told = inl (told (λ bad. let no : ⊥ = cc in no))
told_or_memory h c NotPending told = inl (told (λ bad. let no : ⊥ = cc in no))
told_or_memory h c NotAuthor told = inl (told (λ bad. let no : ⊥ = cc in no))
told_or_memory h c OwnDecision told = inl (told (λ bad. let no : ⊥ = cc in no))
told_or_memory h c ParentMissing told = inl (told (λ bad. let no : ⊥ = cc in no))
told_or_memory h c HasChildren told = inl (told (λ bad. let no : ⊥ = cc in no))
told_or_memory h c NothingToDo told = inl (told (λ bad. let no : ⊥ = cc in no))
told_or_memory h c (FileFault f) told = inl (told (λ bad. let no : ⊥ = cc in no))
told_or_memory h c Full told = inl (told (λ bad. let no : ⊥ = cc in no))
told_or_memory h c Memory told = inr refl
told_or_memory h c Store told = inl (told (λ bad. let no : ⊥ = cc in no))
told_or_memory h c Failed told = inl (told (λ bad. let no : ⊥ = cc in no))
told_or_memory h c Changed told = inl (told (λ bad. let no : ⊥ = cc in no))

pub refusal_told : (h : History) (c : Asked) (e : Refusal) → (e ≢ Memory → answer (judge (views_of h) c) ≡ Err e) → ((answer (judge (views_of h) c) ≡ Err e) × (after h c ≡ h)) ⊎ IsMemoryOrStore e
refusal_told h c e told = elim (told_or_memory h c e told) [
  | inl same ↦ told_by h c e same
  | inr is ↦ inr (inl is)
]
