-- The mark stays, the revision counts from it on, and the since of an item is that of its last change.
use Rattle.std.proofs.Common.{◌≡◌, ◌≢◌, ℕ, ◌+◌, ◌-◌, ◌≤◌, suc, Bool, true, false, cond, not, List, [], ◌∷◌, ◌++◌, length, Option, Some, None, refl, sym, ap, ◌∙◌, arith}
use Rattle.std.specs.Prelude.{nat_le}
use Rattle.std.proofs.lemmas.Bool.Decides.{nat_tests}
use Rattle.std.proofs.lemmas.Bool.{false_from_ne_true}
use Rattle.std.proofs.lemmas.Slice.Eq.{bytes_eq-Decides}
use Rattle.pid_moderation.specs.declared.command.Reply.{Reply}
use Rattle.pid_moderation.specs.declared.facts.Facts.{Facts}
use Rattle.pid_moderation.specs.declared.facts.NamedSubmission.{NamedSubmission}
use Rattle.pid_moderation.specs.declared.refusal.Refusal.TheVariants.{BadText, Full}
use Rattle.pid_moderation.specs.CheckTables.{most_revision, command_checks, first_failing, is_ill_formed, reply_by_facts}
use Rattle.pid_moderation.specs.FactsOfViews.{facts_of, known, named, with_item_facts}
use Rattle.pid_moderation.specs.History.{Deed, Ranks, Submits, Comments, Withdraws, Approves, Rejects, Imports, Asked, Accepted, Begins, More, History, mark_of, accepted_count, accepted_in}
use Rattle.pid_moderation.specs.Items.{name_at, has_name}
use Rattle.pid_moderation.specs.Judgement.{Outcome, Refused, Repeated, Accepts, unless, unless_kept, judge, answer, answers, added, after, after_all}
use Rattle.pid_moderation.specs.Revisions.{IsMarked, taken_over, with_mark}
use Rattle.pid_moderation.specs.Views.{Views, views_of, without_numbers, revision_of, is_named_anew, since_of, rank_of, ranked, submits_of, submitted, state_of, decided, remarks_of, remarked, items_of, itemized, kept_of, receipted}
use Rattle.pid_moderation.proofs.Changing.{asks, entry, not_anew, next_number, facts_revision}
use Rattle.pid_moderation.proofs.Passing.{accepted_passes}

-- THE MARK

same_mark : (h : History) (c : Asked) (o : Outcome) → mark_of (added h c o) ≡ mark_of h
same_mark h c (Refused e) = refl
same_mark h c (Repeated reply) = refl
same_mark h c (Accepts reply) = refl

pub mark_stays : (h : History) (cs : List Asked) → mark_of (after_all h cs) ≡ mark_of h
mark_stays h [] = refl
mark_stays h (c ∷ cs) = mark_stays (after h c) cs ∙ same_mark h c (judge (views_of h) c)

pub mark_set : (mark : ℕ) (h : History) → mark_of (with_mark mark h) ≡ mark
mark_set mark (Begins m) = refl
mark_set mark (More e h) = mark_set mark h

pub same_accepted : (mark : ℕ) (h : History) → accepted_in (with_mark mark h) ≡ accepted_in h
same_accepted mark (Begins m) = refl
same_accepted mark (More e h) = ap (λ es. e ∷ es) (same_accepted mark h)

same_count : (mark : ℕ) (h : History) → accepted_count (with_mark mark h) ≡ accepted_count h
same_count mark h = ap length (same_accepted mark h)

-- the views but for the numbers go by the commands alone

same_ranks : (mark : ℕ) (h : History) (a : List ℕ) → rank_of a (with_mark mark h) ≡ rank_of a h
same_ranks mark (Begins m) a = refl
same_ranks mark (More e h) a = ap (ranked a e.asked.deed) (same_ranks mark h a)

same_submits : (mark : ℕ) (h : History) → submits_of (with_mark mark h) ≡ submits_of h
same_submits mark (Begins m) = refl
same_submits mark (More e h) = ap (submitted e.asked.account e.asked.deed) (same_submits mark h)

same_states : (mark : ℕ) (h : History) (n : ℕ) → state_of n (with_mark mark h) ≡ state_of n h
same_states mark (Begins m) n = refl
same_states mark (More e h) n = ap (decided n e.asked.account e.asked.deed) (same_states mark h n)

same_remarks : (mark : ℕ) (h : History) (n : ℕ) → remarks_of n (with_mark mark h) ≡ remarks_of n h
same_remarks mark (Begins m) n = refl
same_remarks mark (More e h) n = ap (remarked n e.asked.account e.asked.deed) (same_remarks mark h n)

same_items : (mark : ℕ) (h : History) → items_of (with_mark mark h) ≡ items_of h
same_items mark (Begins m) = refl
same_items mark (More e h) = λ i. itemized e.asked.deed (same_submits mark h i) (same_items mark h i)

same_kept : (mark : ℕ) (h : History) (a k : List ℕ) → kept_of a k (with_mark mark h) ≡ kept_of a k h
same_kept mark (Begins m) a k = refl
same_kept mark (More e h) a k = ap (receipted a k e.asked.account e.asked.key e.reply) (same_kept mark h a k)

pub same_views : (mark : ℕ) (h : History) → without_numbers (views_of (with_mark mark h)) ≡ without_numbers (views_of h)
same_views mark h = λ i. record {
  rank = λ a. same_ranks mark h a i;
  submits = same_submits mark h i;
  state = λ n. same_states mark h n i;
  remarks = λ n. same_remarks mark h n i;
  items = same_items mark h i;
  kept = λ a k. same_kept mark h a k i;
  revision = 0;
  since = λ path. 0;
}

-- so does the judgement while the limit is not met

abbrev judged_if : Bool → Facts → Asked → Outcome
judged_if last f c = cond (is_ill_formed f c.deed) (Refused BadText) (unless_kept f.kept (unless (first_failing (command_checks f c ++ (last, Full) ∷ [])) (reply_by_facts f c.deed)))

abbrev uncounted : Facts → Facts
uncounted f = record f { revision = 0 }

same_judged : (last : Bool) (f : Facts) (account : List ℕ) (key : Option (List ℕ)) (deed : Deed) → judged_if last f (asks account key deed) ≡ judged_if last (uncounted f) (asks account key deed)
same_judged last f account key (Ranks who rank) = refl
same_judged last f account key (Submits path proposal note) = refl
same_judged last f account key (Comments n text) = refl
same_judged last f account key (Withdraws n) = refl
same_judged last f account key (Approves n e) = refl
same_judged last f account key (Rejects n reason) = refl
same_judged last f account key (Imports reading) = refl

same_item : (v : Views) (o : Option NamedSubmission) (f : Facts) → uncounted (with_item_facts v o f) ≡ with_item_facts (without_numbers v) o (uncounted f)
same_item v None f = refl
same_item v (Some s) f = refl

same_facts : (v : Views) (account : List ℕ) (key : Option (List ℕ)) (deed : Deed) → uncounted (facts_of v (asks account key deed)) ≡ facts_of (without_numbers v) (asks account key deed)
same_facts v account None (Approves n e) = same_item v (named v n) (known v account None)
same_facts v account (Some key) (Approves n e) = same_item v (named v n) (known v account (Some key))
same_facts v account None (Imports reading) = refl
same_facts v account (Some key) (Imports reading) = refl
same_facts v account None deed = refl
same_facts v account (Some key) deed = refl

judged_small : (v : Views) (c : Asked) → nat_le most_revision v.revision ≡ false → judge v c ≡ judged_if false (facts_of (without_numbers v) c) c
judged_small v c small =
    let last : nat_le most_revision (facts_of v c).revision ≡ false = ap (nat_le most_revision) (facts_revision v c) ∙ small in
    ap (λ b. judged_if b (facts_of v c) c) last
    ∙ same_judged false (facts_of v c) c.account c.key c.deed
    ∙ ap (λ f. judged_if false f c) (same_facts v c.account c.key c.deed)

few : (m n : ℕ) → suc n ≤ most_revision → nat_le most_revision (n - m) ≡ false
few m n h = grind (arith, nat_tests)

few_marked : (mark : ℕ) (h : History) → suc (accepted_count h) ≤ most_revision → nat_le most_revision (revision_of (with_mark mark h)) ≡ false
few_marked mark h small = ap (λ n. nat_le most_revision (n - mark_of (with_mark mark h))) (same_count mark h) ∙ few (mark_of (with_mark mark h)) (accepted_count h) small

same_judge : (mark : ℕ) (h : History) (c : Asked) → suc (accepted_count h) ≤ most_revision → judge (views_of (with_mark mark h)) c ≡ judge (views_of h) c
same_judge mark h c small =
    judged_small (views_of (with_mark mark h)) c (few_marked mark h small)
    ∙ ap (λ v. judged_if false (facts_of v c) c) (same_views mark h)
    ∙ sym (judged_small (views_of h) c (few (mark_of h) (accepted_count h) small))

same_added : (mark : ℕ) (h : History) (c : Asked) (o : Outcome) → added (with_mark mark h) c o ≡ with_mark mark (added h c o)
same_added mark h c (Refused e) = refl
same_added mark h c (Repeated reply) = refl
same_added mark h c (Accepts reply) = refl

same_after : (mark : ℕ) (h : History) (c : Asked) → suc (accepted_count h) ≤ most_revision → after (with_mark mark h) c ≡ with_mark mark (after h c)
same_after mark h c small = ap (added (with_mark mark h) c) (same_judge mark h c small) ∙ same_added mark h c (judge (views_of h) c)

-- with each command there is at most one more
one_more_counted : (h : History) (c : Asked) (o : Outcome) (left : ℕ) → accepted_count h + suc left ≤ most_revision → accepted_count (added h c o) + left ≤ most_revision
one_more_counted h c (Refused e) left small = one_off (accepted_count h) left small
  where
    one_off : (n left : ℕ) → n + suc left ≤ most_revision → n + left ≤ most_revision
    one_off n left small = omega arith
one_more_counted h c (Repeated reply) left small = one_off (accepted_count h) left small
  where
    one_off : (n left : ℕ) → n + suc left ≤ most_revision → n + left ≤ most_revision
    one_off n left small = omega arith
one_more_counted h c (Accepts reply) left small = one_over (accepted_count h) left small
  where
    one_over : (n left : ℕ) → n + suc left ≤ most_revision → suc n + left ≤ most_revision
    one_over n left small = omega arith

first_fits : (n left : ℕ) → n + suc left ≤ most_revision → suc n ≤ most_revision
first_fits n left small = omega arith

pub same_after_all : (mark : ℕ) (h : History) (cs : List Asked) → accepted_count h + length cs ≤ most_revision → after_all (with_mark mark h) cs ≡ with_mark mark (after_all h cs)
same_after_all mark h [] small = refl
same_after_all mark h (c ∷ cs) small =
    ap (λ g. after_all g cs) (same_after mark h c (first_fits (accepted_count h) (length cs) small))
    ∙ same_after_all mark (after h c) cs (one_more_counted h c (judge (views_of h) c) (length cs) small)

pub same_answers : (mark : ℕ) (h : History) (cs : List Asked) → accepted_count h + length cs ≤ most_revision → answers (with_mark mark h) cs ≡ answers h cs
same_answers mark h [] small = refl
same_answers mark h (c ∷ cs) small =
    let first : suc (accepted_count h) ≤ most_revision = first_fits (accepted_count h) (length cs) small in
    let rest : answers (after (with_mark mark h) c) cs ≡ answers (after h c) cs =
    ap (λ g. answers g cs) (same_after mark h c first) ∙ same_answers mark (after h c) cs (one_more_counted h c (judge (views_of h) c) (length cs) small) in
    λ i. answer (same_judge mark h c first i) ∷ rest i

one_more : (m n : ℕ) → m ≤ n → m ≤ suc n
one_more m n h = omega arith

marked_then : (h : History) (c : Asked) (o : Outcome) → IsMarked h → IsMarked (added h c o)
marked_then h c (Refused e) marked = marked
marked_then h c (Repeated reply) marked = marked
marked_then h c (Accepts reply) marked = one_more (mark_of h) (accepted_count h) marked

pub marked_stays : (h : History) (cs : List Asked) → IsMarked h → IsMarked (after_all h cs)
marked_stays h [] marked = marked
marked_stays h (c ∷ cs) marked = marked_stays (after h c) cs (marked_then h c (judge (views_of h) c) marked)

-- THE REVISION

pub counted : (h : History) (c : Asked) (reply : Reply) (o : Outcome) → o ≡ Accepts reply → IsMarked h → revision_of (added h c o) ≡ revision_of h + 1
counted h c reply (Refused e) is marked = absurd cc
counted h c reply (Repeated r) is marked = absurd cc
counted h c reply (Accepts r) is marked = next_number (mark_of h) (accepted_count h) marked

no_less : (m n : ℕ) → n - m ≤ suc n - m
no_less m n = omega arith

same_or_less : (n : ℕ) → n ≤ n
same_or_less n = omega arith

through : (a b c : ℕ) → a ≤ b → b ≤ c → a ≤ c
through a b c p q = omega arith

grown : (h : History) (c : Asked) (o : Outcome) → revision_of h ≤ revision_of (added h c o)
grown h c (Refused e) = same_or_less (revision_of h)
grown h c (Repeated reply) = same_or_less (revision_of h)
grown h c (Accepts reply) = no_less (mark_of h) (accepted_count h)

pub grows : (h : History) (cs : List Asked) → revision_of h ≤ revision_of (after_all h cs)
grows h [] = same_or_less (revision_of h)
grows h (c ∷ cs) = through (revision_of h) (revision_of (after h c)) (revision_of (after_all (after h c) cs)) (grown h c (judge (views_of h) c)) (grows (after h c) cs)

-- it stays within its limit

within_limit : (m n r : ℕ) → r ≡ n - m → nat_le most_revision r ≡ false → suc n - m ≤ most_revision
within_limit m n r is small = grind (arith, nat_tests)

stays_within : (h : History) (c : Asked) (o : Outcome) → judge (views_of h) c ≡ o → revision_of h ≤ most_revision → revision_of (added h c o) ≤ most_revision
stays_within h c (Refused e) is old = old
stays_within h c (Repeated reply) is old = old
stays_within h c (Accepts reply) is old =
    within_limit (mark_of h) (accepted_count h) (facts_of (views_of h) c).revision (facts_revision (views_of h) c) (accepted_passes (facts_of (views_of h) c) c reply is).counted

pub all_within : (h : History) (cs : List Asked) → revision_of h ≤ most_revision → revision_of (after_all h cs) ≤ most_revision
all_within h [] old = old
all_within h (c ∷ cs) old = all_within (after h c) cs (stays_within h c (judge (views_of h) c) refl old)

-- THE SINCE OF AN ITEM

has_other : (name : List ℕ) (o : Option (List ℕ)) → o ≢ Some name → has_name name o ≡ false
has_other name None other = refl
has_other name (Some old) other = false_from_ne_true _ (λ same. other (ap Some (sym ((bytes_eq-Decides name old).0 same))))

has_it : (name : List ℕ) (o : Option (List ℕ)) → has_name name o ≡ true → o ≡ Some name
has_it name None has = absurd cc
has_it name (Some old) has = ap Some (sym ((bytes_eq-Decides name old).0 has))

pub within : (h : History) (path : List ℕ) → since_of path h ≤ revision_of h
within (Begins mark) path = omega arith
within (More e h) path = chosen (is_named_anew (name_at path (items_of h)) (name_at path (items_of (More e h)))) (within h path)
  where
    chosen : (b : Bool) → since_of path h ≤ revision_of h → cond b (revision_of (More e h)) (since_of path h) ≤ revision_of (More e h)
    chosen true old = same_or_less (revision_of (More e h))
    chosen false old = through (since_of path h) (revision_of h) (revision_of (More e h)) old (no_less (mark_of h) (accepted_count h))

none_left : (m n : ℕ) → n ≤ m → n - m ≡ 0
none_left m n h = omega arith

fewer : (m n : ℕ) → suc n ≤ m → n ≤ m
fewer m n h = omega arith

pub before_mark : (h : History) (path : List ℕ) → accepted_count h ≤ mark_of h → since_of path h ≡ 0
before_mark (Begins mark) path short = refl
before_mark (More e h) path short = chosen (is_named_anew (name_at path (items_of h)) (name_at path (items_of (More e h)))) (before_mark h path (fewer (mark_of h) (accepted_count h) short))
  where
    chosen : (b : Bool) → since_of path h ≡ 0 → cond b (revision_of (More e h)) (since_of path h) ≡ 0
    chosen true old = none_left (mark_of h) (accepted_count (More e h)) short
    chosen false old = old

kept_here : (h : History) (e : Accepted) (path : List ℕ) → name_at path (items_of (More e h)) ≡ name_at path (items_of h) → since_of path (More e h) ≡ since_of path h
kept_here h e path same =
    let stays : is_named_anew (name_at path (items_of h)) (name_at path (items_of (More e h))) ≡ false = ap (is_named_anew (name_at path (items_of h))) same ∙ not_anew (name_at path (items_of h)) in
    ap (λ b. cond b (revision_of (More e h)) (since_of path h)) stays

pub kept : (h : History) (c : Asked) (path : List ℕ) (o : Outcome) → name_at path (items_of (added h c o)) ≡ name_at path (items_of h) → since_of path (added h c o) ≡ since_of path h
kept h c path (Refused e) same = refl
kept h c path (Repeated reply) same = refl
kept h c path (Accepts reply) same = kept_here h (entry c reply) path same

pub removed : (h : History) (c : Asked) (path : List ℕ) (o : Outcome) → name_at path (items_of (added h c o)) ≡ None → since_of path (added h c o) ≡ since_of path h
removed h c path (Refused e) none = refl
removed h c path (Repeated reply) none = refl
removed h c path (Accepts reply) none = ap (λ now. cond (is_named_anew (name_at path (items_of h)) now) (revision_of (More (entry c reply) h)) (since_of path h)) none

given_here : (h : History) (e : Accepted) (path name : List ℕ) → name_at path (items_of (More e h)) ≡ Some name → has_name name (name_at path (items_of h)) ≡ false → since_of path (More e h) ≡ revision_of (More e h)
given_here h e path name now other =
    ap (λ o. cond (is_named_anew (name_at path (items_of h)) o) (revision_of (More e h)) (since_of path h)) now
    ∙ ap (λ b. cond (not b) (revision_of (More e h)) (since_of path h)) other

pub given : (h : History) (c : Asked) (path name : List ℕ) (o : Outcome) → name_at path (items_of (added h c o)) ≡ Some name → name_at path (items_of h) ≢ Some name → since_of path (added h c o) ≡ revision_of (added h c o)
given h c path name (Refused e) now other = absurd (other now)
given h c path name (Repeated reply) now other = absurd (other now)
given h c path name (Accepts reply) now other = given_here h (entry c reply) path name now (has_other name (name_at path (items_of h)) other)

-- A FILE THAT IS TAKEN OVER

no_more : (m n k : ℕ) → m ≡ k → n ≡ k → n ≤ m
no_more m n k p q = omega arith

pub taken_marked : (h : History) → IsMarked (taken_over h)
taken_marked h = no_more (accepted_count (taken_over h)) (mark_of (taken_over h)) (accepted_count h) (same_count (accepted_count h) h) (mark_set (accepted_count h) h)

all_before : (h : History) → accepted_count (taken_over h) ≤ mark_of (taken_over h)
all_before h = no_more (mark_of (taken_over h)) (accepted_count (taken_over h)) (accepted_count h) (mark_set (accepted_count h) h) (same_count (accepted_count h) h)

pub taken_revision : (h : History) → revision_of (taken_over h) ≡ 0
taken_revision h = none_left (mark_of (taken_over h)) (accepted_count (taken_over h)) (all_before h)

pub taken_since : (h : History) (path : List ℕ) → since_of path (taken_over h) ≡ 0
taken_since h path = before_mark (taken_over h) path (all_before h)

-- WHAT A MIRROR RESTS ON

since_grown : (h : History) (c : Asked) (path : List ℕ) (o : Outcome) → since_of path h ≤ since_of path (added h c o)
since_grown h c path (Refused e) = same_or_less (since_of path h)
since_grown h c path (Repeated reply) = same_or_less (since_of path h)
since_grown h c path (Accepts reply) = chosen (is_named_anew (name_at path (items_of h)) (name_at path (items_of (More (entry c reply) h))))
  where
    chosen : (b : Bool) → since_of path h ≤ cond b (revision_of (More (entry c reply) h)) (since_of path h)
    chosen true = through (since_of path h) (revision_of h) (revision_of (More (entry c reply) h)) (within h path) (no_less (mark_of h) (accepted_count h))
    chosen false = same_or_less (since_of path h)

since_grows : (h : History) (cs : List Asked) (path : List ℕ) → since_of path h ≤ since_of path (after_all h cs)
since_grows h [] path = same_or_less (since_of path h)
since_grows h (c ∷ cs) path = through (since_of path h) (since_of path (after h c)) (since_of path (after_all (after h c) cs)) (since_grown h c path (judge (views_of h) c)) (since_grows (after h c) cs path)

too_new : (m n s : ℕ) → m ≤ n → s ≡ suc n - m → s ≤ n - m → ⊥
too_new m n s marked is old = omega arith

named_then : (h : History) (c : Asked) (path name : List ℕ) (o : Outcome) → IsMarked h → name_at path (items_of (added h c o)) ≡ Some name → since_of path (added h c o) ≤ revision_of h → name_at path (items_of h) ≡ Some name
named_then h c path name (Refused e) marked now old = now
named_then h c path name (Repeated reply) marked now old = now
named_then h c path name (Accepts reply) marked now old = chosen (has_name name (name_at path (items_of h))) refl
  where
    chosen : (b : Bool) → has_name name (name_at path (items_of h)) ≡ b → name_at path (items_of h) ≡ Some name
    chosen true has = has_it name (name_at path (items_of h)) has
    chosen false other = absurd (too_new (mark_of h) (accepted_count h) (since_of path (More (entry c reply) h)) marked (given_here h (entry c reply) path name now other) old)

pub named_already : (h : History) (cs : List Asked) (path name : List ℕ) → IsMarked h → name_at path (items_of (after_all h cs)) ≡ Some name → since_of path (after_all h cs) ≤ revision_of h → name_at path (items_of h) ≡ Some name
named_already h [] path name marked now old = now
named_already h (c ∷ cs) path name marked now old =
    let g = after h c in
    let last = since_of path (after_all g cs) in
    let o = judge (views_of h) c in
    let there = named_already g cs path name (marked_then h c o marked) now (through last (revision_of h) (revision_of g) old (grown h c o)) in
    named_then h c path name o marked there (through (since_of path g) last (revision_of h) (since_grows g cs path) old)
