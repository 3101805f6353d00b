-- Kept replies stay, and are of their accounts.
use Rattle.std.proofs.Common.{◌≡◌, ℕ, ◌+◌, ◌≤◌, zero, suc, Bool, true, false, cond, not, List, [], ◌∷◌, ◌++◌, length, Option, Some, None, refl, sym, subst, ◌∙◌, arith}
use Rattle.std.specs.Prelude.{◌&&◌, slice_get, is_none, is_some}
use Rattle.std.specs.Str.{bytes_eq}
use Rattle.std.proofs.lemmas.List.Sums.{sum_by-cons}
use Rattle.std.proofs.lemmas.Slice.Eq.{bytes_eq-Decides}
use Rattle.pid_file.specs.Words.{is_key}
use Rattle.pid_moderation.specs.declared.command.Reply.{Reply}
use Rattle.pid_moderation.specs.declared.command.Reply.TheVariants.{Done, Numbered, Counts}
use Rattle.pid_moderation.specs.History.{TooLong, Faulty, Good, Deed, Ranks, Submits, Comments, Withdraws, Approves, Rejects, Imports, Asked, Accepted, More, History, accepted_in}
use Rattle.pid_moderation.specs.Items.{Items, name_at, has_name, count_new, count_renamed, count_same}
use Rattle.pid_moderation.specs.Views.{Views, Submitted, views_of, submits_of, submitted, submission_at, items_of, kept_of, receipted}
use Rattle.pid_moderation.specs.declared.facts.Facts.{Facts}
use Rattle.pid_moderation.specs.declared.facts.NamedSubmission.{NamedSubmission}
use Rattle.pid_moderation.specs.FactsOfViews.{Wanted, ItemOf, wanted, facts_of, looked_at, with_file, with_item_facts, known, named, kept_in}
use Rattle.pid_moderation.specs.CheckTables.{reply_by_facts, most_items}
use Rattle.pid_moderation.specs.Sound.{IsRegistered, HasReceipt, HaveReceipts, IsSubmissionBy, IsOwnReply, IsReceipt}
use Rattle.pid_moderation.specs.WellMade.{IsWellMade, IsGoodKey}
use Rattle.pid_moderation.proofs.Changing.{asks, entry}
use Rattle.pid_moderation.proofs.Knowing.{to_deed, caller_known, known_stays, same_text}
use Rattle.pid_moderation.proofs.Reaching.{Stays}

-- EACH HAS ITS RECEIPT

not_that : (a b : Bool) (old new reply : Reply) (k : Option Reply) → k ≡ Some old → ((a ≡ true) → (b ≡ true) → k ≡ None) → cond (a && b) (Some new) k ≡ Some old
not_that true true old new reply k e clash = let n = clash refl refl in absurd cc
not_that true false old new reply k e clash = e
not_that false b old new reply k e clash = e

one_receipt : (h : History) (account : List ℕ) (key : Option (List ℕ)) (reply : Reply) → kept_in (views_of h) account key ≡ None → (a k : List ℕ) (old : Reply) → kept_of a k h ≡ Some old → receipted a k account key reply (kept_of a k h) ≡ Some old
one_receipt h account None reply new a k old e = e
one_receipt h account (Some key) reply new a k old e = not_that (bytes_eq a account) (bytes_eq k key) old reply reply (kept_of a k h) e (λ p q. let pa : a ≡ account = (bytes_eq-Decides a account).0 p in let pk : k ≡ key = (bytes_eq-Decides k key).0 q in (λ i. kept_of (pa i) (pk i) h) ∙ new)

receipt_stays : (h : History) (c : Asked) (reply : Reply) → kept_in (views_of h) c.account c.key ≡ None → (account : List ℕ) (key : Option (List ℕ)) (old : Reply) → HasReceipt h account key old → HasReceipt (More (entry c reply) h) account key old
receipt_stays h c reply new account None old e = tt
receipt_stays h c reply new account (Some key) old e = one_receipt h c.account c.key reply new account key old e

receipts_stay : (h : History) (c : Asked) (reply : Reply) → kept_in (views_of h) c.account c.key ≡ None → (es : List Accepted) → HaveReceipts es h → HaveReceipts es (More (entry c reply) h)
receipts_stay h c reply new [] old = tt
receipts_stay h c reply new (e ∷ es) old = (receipt_stays h c reply new e.asked.account e.asked.key e.reply old.0, receipts_stay h c reply new es old.1)

own_receipt : (h : History) (account : List ℕ) (key : Option (List ℕ)) (deed : Deed) (reply : Reply) → HasReceipt (More (entry (asks account key deed) reply) h) account key reply
own_receipt h account None deed reply = tt
own_receipt h account (Some key) deed reply = rw (same_text account, same_text key) refl

abbrev pub AllReceipted : History → Type 0
AllReceipted h = HaveReceipts (accepted_in h) h

with_item-kept : (v : Views) (o : Option NamedSubmission) (f : Facts) → (with_item_facts v o f).kept ≡ f.kept
with_item-kept v None f = refl
with_item-kept v (Some s) f = refl

looked_at-kept : (v : Views) (w : Wanted) (f : Facts) → (looked_at v w f).kept ≡ f.kept
looked_at-kept v (ItemOf n) f = with_item-kept v (named v n) f
looked_at-kept v w f = refl

with_file-kept : (items : Items) (deed : Deed) (f : Facts) → (with_file items deed f).kept ≡ f.kept
with_file-kept items (Imports reading) f = refl
with_file-kept items deed f = refl

pub facts-kept : (v : Views) (c : Asked) → (facts_of v c).kept ≡ kept_in v c.account c.key
facts-kept v c = with_file-kept v.items c.deed (looked_at v (wanted c.deed) (known v c.account c.key)) ∙ looked_at-kept v (wanted c.deed) (known v c.account c.key)

pub all_receipts_stay : Stays AllReceipted
all_receipts_stay h account key deed reply made passed old =
    let new : kept_in (views_of h) account key ≡ None = sym (facts-kept (views_of h) (asks account key deed)) ∙ passed.not_kept in
    (own_receipt h account key deed reply, receipts_stay h (asks account key deed) reply new (accepted_in h) old)

-- WHAT IS KEPT

abbrev pub AreReceipts : History → Type 0
AreReceipts h = (account key : List ℕ) (reply : Reply) → kept_of account key h ≡ Some reply → IsReceipt h account key reply

push_at : (n : ℕ) (xs : List Submitted) (s : Submitted) (account : List ℕ) → IsSubmissionBy account (slice_get xs n) → IsSubmissionBy account (slice_get (xs ++ s ∷ []) n)
push_at zero [] s account old = absurd old
push_at (suc n) [] s account old = absurd old
push_at zero (x ∷ xs) s account old = old
push_at (suc n) (x ∷ xs) s account old = push_at n xs s account old

still_by : (n : ℕ) (account caller : List ℕ) (deed : Deed) (ss : List Submitted) → IsSubmissionBy account (submission_at n ss) → IsSubmissionBy account (submission_at n (submitted caller deed ss))
still_by zero account caller deed ss old = absurd old
still_by (suc n) account caller (Submits path proposal note) ss old = push_at n ss _ account old
still_by (suc n) account caller deed ss old = old

still_own : (h : History) (account caller : List ℕ) (key : Option (List ℕ)) (deed : Deed) (new reply : Reply) → IsOwnReply h account reply → IsOwnReply (More (entry (asks caller key deed) new) h) account reply
still_own h account caller key deed new Done old = tt
still_own h account caller key deed new (Numbered n) old = still_by n account caller deed (submits_of h) old
still_own h account caller key deed new (Counts added renamed same) old = old

-- each pair is new, renamed or the same
one_of_three : (o : Option (List ℕ)) (name : List ℕ) → cond (is_none o) 1 0 + cond (is_some o && not (has_name name o)) 1 0 + cond (has_name name o) 1 0 ≡ 1
one_of_three None name = refl
one_of_three (Some old) name = chosen (bytes_eq name old)
  where
    chosen : (b : Bool) → 0 + cond (not b) 1 0 + cond b 1 0 ≡ 1
    chosen true = refl
    chosen false = refl

all_counted : (items pairs : Items) → count_new items pairs + count_renamed items pairs + count_same items pairs ≡ length pairs
all_counted items [] = refl
all_counted items (e ∷ pairs) =
    let new : count_new items (e ∷ pairs) ≡ cond (is_none (name_at e.0 items)) 1 0 + count_new items pairs = sum_by-cons (λ (x : List ℕ × List ℕ). cond (is_none (name_at x.0 items)) 1 0) e pairs in
    let renamed : count_renamed items (e ∷ pairs) ≡ cond (is_some (name_at e.0 items) && not (has_name e.1 (name_at e.0 items))) 1 0 + count_renamed items pairs = sum_by-cons (λ (x : List ℕ × List ℕ). cond (is_some (name_at x.0 items) && not (has_name x.1 (name_at x.0 items))) 1 0) e pairs in
    let same : count_same items (e ∷ pairs) ≡ cond (has_name e.1 (name_at e.0 items)) 1 0 + count_same items pairs = sum_by-cons (λ (x : List ℕ × List ℕ). cond (has_name x.1 (name_at x.0 items)) 1 0) e pairs in
    sums _ _ _ _ _ _ _ _ _ _ new renamed same (one_of_three (name_at e.0 items) e.1) (all_counted items pairs)
  where
    sums : (p q r a b c x y z n : ℕ) → p ≡ a + x → q ≡ b + y → r ≡ c + z → a + b + c ≡ 1 → x + y + z ≡ n → p + q + r ≡ suc n
    sums p q r a b c x y z n hp hq hr h k = omega arith

last_by : (ss : List Submitted) (s : Submitted) → IsSubmissionBy s.author (slice_get (ss ++ s ∷ []) (length ss))
last_by [] s = refl
last_by (x ∷ ss) s = last_by ss s

last_number : (ss : List Submitted) (s : Submitted) → IsSubmissionBy s.author (submission_at (length ss + 1) (ss ++ s ∷ []))
last_number ss s =
    let next : suc (length ss) ≡ length ss + 1 = omega arith in
    subst (λ (n : ℕ). IsSubmissionBy s.author (submission_at n (ss ++ s ∷ []))) next (last_by ss s)

own_reply : (h : History) (account : List ℕ) (key : Option (List ℕ)) (deed : Deed) (reply : Reply) → IsWellMade (asks account key deed) → IsOwnReply (More (entry (asks account key deed) reply) h) account (reply_by_facts (to_deed h account key deed) deed)
own_reply h account key (Ranks who rank) reply made = tt
own_reply h account key (Submits path proposal note) reply made = last_number (submits_of h) (record { author = account; path = path; proposal = proposal; note = note })
own_reply h account key (Comments n text) reply made = tt
own_reply h account key (Withdraws n) reply made = tt
own_reply h account key (Approves n e) reply made = tt
own_reply h account key (Rejects n reason) reply made = tt
own_reply h account key (Imports TooLong) reply made = omega arith
own_reply h account key (Imports (Faulty fault)) reply made = omega arith
own_reply h account key (Imports (Good pairs)) reply made = subst (λ (n : ℕ). n ≤ most_items) (sym (all_counted (items_of h) pairs)) made.2.limit

new_kept : (h : History) (account : List ℕ) (key : Option (List ℕ)) (deed : Deed) (reply : Reply) → IsRegistered account h → IsGoodKey key → IsOwnReply (More (entry (asks account key deed) reply) h) account reply → AreReceipts h → AreReceipts (More (entry (asks account key deed) reply) h)
new_kept h account None deed reply caller good own old = λ a k r e. let was = old a k r e in record { account = known_stays h account None deed reply a was.account; key = was.key; reply = still_own h a account None deed reply r was.reply }
new_kept h account (Some key) deed reply caller good own old = λ a k r e. chosen a k r (bytes_eq a account) (bytes_eq k key) refl refl e
  where
    chosen : (a k : List ℕ) (r : Reply) (p q : Bool) → bytes_eq a account ≡ p → bytes_eq k key ≡ q → cond (p && q) (Some reply) (kept_of a k h) ≡ Some r → IsReceipt (More (entry (asks account (Some key) deed) reply) h) a k r
    chosen a k r true true ea ek e =
        let pa : account ≡ a = sym ((bytes_eq-Decides a account).0 ea) in
        let pk : key ≡ k = sym ((bytes_eq-Decides k key).0 ek) in
        let same : reply ≡ r = cc in
        record {
          account = subst (λ (t : List ℕ). IsRegistered t (More (entry (asks account (Some key) deed) reply) h)) pa (known_stays h account (Some key) deed reply account caller);
          key = subst (λ (t : List ℕ). is_key t ≡ true) pk good;
          reply = subst (λ (t : List ℕ). IsOwnReply (More (entry (asks account (Some key) deed) reply) h) t r) pa (subst (λ (x : Reply). IsOwnReply (More (entry (asks account (Some key) deed) reply) h) account x) same own);
        }
    chosen a k r true false ea ek e = let was = old a k r e in record { account = known_stays h account (Some key) deed reply a was.account; key = was.key; reply = still_own h a account (Some key) deed reply r was.reply }
    chosen a k r false q ea ek e = let was = old a k r e in record { account = known_stays h account (Some key) deed reply a was.account; key = was.key; reply = still_own h a account (Some key) deed reply r was.reply }

pub kept_stays : Stays AreReceipts
kept_stays h account key deed reply made passed old = new_kept h account key deed reply (caller_known h account key deed passed.all) made.1 (subst (λ (x : Reply). IsOwnReply (More (entry (asks account key deed) reply) h) account x) (sym passed.reply_is) (own_reply h account key deed reply made)) old
