-- The change of an accepted command leads from view to view.
use Rattle.std.proofs.Common.{◌≡◌, ℕ, suc, ◌+◌, ◌-◌, ◌≤◌, cond, not, true, false, List, [], Option, Some, None, refl, sym, ap, ◌∙◌, length, arith}
use Rattle.std.specs.Str.{bytes_eq}
use Rattle.std.specs.Option.{option_map}
use Rattle.std.proofs.lemmas.Slice.Eq.{bytes_eq-Decides}
use Rattle.pid_file.specs.PathTexts.{path_text}
use Rattle.pid_moderation.specs.declared.change.Receipt.{Receipt}
use Rattle.pid_moderation.specs.declared.command.Proposal.{Proposal}
use Rattle.pid_moderation.specs.declared.command.Proposal.TheVariants.{Name, Removal}
use Rattle.pid_moderation.specs.declared.command.Reply.{Reply}
use Rattle.pid_moderation.specs.declared.facts.Facts.{Facts}
use Rattle.pid_moderation.specs.declared.facts.NamedSubmission.{NamedSubmission}
use Rattle.pid_moderation.specs.History.{TooLong, Faulty, Good, Deed, Ranks, Submits, Comments, Withdraws, Approves, Rejects, Imports, Asked, Accepted, More, History, mark_of, accepted_count}
use Rattle.pid_moderation.specs.Items.{Items, name_at, written}
use Rattle.pid_moderation.specs.Views.{Views, Submitted, views_of, without_numbers, submission_at, submits_of, items_of, itemized, carried_out, revision_of, since_of, is_named_anew}
use Rattle.pid_moderation.specs.Changes.{affected, changed, keeping, renumbered, with_pairs, write, edited}
use Rattle.pid_moderation.specs.FactsOfViews.{Wanted, ItemOf, wanted, facts_of, looked_at, named, with_item_facts, with_file, known}
use Rattle.pid_moderation.specs.Effects.{change_of, no_change, effect_of, receipt_of, file_pairs, edit_of, write_of}
use Rattle.pid_moderation.specs.Revisions.{IsMarked}

abbrev pub asks : List ℕ → Option (List ℕ) → Deed → Asked
asks account key deed = record { account = account; key = key; deed = deed }

abbrev pub entry : Asked → Reply → Accepted
entry c reply = record { asked = c; reply = reply }

-- what is seen of a submission
abbrev pub seen : Views → ℕ → Submitted → NamedSubmission
seen v n s = record { author = s.author; path = s.path; proposal = s.proposal; state = v.state n }

proposed_item : (path : List ℕ) (p : Proposal) (present : Option (List ℕ)) (items : Items) → written path p items ≡ edited path (edit_of p present) items
proposed_item path (Name name) None items = refl
proposed_item path (Name name) (Some old) items = refl
proposed_item path Removal present items = refl

-- an approval writes what was submitted
approved_item : (o : Option Submitted) (v : Views) (n : ℕ) (c : Asked) (items : Items) → carried_out o items ≡ write (option_map (write_of (with_item_facts v (option_map (seen v n) o) (known v c.account c.key))) (with_item_facts v (option_map (seen v n) o) (known v c.account c.key)).named) items
approved_item None v n c items = refl
approved_item (Some s) v n c items = proposed_item (path_text s.path) s.proposal (name_at (path_text s.path) v.items) items

-- the parts that are no numbers
others : (h : History) (account : List ℕ) (key : Option (List ℕ)) (deed : Deed) (reply : Reply)
    → without_numbers (views_of (More (entry (asks account key deed) reply) h))
    ≡ without_numbers (changed (change_of (facts_of (views_of h) (asks account key deed)) (asks account key deed) reply) (with_pairs (file_pairs deed) (views_of h)))
others h account None (Approves n e) reply = ap (λ is. record (without_numbers (views_of (More (entry (asks account None (Approves n e)) reply) h))) { items = is }) (approved_item (submission_at n (submits_of h)) (views_of h) n (asks account None (Approves n e)) (items_of h))
others h account (Some key) (Approves n e) reply = ap (λ is. record (without_numbers (views_of (More (entry (asks account (Some key) (Approves n e)) reply) h))) { items = is }) (approved_item (submission_at n (submits_of h)) (views_of h) n (asks account (Some key) (Approves n e)) (items_of h))
others h account None (Imports TooLong) reply = refl
others h account None (Imports (Faulty fault)) reply = refl
others h account None (Imports (Good pairs)) reply = refl
others h account (Some key) (Imports TooLong) reply = refl
others h account (Some key) (Imports (Faulty fault)) reply = refl
others h account (Some key) (Imports (Good pairs)) reply = refl
others h account None deed reply = refl
others h account (Some key) deed reply = refl

-- THE NUMBERS

pub same_text : (t : List ℕ) → bytes_eq t t ≡ true
same_text t = (bytes_eq-Decides t t).1 refl

pub not_anew : (o : Option (List ℕ)) → is_named_anew o o ≡ false
not_anew None = refl
not_anew (Some name) = ap not (same_text name)

same_number : (n : ℕ) (items : Items) (since : List ℕ → ℕ) (q : List ℕ) → renumbered n items items since q ≡ since q
same_number n items since q = ap (λ b. cond b n (since q)) (not_anew (name_at q items))

with_item-revision : (v : Views) (o : Option NamedSubmission) (f : Facts) → (with_item_facts v o f).revision ≡ f.revision
with_item-revision v None f = refl
with_item-revision v (Some s) f = refl

looked_at-revision : (v : Views) (w : Wanted) (f : Facts) → (looked_at v w f).revision ≡ f.revision
looked_at-revision v (ItemOf n) f = with_item-revision v (named v n) f
looked_at-revision v w f = refl

with_file-revision : (items : Items) (deed : Deed) (f : Facts) → (with_file items deed f).revision ≡ f.revision
with_file-revision items (Imports reading) f = refl
with_file-revision items deed f = refl

pub facts_revision : (v : Views) (c : Asked) → (facts_of v c).revision ≡ v.revision
facts_revision v c = with_file-revision v.items c.deed (looked_at v (wanted c.deed) (known v c.account c.key)) ∙ looked_at-revision v (wanted c.deed) (known v c.account c.key)

pub next_number : (m n : ℕ) → m ≤ n → suc n - m ≡ n - m + 1
next_number m n h = omega arith

kept_since : (o : Option Receipt) (v : Views) (q : List ℕ) → (keeping o v).since q ≡ v.since q
kept_since None v q = refl
kept_since (Some r) v q = refl

abbrev facts_for : History → List ℕ → Option (List ℕ) → Deed → Facts
facts_for h account key deed = facts_of (views_of h) (asks account key deed)

since_leads : (h : History) (account : List ℕ) (key : Option (List ℕ)) (deed : Deed) (q : List ℕ)
    → renumbered (revision_of h + 1) (items_of h) (itemized deed (submits_of h) (items_of h)) (λ p. since_of p h) q
    ≡ (affected (revision_of h + 1) (effect_of account (facts_for h account key deed) deed) (with_pairs (file_pairs deed) (views_of h))).since q
since_leads h account key (Ranks who rank) q = refl
since_leads h account key (Submits path proposal note) q = refl
since_leads h account key (Comments n text) q = refl
since_leads h account key (Withdraws n) q = sym (same_number (revision_of h + 1) (items_of h) (with_pairs [] (views_of h)).since q)
since_leads h account key (Rejects n reason) q = sym (same_number (revision_of h + 1) (items_of h) (with_pairs [] (views_of h)).since q)
since_leads h account key (Approves n e) q =
    let f = facts_for h account key (Approves n e) in
    ap (λ is. renumbered (revision_of h + 1) (items_of h) is (λ p. since_of p h) q) (approved_item (submission_at n (submits_of h)) (views_of h) n (asks account key (Approves n e)) (items_of h))
    ∙ ap (λ m. cond (is_named_anew (name_at q (items_of h)) (name_at q (write (option_map (write_of f) f.named) (items_of h)))) (revision_of h + 1) m)
    (sym (same_number (revision_of h + 1) (items_of h) (λ p. since_of p h) q))
since_leads h account key (Imports TooLong) q = refl
since_leads h account key (Imports (Faulty fault)) q = refl
since_leads h account key (Imports (Good pairs)) q = refl

-- views are the same where their numbers and their other parts are
pub alike : (v w : Views) → without_numbers v ≡ without_numbers w → v.revision ≡ w.revision → ((q : List ℕ) → v.since q ≡ w.since q) → v ≡ w
alike v w others revision since = λ i. record {
  rank = (others i).rank;
  submits = (others i).submits;
  state = (others i).state;
  remarks = (others i).remarks;
  items = (others i).items;
  kept = (others i).kept;
  revision = revision i;
  since = λ q. since q i;
}

pub changing : (h : History) (account : List ℕ) (key : Option (List ℕ)) (deed : Deed) (reply : Reply) → IsMarked h
    → views_of (More (entry (asks account key deed) reply) h) ≡ changed (change_of (facts_of (views_of h) (asks account key deed)) (asks account key deed) reply) (with_pairs (file_pairs deed) (views_of h))
changing h account key deed reply marked =
    let f = facts_for h account key deed in
    let pairs = with_pairs (file_pairs deed) (views_of h) in
    let counted : revision_of (More (entry (asks account key deed) reply) h) ≡ revision_of h + 1 = next_number (mark_of h) (accepted_count h) marked in
    let number : revision_of h + 1 ≡ f.revision + 1 = ap (λ n. n + 1) (sym (facts_revision (views_of h) (asks account key deed))) in
    alike (views_of (More (entry (asks account key deed) reply) h)) (changed (change_of f (asks account key deed) reply) pairs) (others h account key deed reply) (counted ∙ number)
    (λ q. ap (λ n. renumbered n (items_of h) (itemized deed (submits_of h) (items_of h)) (λ p. since_of p h) q) counted
    ∙ since_leads h account key deed q
    ∙ ap (λ n. (affected n (effect_of account f deed) pairs).since q) number
    ∙ sym (kept_since (receipt_of account key reply) (affected (f.revision + 1) (effect_of account f deed) pairs) q))

-- what is not accepted changes nothing
pub unchanged : (h : History) (c : Asked) → views_of h ≡ changed (no_change (facts_of (views_of h) c)) (with_pairs [] (views_of h))
unchanged h c =
    alike (views_of h) (changed (no_change (facts_of (views_of h) c)) (with_pairs [] (views_of h))) refl (sym (facts_revision (views_of h) c))
    (λ q. sym (same_number (revision_of h + 1) (items_of h) (λ p. since_of p h) q))
