-- The items stay a tree of names, and not too many.
use Rattle.std.proofs.Common.{◌≡◌, ℕ, ◌+◌, ◌≤◌, zero, suc, Bool, true, false, cond, not, List, [], ◌∷◌, ◌++◌, length, Option, Some, None, refl, arith}
use Rattle.std.specs.Prelude.{T, is_none, is_some, ◌&&◌, nat_le, nat_lt, slice_get}
use Rattle.std.specs.Option.{option_map}
use Rattle.std.specs.Ordering.{eq_by_cmp}
use Rattle.std.specs.Cmp.Lexicographic.{nat_list_cmp_total}
use Rattle.std.specs.declared.cmp.Ordering.{Ordering}
use Rattle.std.specs.declared.cmp.Ordering.TheVariants.{Less, Equal, Greater}
use Rattle.std.specs.FinMap.Entries.{put, where_key, by_order, is_sorted, length-put, length_without}
use Rattle.std.proofs.lemmas.Bool.Decides.{nat_tests}
use Rattle.pid_file.specs.PathTexts.{IsPath, path_text}
use Rattle.pid_file.specs.Trees.{text_cmp}
use Rattle.pid_moderation.specs.declared.command.Expected.{Expected}
use Rattle.pid_moderation.specs.declared.command.Proposal.{Proposal}
use Rattle.pid_moderation.specs.declared.command.Proposal.TheVariants.{Name, Removal}
use Rattle.pid_moderation.specs.History.{TooLong, Faulty, Good, Deed, Submits, Approves, Imports, History}
use Rattle.pid_ident.specs.PathReading.{parent_text}
use Rattle.pid_moderation.specs.Items.{Items, name_at, holds_parent, has_children, written, imported}
use Rattle.pid_moderation.specs.Views.{Views, Submitted, views_of, submits_of, submitted, submission_at, items_of, itemized, carried_out, pairs_of}
use Rattle.pid_moderation.specs.FactsOfViews.{with_item_facts, known}
use Rattle.pid_moderation.specs.CheckTables.{command_checks, lacks_parent, leaves_children, overflows, most_items}
use Rattle.pid_moderation.specs.WellMade.{IsItem, AllItems, HoldsParents, ProposesName, IsWellMade}
use Rattle.pid_moderation.proofs.Changing.{asks, seen}
use Rattle.pid_moderation.proofs.ItemLemmas.{put_keeps, without_keeps, imported_keeps}
use Rattle.pid_moderation.proofs.WriteLemmas.{items_sorted}
use Rattle.pid_moderation.proofs.Knowing.{yes, to_deed, approving}
use Rattle.pid_moderation.proofs.Passing.{AllPass}
use Rattle.pid_moderation.proofs.Reaching.{Stays}

-- PARENTS

abbrev pub IsParented : History → Type 0
IsParented h = HoldsParents (items_of h)

proposed_keeps : (path : List ℕ) (p : Proposal) (items : Items) → HoldsParents items → lacks_parent p (holds_parent (parent_text path) items) ≡ false → leaves_children p (has_children path items) ≡ false → HoldsParents (written path p items)
proposed_keeps path (Name name) items sound parent children = put_keeps path name items sound (yes _ parent)
proposed_keeps path Removal items sound parent children = without_keeps path items sound children

approved_keeps : (o : Option Submitted) (v : Views) (n : ℕ) (e : Expected) (account : List ℕ) (key : Option (List ℕ)) → HoldsParents v.items → AllPass (approving (with_item_facts v (option_map (seen v n) o) (known v account key)) e account) → HoldsParents (carried_out o v.items)
approved_keeps None v n e account key sound h = sound
approved_keeps (Some s) v n e account key sound h = proposed_keeps (path_text s.path) s.proposal v.items sound h.1.1.1.1.1.1.0 h.1.1.1.1.1.1.1.0

parents_stay : (h : History) (account : List ℕ) (key : Option (List ℕ)) (deed : Deed) → IsParented h → IsWellMade (asks account key deed) → AllPass (command_checks (to_deed h account key deed) (asks account key deed)) → HoldsParents (itemized deed (submits_of h) (items_of h))
parents_stay h account key (Approves n e) sound made passed = approved_keeps (submission_at n (submits_of h)) (views_of h) n e account key sound passed
parents_stay h account key (Imports reading) sound made passed = imported_keeps (pairs_of reading) (items_of h) made.2.tree sound
parents_stay h account key deed sound made passed = sound

pub parented_stays : Stays IsParented
parented_stays h account key deed reply made passed old = parents_stay h account key deed old made passed.all

-- NAMES AT PATHS

put_items : (k v : List ℕ) (items : Items) → IsItem k v → AllItems items → AllItems (put text_cmp k v items)
put_items k v [] new old = (new, tt)
put_items k v (e ∷ items) new old = ordered (text_cmp k e.0) (put_items k v items new old.1)
  where
    ordered : (o : Ordering) → AllItems (put text_cmp k v items) → AllItems (by_order o ((k, v) ∷ e ∷ items) ((e.0, v) ∷ items) (e ∷ put text_cmp k v items))
    ordered Less rest = (new, old)
    ordered Equal rest = ((old.0.0, new.1), old.1)
    ordered Greater rest = (old.0, rest)

kept_items : (p : List ℕ → Bool) (items : Items) → AllItems items → AllItems (where_key text_cmp p items)
kept_items p [] old = tt
kept_items p (e ∷ items) old = chosen (p e.0) (kept_items p items old.1)
  where
    chosen : (b : Bool) → AllItems (where_key text_cmp p items) → AllItems (cond b (e ∷ where_key text_cmp p items) (where_key text_cmp p items))
    chosen true rest = (old.0, rest)
    chosen false rest = rest

imported_items : (pairs items : Items) → AllItems pairs → AllItems items → AllItems (imported pairs items)
imported_items [] items new old = old
imported_items (e ∷ pairs) items new old = put_items e.0 e.1 (imported pairs items) new.0 (imported_items pairs items new.1 old)

-- what a submission keeps
abbrev IsGood : Submitted → Type 0
IsGood s = IsPath s.path × ProposesName s.proposal

abbrev AreGood : List Submitted → Type 0
AreGood [] = Unit {0}
AreGood (s ∷ ss) = IsGood s × AreGood ss

more_good : (ss : List Submitted) (s : Submitted) → AreGood ss → IsGood s → AreGood (ss ++ s ∷ [])
more_good [] s old new = (new, tt)
more_good (x ∷ ss) s old new = (old.0, more_good ss s old.1 new)

abbrev IfGood : Option Submitted → Type 0
IfGood None = Unit {0}
IfGood (Some s) = IsGood s

good_get : (n : ℕ) (ss : List Submitted) → AreGood ss → IfGood (slice_get ss n)
good_get n [] good = tt
good_get zero (s ∷ ss) good = good.0
good_get (suc n) (s ∷ ss) good = good_get n ss good.1

good_at : (n : ℕ) (ss : List Submitted) → AreGood ss → IfGood (submission_at n ss)
good_at zero ss good = tt
good_at (suc n) ss good = good_get n ss good

carried_items : (o : Option Submitted) (items : Items) → IfGood o → AllItems items → AllItems (carried_out o items)
carried_items None items good old = old
carried_items (Some s) items good old = by_proposal s.proposal good.1
  where
    by_proposal : (p : Proposal) → ProposesName p → AllItems (written (path_text s.path) p items)
    by_proposal (Name name) named = put_items (path_text s.path) name items ((s.path, record { in_range = good.0; same = refl }), named) old
    by_proposal Removal named = kept_items (λ k. not (eq_by_cmp text_cmp (path_text s.path) k)) items old

pub record IsNamed (h : History) : Type 0 where
  pub submits : AreGood (submits_of h)
  pub items : AllItems (items_of h)

good_submits : (account : List ℕ) (key : Option (List ℕ)) (deed : Deed) (ss : List Submitted) → IsWellMade (asks account key deed) → AreGood ss → AreGood (submitted account deed ss)
good_submits account key (Submits path proposal note) ss made old = more_good ss _ old (made.2.0, made.2.1)
good_submits account key deed ss made old = old

good_items : (account : List ℕ) (key : Option (List ℕ)) (deed : Deed) (ss : List Submitted) (items : Items) → IsWellMade (asks account key deed) → AreGood ss → AllItems items → AllItems (itemized deed ss items)
good_items account key (Approves n e) ss items made good old = carried_items (submission_at n ss) items (good_at n ss good) old
good_items account key (Imports reading) ss items made good old = imported_items (pairs_of reading) items made.2.items old
good_items account key deed ss items made good old = old

pub named_stays : Stays IsNamed
named_stays h account key deed reply made passed old = record { submits = good_submits account key deed (submits_of h) made old.submits; items = good_items account key deed (submits_of h) (items_of h) made old.submits old.items }

-- HOW MANY

abbrev pub IsWithin : History → Type 0
IsWithin h = length (items_of h) ≤ most_items

one_put : (o : Option (List ℕ)) (n : ℕ) → n ≤ most_items → (is_none o && nat_le most_items n) ≡ false → cond (is_some o) n (n + 1) ≤ most_items
one_put None n h f = grind (arith, nat_tests)
one_put (Some x) n h f = h

written_within : (path : List ℕ) (p : Proposal) (items : Items) → T (is_sorted text_cmp items) → length items ≤ most_items → overflows p (name_at path items) (length items) ≡ false → length (written path p items) ≤ most_items
written_within path (Name name) items sorted h f = rw (length-put text_cmp nat_list_cmp_total path name items sorted) (one_put (name_at path items) (length items) h f)
written_within path Removal items sorted h f = let e = length_without text_cmp nat_list_cmp_total path items sorted in omega arith

approved_within : (o : Option Submitted) (v : Views) (n : ℕ) (e : Expected) (account : List ℕ) (key : Option (List ℕ)) → T (is_sorted text_cmp v.items) → length v.items ≤ most_items → AllPass (approving (with_item_facts v (option_map (seen v n) o) (known v account key)) e account) → length (carried_out o v.items) ≤ most_items
approved_within None v n e account key sorted h passed = h
approved_within (Some s) v n e account key sorted h passed = written_within (path_text s.path) s.proposal v.items sorted h passed.1.1.1.1.1.1.1.1.0

not_above : (n : ℕ) → nat_lt most_items n ≡ false → n ≤ most_items
not_above n h = grind (arith, nat_tests)

within_stays : (h : History) (account : List ℕ) (key : Option (List ℕ)) (deed : Deed) → IsWithin h → AllPass (command_checks (to_deed h account key deed) (asks account key deed)) → length (itemized deed (submits_of h) (items_of h)) ≤ most_items
within_stays h account key (Approves n e) old passed = approved_within (submission_at n (submits_of h)) (views_of h) n e account key (items_sorted h) old passed
within_stays h account key (Imports TooLong) old passed = old
within_stays h account key (Imports (Faulty fault)) old passed = old
within_stays h account key (Imports (Good pairs)) old passed = not_above _ passed.1.1.0
within_stays h account key deed old passed = old

pub limit_stays : Stays IsWithin
limit_stays h account key deed reply made passed old = within_stays h account key deed old passed.all
