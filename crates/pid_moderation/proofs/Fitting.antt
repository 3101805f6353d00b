-- The numbers of a change are those of the views that it is done to.
use Rattle.std.proofs.Common.{◌≡◌, ℕ, ◌+◌, ◌-◌, true, false, cond, not, List, length, Option, Some, None, refl, sym, ap, subst, ◌∙◌, arith}
use Rattle.std.specs.Prelude.{T, is_none, is_some, Result, Ok, Err, IfOk}
use Rattle.std.specs.Option.{option_map}
use Rattle.std.specs.Ordering.{eq_by_cmp}
use Rattle.std.specs.Cmp.Lexicographic.{nat_list_cmp_total}
use Rattle.std.specs.FinMap.Entries.{put, where_key, is_sorted, length-put, length_without}
use Rattle.pid_file.specs.PathTexts.{path_text}
use Rattle.pid_file.specs.Trees.{text_cmp}
use Rattle.pid_moderation.specs.declared.command.Expected.{Expected}
use Rattle.pid_moderation.specs.declared.command.Proposal.{Proposal}
use Rattle.pid_moderation.specs.declared.command.Proposal.TheVariants.{Name, Removal}
use Rattle.pid_moderation.specs.declared.command.Reply.{Reply}
use Rattle.pid_moderation.specs.declared.change.Change.{Change}
use Rattle.pid_moderation.specs.declared.facts.Facts.{Facts}
use Rattle.pid_moderation.specs.declared.rank.Rank.{Rank}
use Rattle.pid_moderation.specs.declared.refusal.Refusal.{Refusal}
use Rattle.pid_moderation.specs.History.{TooLong, Faulty, Good, Deed, Ranks, Submits, Comments, Withdraws, Approves, Rejects, Imports, Asked, History}
use Rattle.pid_moderation.specs.Items.{Items, name_at, has_name}
use Rattle.pid_moderation.specs.Views.{Views, Submitted, views_of, rank_of, submits_of, submission_at}
use Rattle.pid_moderation.specs.FactsOfViews.{facts_of, with_item_facts, known, kept_in}
use Rattle.pid_moderation.specs.CheckTables.{command_checks, if_named, comment_checks, decision_checks, withdraw_checks, is_so}
use Rattle.pid_moderation.specs.Changes.{with_pairs, FitsWrite, FitsEffect, FitsReceipt, FitsViews, IsThere}
use Rattle.pid_moderation.specs.Judgement.{Outcome, Refused, Repeated, Accepts, judge, judged}
use Rattle.pid_moderation.specs.Effects.{edit_of, items_after, write_of, effect_of, receipt_of, change_by, file_pairs, new_pairs, Decides}
use Rattle.pid_moderation.proofs.Changing.{asks, seen}
use Rattle.pid_moderation.proofs.WriteLemmas.{items_sorted}
use Rattle.pid_moderation.proofs.Knowing.{to_deed, approving}
use Rattle.pid_moderation.proofs.Passing.{AllPass, Passes, accepted_passes}
use Rattle.pid_moderation.proofs.ReceiptsStay.{facts-kept}

named_there : (o : Option (List ℕ)) → is_none o ≡ false → is_some o ≡ true
named_there None h = absurd cc
named_there (Some x) h = refl

put_count : (path name : List ℕ) (items : Items) (o : Option (List ℕ)) → name_at path items ≡ o → T (is_sorted text_cmp items) → cond (is_some o) (length items) (length items + 1) ≡ length (put text_cmp path name items)
put_count path name items o e sorted = sym (length-put text_cmp nat_list_cmp_total path name items sorted ∙ ap (λ (p : Option (List ℕ)). cond (is_some p) (length items) (length items + 1)) e)

removed_count : (path : List ℕ) (items : Items) → is_some (name_at path items) ≡ true → T (is_sorted text_cmp items) → length items - 1 ≡ length (where_key text_cmp (λ k. not (eq_by_cmp text_cmp path k)) items)
removed_count path items there sorted =
    let e : cond (is_some (name_at path items)) 1 0 + length (where_key text_cmp (λ k. not (eq_by_cmp text_cmp path k)) items) ≡ length items = length_without text_cmp nat_list_cmp_total path items sorted in
    let one : cond (is_some (name_at path items)) 1 0 ≡ 1 = ap (λ b. cond b 1 0) there in
    less _ _ _ one e
  where
    less : (c m n : ℕ) → c ≡ 1 → c + m ≡ n → n - 1 ≡ m
    less c m n h k = omega arith

written_fits : (p : Submitted) (proposal : Proposal) (items : Items) (o : Option (List ℕ)) → name_at (path_text p.path) items ≡ o → T (is_sorted text_cmp items) → is_so proposal o ≡ false → FitsWrite (Some (record { path = p.path; edit = edit_of proposal o; items = items_after (edit_of proposal o) (length items) })) items
written_fits p (Name name) items None e sorted h = (put_count (path_text p.path) name items None e sorted, ap is_none e)
written_fits p (Name name) items (Some old) e sorted h = (put_count (path_text p.path) name items (Some old) e sorted, (ap is_some e, ap (has_name name) e ∙ h))
written_fits p Removal items o e sorted h =
    let there : is_some (name_at (path_text p.path) items) ≡ true = ap is_some e ∙ named_there o h in
    (removed_count (path_text p.path) items there sorted, there)

approval_fits : (o : Option Submitted) (v : Views) (n : ℕ) (e : Expected) (account : List ℕ) (key : Option (List ℕ)) → T (is_sorted text_cmp v.items) → AllPass (approving (with_item_facts v (option_map (seen v n) o) (known v account key)) e account) → IsThere o × FitsWrite (option_map (write_of (with_item_facts v (option_map (seen v n) o) (known v account key))) (with_item_facts v (option_map (seen v n) o) (known v account key)).named) v.items
approval_fits None v n e account key sorted passed = let bad = passed.1.0 in absurd cc
approval_fits (Some s) v n e account key sorted passed = (refl, written_fits s s.proposal v.items (name_at (path_text s.path) v.items) refl sorted passed.1.1.1.1.1.0)

comment_fits : (o : Option Submitted) (v : Views) (n : ℕ) (f : Facts) → AllPass (if_named (option_map (seen v n) o) (comment_checks f)) → IsThere o
comment_fits None v n f passed = let bad = passed.0 in absurd cc
comment_fits (Some s) v n f passed = refl

withdrawal_fits : (o : Option Submitted) (v : Views) (n : ℕ) (account : List ℕ) → AllPass (if_named (option_map (seen v n) o) (withdraw_checks account)) → IsThere o
withdrawal_fits None v n account passed = let bad = passed.0 in absurd cc
withdrawal_fits (Some s) v n account passed = refl

rejection_fits : (o : Option Submitted) (v : Views) (n : ℕ) (account : List ℕ) (rank : Option Rank) → AllPass (if_named (option_map (seen v n) o) (decision_checks account rank)) → IsThere o
rejection_fits None v n account rank passed = let bad = passed.0 in absurd cc
rejection_fits (Some s) v n account rank passed = refl

effect_fits : (h : History) (account : List ℕ) (key : Option (List ℕ)) (deed : Deed) → AllPass (command_checks (to_deed h account key deed) (asks account key deed)) → FitsEffect (effect_of account (to_deed h account key deed) deed) (with_pairs (file_pairs deed) (views_of h))
effect_fits h account key (Ranks who rank) passed = refl
effect_fits h account key (Submits path proposal note) passed = refl
effect_fits h account key (Comments n text) passed = (comment_fits (submission_at n (submits_of h)) (views_of h) n (to_deed h account key (Comments n text)) passed.1, refl)
effect_fits h account key (Withdraws n) passed = (withdrawal_fits (submission_at n (submits_of h)) (views_of h) n account passed.1, tt)
effect_fits h account key (Approves n e) passed = approval_fits (submission_at n (submits_of h)) (views_of h) n e account key (items_sorted h) passed
effect_fits h account key (Rejects n reason) passed = (rejection_fits (submission_at n (submits_of h)) (views_of h) n account (rank_of account h) passed.1, tt)
effect_fits h account key (Imports TooLong) passed = tt
effect_fits h account key (Imports (Faulty fault)) passed = tt
effect_fits h account key (Imports (Good pairs)) passed = refl

receipt_fits : (v : Views) (items : Items) (account : List ℕ) (key : Option (List ℕ)) (reply : Reply) → kept_in v account key ≡ None → FitsReceipt (receipt_of account key reply) (with_pairs items v)
receipt_fits v items account None reply new = tt
receipt_fits v items account (Some key) reply new = new

outcome_fits : (h : History) (c : Asked) (o : Outcome) → judge (views_of h) c ≡ o → FitsViews (change_by (facts_of (views_of h) c) c o) (with_pairs (new_pairs o c.deed) (views_of h))
outcome_fits h c (Refused e) is = (tt, tt)
outcome_fits h c (Repeated reply) is = (tt, tt)
outcome_fits h c (Accepts reply) is =
    let passed : Passes (facts_of (views_of h) c) c reply = accepted_passes (facts_of (views_of h) c) c reply is in
    (effect_fits h c.account c.key c.deed passed.all, receipt_fits (views_of h) (file_pairs c.deed) c.account c.key reply (sym (facts-kept (views_of h) c) ∙ passed.not_kept))

pub fitting : (f : Facts) (c : Asked) (result : Result (Change × Reply) Refusal) → Decides f c result → (h : History) → f ≡ facts_of (views_of h) c → IfOk result (λ d. FitsViews d.0 (with_pairs (new_pairs (judge (views_of h) c) c.deed) (views_of h)))
fitting f c (Ok d) h hist e =
    let same : d.0 ≡ change_by (facts_of (views_of hist) c) c (judge (views_of hist) c) = h.1 ∙ ap (λ (g : Facts). change_by g c (judged g c)) e in
    subst (λ (change : Change). FitsViews change (with_pairs (new_pairs (judge (views_of hist) c) c.deed) (views_of hist))) (sym same) (outcome_fits hist c (judge (views_of hist) c) refl)
fitting f c (Err r) h hist e = tt
