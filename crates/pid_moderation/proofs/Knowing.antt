-- Accounts stay, and who was obeyed is one.
use Rattle.std.proofs.Common.{◌≡◌, ℕ, Bool, true, false, cond, not, List, ◌∷◌, Option, Some, None, refl, sym, subst}
use Rattle.std.specs.Prelude.{is_none, is_some, codes}
use Rattle.std.specs.Str.{bytes_eq}
use Rattle.std.specs.Option.{option_map}
use Rattle.std.proofs.lemmas.Slice.Eq.{bytes_eq-Decides}
use Rattle.pid_file.specs.Words.{is_account}
use Rattle.pid_moderation.specs.declared.command.Expected.{Expected}
use Rattle.pid_moderation.specs.declared.command.Reply.{Reply}
use Rattle.pid_moderation.specs.declared.facts.Facts.{Facts}
use Rattle.pid_moderation.specs.declared.rank.Rank.{Rank}
use Rattle.pid_moderation.specs.declared.rank.Rank.TheVariants.{Administrator}
use Rattle.pid_moderation.specs.declared.refusal.Refusal.TheVariants.{NoAccount}
use Rattle.pid_moderation.specs.History.{Deed, Ranks, Submits, Comments, Withdraws, Approves, Rejects, Imports, Asked, Begins, More, History}
use Rattle.pid_moderation.specs.Views.{Submitted, views_of, rank_of, ranked, submits_of, submission_at}
use Rattle.pid_moderation.specs.FactsOfViews.{facts_of, with_item_facts, known}
use Rattle.pid_moderation.specs.CheckTables.{Checks, command_checks, if_named, approval_checks}
use Rattle.pid_moderation.specs.Ranks.{has_rank}
use Rattle.pid_moderation.specs.Sound.{IsRegistered}
use Rattle.pid_moderation.specs.WellMade.{IsWellMade}
use Rattle.pid_moderation.proofs.Changing.{asks, entry, seen}
use Rattle.pid_moderation.proofs.Passing.{AllPass}
use Rattle.pid_moderation.proofs.Reaching.{Stays}

pub yes : (b : Bool) → not b ≡ false → b ≡ true
yes true h = refl
yes false h = absurd cc

pub same_text : (t : List ℕ) → bytes_eq t t ≡ true
same_text t = (bytes_eq-Decides t t).1 refl

abbrev pub to_deed : History → List ℕ → Option (List ℕ) → Deed → Facts
to_deed h account key deed = facts_of (views_of h) (asks account key deed)

abbrev pub approving : Facts → Expected → List ℕ → Checks
approving f e account = (is_none f.rank, NoAccount) ∷ if_named f.named (approval_checks account f e)

there : (o : Option Rank) → is_none o ≡ false → is_some o ≡ true
there None h = absurd cc
there (Some r) h = refl

approver_known : (o : Option Submitted) (h : History) (n : ℕ) (e : Expected) (account : List ℕ) (key : Option (List ℕ)) → AllPass (approving (with_item_facts (views_of h) (option_map (seen (views_of h) n) o) (known (views_of h) account key)) e account) → IsRegistered account h
approver_known None h n e account key passed = there _ passed.0
approver_known (Some s) h n e account key passed = there _ passed.0

-- whoever was obeyed is an account
pub caller_known : (h : History) (account : List ℕ) (key : Option (List ℕ)) (deed : Deed) → AllPass (command_checks (to_deed h account key deed) (asks account key deed)) → IsRegistered account h
caller_known h account key (Ranks who rank) passed = there _ passed.0
caller_known h account key (Submits path proposal note) passed = there _ passed.0
caller_known h account key (Comments n text) passed = there _ passed.0
caller_known h account key (Withdraws n) passed = there _ passed.0
caller_known h account key (Approves n e) passed = approver_known (submission_at n (submits_of h)) h n e account key passed
caller_known h account key (Rejects n reason) passed = there _ passed.0
caller_known h account key (Imports reading) passed = there _ passed.0

still_there : (b : Bool) (rank : Rank) (o : Option Rank) → is_some o ≡ true → is_some (cond b (Some rank) o) ≡ true
still_there true rank o h = refl
still_there false rank o h = h

rank_stays : (a : List ℕ) (deed : Deed) (o : Option Rank) → is_some o ≡ true → is_some (ranked a deed o) ≡ true
rank_stays a (Ranks who rank) o h = still_there (bytes_eq a who) rank o h
rank_stays a deed o h = h

pub known_stays : (h : History) (account : List ℕ) (key : Option (List ℕ)) (deed : Deed) (reply : Reply) (a : List ℕ) → IsRegistered a h → IsRegistered a (More (entry (asks account key deed) reply) h)
known_stays h account key deed reply a old = rank_stays a deed (rank_of a h) old

-- each account has the name of one

abbrev pub AreAccounts : History → Type 0
AreAccounts h = (a : List ℕ) → IsRegistered a h → is_account a ≡ true

account_there : (a who : List ℕ) (rank : Rank) (o : Option Rank) → is_account who ≡ true → (is_some o ≡ true → is_account a ≡ true) → is_some (cond (bytes_eq a who) (Some rank) o) ≡ true → is_account a ≡ true
account_there a who rank o made old h = chosen (bytes_eq a who) refl h
  where
    chosen : (b : Bool) → bytes_eq a who ≡ b → is_some (cond b (Some rank) o) ≡ true → is_account a ≡ true
    chosen true e h = subst (λ (t : List ℕ). is_account t ≡ true) (sym ((bytes_eq-Decides a who).0 e)) made
    chosen false e h = old h

ranked_account : (a : List ℕ) (c : Asked) (account : List ℕ) (key : Option (List ℕ)) (deed : Deed) (o : Option Rank) → IsWellMade (asks account key deed) → (is_some o ≡ true → is_account a ≡ true) → is_some (ranked a deed o) ≡ true → is_account a ≡ true
ranked_account a c account key (Ranks who rank) o made old h = account_there a who rank o made.2 old h
ranked_account a c account key deed o made old h = old h

pub accounts_stay : Stays AreAccounts
accounts_stay h account key deed reply made passed old = λ a known. ranked_account a (asks account key deed) account key deed (rank_of a h) made (old a) known

pub first_account : (mark : ℕ) → AreAccounts (Begins mark)
first_account mark = λ a known. account_there a (codes "root") Administrator None refl (λ h. absurd cc) known

-- root

abbrev pub RootThere : History → Type 0
RootThere h = IsRegistered (codes "root") h

pub root_stays : Stays RootThere
root_stays h account key deed reply made passed old = known_stays h account key deed reply (codes "root") old

-- an administrator

abbrev pub HasAdministrator : History → Type 0
HasAdministrator h = (a : List ℕ) × (has_rank Administrator (rank_of a h) ≡ true)

still_reached : (b : Bool) (rank : Rank) (o : Option Rank) → b ≡ false → has_rank Administrator o ≡ true → has_rank Administrator (cond b (Some rank) o) ≡ true
still_reached true rank o e h = absurd cc
still_reached false rank o e h = h

-- whoever ranks others keeps his own rank
one_stays : (h : History) (account : List ℕ) (key : Option (List ℕ)) (deed : Deed) → HasAdministrator h → AllPass (command_checks (to_deed h account key deed) (asks account key deed)) → (a : List ℕ) × (has_rank Administrator (ranked a deed (rank_of a h)) ≡ true)
one_stays h account key (Ranks who rank) old passed = (account, still_reached (bytes_eq account who) rank (rank_of account h) passed.1.1.0 (yes _ passed.1.0))
one_stays h account key deed old passed = old

pub administrator_stays : Stays HasAdministrator
administrator_stays h account key deed reply made passed old = one_stays h account key deed old passed.all
