-- What is kept of all but the items, over a command that writes items alone.
use Rattle.std.proofs.Common.{◌≡◌, ℕ, true, List, Option, Some, None, refl, sym, subst, ◌∙◌}
use Rattle.std.specs.Prelude.{Vec, filter, map}
use Rattle.std.specs.declared.alloc.Global.{Global}
use Rattle.pid_moderation.specs.Judgement.{Refused}
use Rattle.pid_moderation.specs.Views.{Submitted}
use Rattle.pid_tables.specs.declared.searches.numbers.Searches.TheVariants.{Kept}
use Rattle.pid_service.proofs.Words.{Accepts, added, after, AreKeptFor, Asked, asked, Command, decided, filed_as, History, HoldsAccounts, HoldsNumbers, HoldsPending, Imports, is_import, IsRightFor, judge, KeptViews, Lacking, LeavesTheRest, nothing, Outcome, rank_of, ranked, Reading, Repeated, Searches, standings_from, state_of, submits_of, submitted, Unread, Views, views_of, waits_above}
use Rattle.pid_service.proofs.AccountCounts.{same_accounts}
use Rattle.pid_service.proofs.Imported.{import_deed}
use Rattle.pid_service.proofs.Keeping.{no_changes, no_items, no_top}

same_pending : (numbers : Option (Vec ℕ Global)) (v w : Views) → w.submits ≡ v.submits → w.state ≡ v.state → HoldsPending numbers v → HoldsPending numbers w
same_pending None v w submits states holds = tt
same_pending (Some kept) v w submits states holds = holds ∙ sym (λ i. map (λ s. s.0) (filter (waits_above 0) (standings_from 1 (submits i) (states i))))

same_numbers : (numbers : Searches) (v w : Views) → w.submits ≡ v.submits → HoldsNumbers numbers v → HoldsNumbers numbers w
same_numbers Unread v w same holds = tt
same_numbers Lacking v w same holds = tt
same_numbers (Kept kept) v w same holds = subst (λ (s : List Submitted). AreKeptFor kept (map filed_as s)) (sym same) holds

-- nothing is kept of the items, and of the rest what was
pub forgotten : (old new : KeptViews) (v w : Views) → LeavesTheRest v w → IsRightFor old v → new.items ≡ nothing → new.top ≡ None → new.changes ≡ None → new.pending ≡ old.pending → new.numbers ≡ old.numbers → new.accounts ≡ old.accounts → IsRightFor new w
forgotten old new v w leaves right items top changes pending numbers accounts = let none = no_items new.items w.items items in record {
  names = none.0;
  text = none.1;
  top = no_top new.top w top;
  changes = no_changes new.changes w changes;
  pending = subst (λ (n : Option (Vec ℕ Global)). HoldsPending n w) (sym pending) (same_pending old.pending v w leaves.submits leaves.states right.pending);
  numbers = subst (λ (n : Searches). HoldsNumbers n w) (sym numbers) (same_numbers old.numbers v w leaves.submits right.numbers);
  accounts = subst (λ (n : Option ℕ). HoldsAccounts n w) (sym accounts) (same_accounts old.accounts v w leaves.ranks right.accounts);
}

pub all_left : (v : Views) → LeavesTheRest v v
all_left v = record { submits = refl; states = refl; ranks = refl }

-- an import writes items alone

added_leaves : (h : History) (c : Asked) (reading : Reading) (o : Outcome) → Imports reading ≡ c.deed → LeavesTheRest (views_of h) (views_of (added h c o))
added_leaves h c reading (Refused r) is = all_left (views_of h)
added_leaves h c reading (Repeated r) is = all_left (views_of h)
added_leaves h c reading (Accepts r) is = let deed : c.deed ≡ Imports reading = sym is in record {
  submits = λ i. submitted c.account (deed i) (submits_of h);
  states = λ i n. decided n c.account (deed i) (state_of n h);
  ranks = λ i a. ranked a (deed i) (rank_of a h);
}

pub import_leaves : (h : History) (command : Command) (reading : Reading) → is_import command.act ≡ true → LeavesTheRest (views_of h) (views_of (after h (asked command reading)))
import_leaves h command reading import = added_leaves h (asked command reading) reading (judge (views_of h) (asked command reading)) (import_deed command.act reading import)
