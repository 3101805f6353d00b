use Rattle.std.proofs.Common.{◌≡◌, false, Option, rules, sym, subst, ◌∙◌}
use Rattle.pid_service.proofs.Words.{affected, Change, changed, HoldsNumbers, HoldsText, Items, KeptText, name_at, Searches, Views}
use Rattle.pid_service.proofs.AccountCounts.{still_accounts}
use Rattle.pid_service.proofs.Keeping.{same_items}
use Rattle.pid_service.proofs.PendingNumbers.{still_pending}
use Rattle.pid_service.proofs.RenewedChanges.{still_changes, kept_items}
use Rattle.pid_service.proofs.ChangedLists.{kept_since, same_changes}
use Rattle.pid_tables.proofs.OfSearches.NumberLists.{still_numbers}
use Rattle.pid_service.proofs.TopItems.{still_top}
use Rattle.pid_service.proofs.kept_views.KeptViews.follow.Goals as goal

still_text : (change : Change) (v : Views) (text : Option KeptText) → HoldsText text (affected change.revision change.effect v).items → HoldsText text (changed change v).items
still_text change v text holds = subst (λ (items : Items). HoldsText text items) (sym (kept_items change.receipt (affected change.revision change.effect v))) holds

pub returns-then-not-writes_items : goal.returns-then-not-writes_items
returns-then-not-writes_items c v views fits right =
    let change = c.args.change.now in
    let numbers : c.replace-kept.result ≡ c.args.self.now.numbers = search rules in
    let off : c.writes_items.result ≡ false = search rules in
    let same : (changed change v).items ≡ v.items = kept_items change.receipt (affected change.revision change.effect v) ∙ c.writes_items.ensures.spares change.revision v off in
    let since : (changed change v).since ≡ v.since = kept_since change.receipt (affected change.revision change.effect v) ∙ c.writes_items.ensures.numbers change.revision v off in
    let items = same_items c.args.self.now.items v.items (changed change v).items same (right.names, right.text) in
    record {
      names = items.0;
      text = items.1;
      top = still_top change v _ (c.follow_top.ensures change.revision v right.top);
      changes = same_changes c.args.self.now.changes v (changed change v) same since right.changes;
      pending = still_pending change v _ (c.follow_pending.ensures change.revision v views fits.0 right.pending);
      numbers = still_numbers change v _ (c.numbers_after.ensures change.revision v fits.0 (subst (λ (n : Searches). HoldsNumbers n v) (sym numbers) right.numbers));
      accounts = still_accounts change v _ (c.accounts_after-self.ensures change.revision v fits.0 right.accounts);
    }

pub returns : goal.returns
returns c v views fits right =
    let change = c.args.change.now in
    let numbers : c.replace-kept.result ≡ c.args.self.now.numbers = search rules in
    record {
      names = c.clear.ensures.agrees (λ path. name_at path (changed change v).items);
      text = still_text change v _ (c.follow_text.ensures change.revision v views right.text);
      top = still_top change v _ (c.follow_top.ensures change.revision v right.top);
      changes = still_changes change v _ (c.changes_after.ensures v views fits.0 right.changes);
      pending = still_pending change v _ (c.follow_pending.ensures change.revision v views fits.0 right.pending);
      numbers = still_numbers change v _ (c.numbers_after.ensures change.revision v fits.0 (subst (λ (n : Searches). HoldsNumbers n v) (sym numbers) right.numbers));
      accounts = still_accounts change v _ (c.accounts_after-self.ensures change.revision v fits.0 right.accounts);
    }
