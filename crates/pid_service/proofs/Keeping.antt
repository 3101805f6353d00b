-- What is kept in memory, beside the views that it is right about.
use Rattle.std.proofs.Common.{◌≡◌, ℕ, Bool, true, false, Option, None, Result, Ok, Err, rules, sym, subst, ◌∙◌}
use Rattle.std.specs.Prelude.{Vec}
use Rattle.std.specs.declared.alloc.Global.{Global}
use Rattle.pid_service.proofs.Words.{Agrees, HoldsAccounts, HoldsChanges, HoldsNumbers, HoldsPending, HoldsText, HoldsTop, IsRightFor, Item, Items, KeepsNothing, KeptChanges, KeptItems, KeptViews, name_at, nothing, Searches, Views}

-- what is true is not false
pub true_not : {X : Type 0} (b : Bool) → b ≡ true → b ≡ false → X
true_not b on off = absurd (let both : true ≡ false = sym on ∙ off in let no : ⊥ = cc in no)

pub ok_not : {X E Z : Type 0} (x : X) (e : E) → ◌≡◌ {A = Result X E} (Ok x) (Err e) → Z
ok_not x e is = absurd (let no : ⊥ = cc in no)

-- what is kept of the items is right about them
abbrev pub ItemsRight : KeptItems → Items → Type 0
ItemsRight k items = Agrees k.names (λ path. name_at path items) × HoldsText k.text items

-- nothing is right about any items
pub no_items : (k : KeptItems) (items : Items) → k ≡ nothing → ItemsRight k items
no_items k items none = subst (λ (n : KeptItems). ItemsRight n items) (sym none) (record { known = λ entry there. absurd (let no : ⊥ = search rules in no) }, tt)

no_numbers : (numbers : Option (Vec ℕ Global)) (v : Views) → numbers ≡ None → HoldsPending numbers v
no_numbers numbers v none = subst (λ (n : Option (Vec ℕ Global)). HoldsPending n v) (sym none) tt

pub no_top : (top : Option (Vec Item Global)) (v : Views) → top ≡ None → HoldsTop top v
no_top top v none = subst (λ (t : Option (Vec Item Global)). HoldsTop t v) (sym none) tt

pub no_changes : (changes : Option KeptChanges) (v : Views) → changes ≡ None → HoldsChanges changes v
no_changes changes v none = subst (λ (c : Option KeptChanges). HoldsChanges c v) (sym none) tt

no_accounts : (accounts : Option ℕ) (v : Views) → accounts ≡ None → HoldsAccounts accounts v
no_accounts accounts v none = subst (λ (a : Option ℕ). HoldsAccounts a v) (sym none) tt

-- nothing is right about any views
pub nothing_kept : (k : KeptViews) (v : Views) → KeepsNothing k → IsRightFor k v
nothing_kept k v none = let items = no_items k.items v.items none.items in record { names = items.0; text = items.1; top = no_top k.top v none.top; changes = no_changes k.changes v none.changes; pending = no_numbers k.pending v none.pending; numbers = subst (λ (n : Searches). HoldsNumbers n v) (sym none.numbers) tt; accounts = no_accounts k.accounts v none.accounts }

-- what is right about the items stays so while they are the same
pub same_items : (k : KeptItems) (old new : Items) → new ≡ old → ItemsRight k old → ItemsRight k new
same_items k old new same right = subst (λ (items : Items). ItemsRight k items) (sym same) right
