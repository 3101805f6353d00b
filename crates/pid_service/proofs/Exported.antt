-- What a registry exports, by what its tables did.
use Rattle.std.proofs.Common.{◌≡◌, ℕ, Bool, true, List, Option, Some, Result, Ok, Err, sym, ap, subst, ◌∙◌}
use Rattle.std.specs.Io.KnownBytes.{Appends}
use Rattle.std.specs.Prelude.{Vec}
use Rattle.std.specs.declared.alloc.Global.{Global}
use Rattle.pid_tables.specs.declared.lists.walk.EachEnd.TheVariants as ends
use Rattle.pid_service_laws.specs.declared.faults.ExportFault.TheVariants.{Refused, Write}
use Rattle.pid_service.specs.Histories.{IsMemoryOrStore}
use Rattle.pid_service.specs.Registries.{HasCleanDisk, OnlyReads}
use Rattle.pid_service.proofs.Words.{Agrees, EachEnd, Entries, ExportFault, ExportsTree, Ghosts, History, HoldsAccounts, HoldsChanges, HoldsNumbers, HoldsPending, HoldsText, HoldsTop, is_live, IsCausedAs, IsCausedEnd, IsToldAs, Item, items_of, kept_by, kept_views, KeptChanges, KeptText, MayGive, name_at, print, Refusal, refusal_for, Registry, Searches, SendsFront, Shows, text_of_items, tree_of, views_of, WriteFault, WritesItems}
use Rattle.pid_service.proofs.Causes.{caused_as}
use Rattle.pid_service.proofs.Keeping.{true_not}

pub whole_tree : (old new : Option (List ℕ)) (h : History) → text_of_items (items_of h) ≡ print (tree_of h) → WritesItems {X = Unit {0}} (Ok tt) old new (items_of h) → ExportsTree {X = Unit {0}} (Ok tt) old new h
whole_tree old new h same all = subst (λ (text : List ℕ). Appends old new text) same all

pub told_tree : (end : EachEnd WriteFault) (told : ExportFault) (old new : Option (List ℕ)) (h : History) → text_of_items (items_of h) ≡ print (tree_of h) → IsToldAs end told → WritesItems {X = Unit {0}} (Err end) old new (items_of h)
    → ExportsTree {X = Unit {0}} (Err told) old new h
told_tree (ends.Tables fault) told old new h same (e, is, bad, of) lines = subst (λ (x : ExportFault). ExportsTree {X = Unit {0}} (Err x) old new h) (sym is) (bad, lines)
told_tree (ends.Fault fault) told old new h same is front = subst (λ (x : ExportFault). ExportsTree {X = Unit {0}} (Err x) old new h) (sym is) (subst (λ (text : List ℕ). SendsFront old new text) same front)

refuses : (e f : Refusal) → Refused e ≡ Refused f → e ≡ f
refuses e f is = cc

pub write_not : {Z : Type 0} (f : WriteFault) (e : Refusal) → ◌≡◌ {A = Result (Unit {0}) ExportFault} (Err (Write f)) (Err (Refused e)) → Z
write_not f e is = absurd (let no : ⊥ = cc in no)

pub same_write : (f told : WriteFault) → ◌≡◌ {A = Result (Unit {0}) ExportFault} (Err (Write f)) (Err (Write told)) → f ≡ told
same_write f told is = cc

-- a fault of the tables has its cause
pub told_cause : {S : Type 0} (database : Ghosts S) (old new : S) (end : EachEnd WriteFault) (told : ExportFault) (e : Refusal) → IsToldAs end told → told ≡ Refused e
    → IsCausedEnd database.state old new end → IsCausedAs database.state old new e
told_cause database old new (ends.Tables fault) told e (x, is, bad, of) asked caused =
    let same : e ≡ refusal_for fault = refuses e x (sym asked ∙ is) ∙ of in
    subst (λ (y : Refusal). IsCausedAs database.state old new y) (sym same) (caused_as database old new fault caused)
told_cause database old new (ends.Fault fault) told e is asked caused = absurd (let other = sym asked ∙ is in let no : ⊥ = cc in no)

-- what a live registry may give
pub told_gives : (end : EachEnd WriteFault) (told : ExportFault) (e : Refusal) (live : Bool) → live ≡ true → IsToldAs end told → told ≡ Refused e → MayGive live e
told_gives (ends.Tables fault) told e live on (x, is, bad, of) asked =
    let same : x ≡ e = refuses x e (sym is ∙ asked) in
    record { alive = λ still. subst IsMemoryOrStore same bad; failed = true_not live on }
told_gives (ends.Fault fault) told e live on is asked = absurd (let other = sym asked ∙ is in let no : ⊥ = cc in no)

-- a fault of the writer is the one that the walk met
pub told_writes : {X : Type 0} (r : Result X ExportFault) (end : EachEnd WriteFault) (told : ExportFault) (f : WriteFault) → r ≡ Err told → r ≡ Err (Write f) → IsToldAs end told → end ≡ ends.Fault f
told_writes r (ends.Tables fault) told f is asked (e, was, bad, of) = absurd (let both = sym is ∙ asked in let no : ⊥ = cc in no)
told_writes r (ends.Fault fault) told f is asked was = let both = sym is ∙ asked in let same : fault ≡ f = cc in ap ends.Fault same

pub told_by : {X : Type 0} (r : Result X ExportFault) (told : ExportFault) (e : Refusal) → r ≡ Err told → r ≡ Err (Refused e) → told ≡ Refused e
told_by r told e is asked = let same = sym is ∙ asked in cc

module _ {S : Type 0} (database : Ghosts S) where
  -- a text that is kept is that of the tree
  pub text_told : (r : Registry S database) (h : History) (text : KeptText) → (kept_by r).text ≡ Some text → HasCleanDisk database r → Shows database r h → text_of_items (items_of h) ≡ print (tree_of h) → text.bytes.items ≡ print (tree_of h)
  text_told r h text is clean shows same = (subst (λ (t : Option KeptText). HoldsText t (items_of h)) is (shows.kept clean).text).text ∙ same

  -- a registry that has read keeps a text that is right, and shows what it did
  pub text_kept : (old new : Registry S database) (h : History) → Shows database old h → is_live new ≡ is_live old → (kept_by new).names ≡ (kept_by old).names → (kept_views new).top ≡ (kept_views old).top → (kept_views new).changes ≡ (kept_views old).changes → (kept_views new).pending ≡ (kept_views old).pending → (kept_views new).numbers ≡ (kept_views old).numbers → (kept_views new).accounts ≡ (kept_views old).accounts → OnlyReads database old new
      → HoldsText (kept_by new).text (items_of h) → Shows database new h
  text_kept old new h shows same names tops changes waiting numbers many reads text = record {
    lives = same ∙ shows.lives;
    history = shows.history;
    tables = reads.kept (views_of h) shows.tables;
    kept = λ clean. record { names = subst (λ (n : Entries). Agrees n (λ path. name_at path (items_of h))) (sym names) (shows.kept (reads.clean clean)).names; text = text; top = subst (λ (t : Option (Vec Item Global)). HoldsTop t (views_of h)) (sym tops) (shows.kept (reads.clean clean)).top; changes = subst (λ (c : Option KeptChanges). HoldsChanges c (views_of h)) (sym changes) (shows.kept (reads.clean clean)).changes; pending = subst (λ (n : Option (Vec ℕ Global)). HoldsPending n (views_of h)) (sym waiting) (shows.kept (reads.clean clean)).pending; numbers = subst (λ (n : Searches). HoldsNumbers n (views_of h)) (sym numbers) (shows.kept (reads.clean clean)).numbers; accounts = subst (λ (n : Option ℕ). HoldsAccounts n (views_of h)) (sym many) (shows.kept (reads.clean clean)).accounts };
  }
