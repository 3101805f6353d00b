-- What every history that commands lead to keeps.
use Rattle.std.proofs.Common.{◌≡◌, ◌≤◌, length, arith, ap, sym, subst}
use Rattle.pid_file.specs.Printing.{print}
use Rattle.pid_moderation.proofs.RevisionLemmas.{all_within, marked_stays, within}
use Rattle.pid_moderation.proofs.Soundness.{histories_sound}
use Rattle.pid_moderation.proofs.TreesAreFiles.{tree_file}
use Rattle.pid_moderation.proofs.WriteLemmas.{tree_entries}
use Rattle.pid_moderation.specs.ChangePages.{AreHeld}
use Rattle.pid_moderation.specs.CheckTables.{most_items}
use Rattle.pid_moderation.specs.WellMade.{AllItems, HoldsParents}
use Rattle.pid_tables.proofs.OfRows.SoundReads.{sound_reads}
use Rattle.pid_tables.proofs.SoundLemmas.{are_views}
use Rattle.pid_tables.specs.Rows.Shows.{AreViews}
use Rattle.pid_service.proofs.Leading.{leads_on}
use Rattle.pid_service.proofs.Words.{after, Asked, Begins, History, IsReached, IsReadable, IsSound, IsWellMade, items_of, most_revision, revision_of, text_of_items, tree_of, views_of}

pub reached_sound : (h : History) → IsReached h → IsSound h
reached_sound h r = subst IsSound (sym r.reached) (histories_sound r.mark r.commands r.made)

pub reached_within : (h : History) → IsReached h → revision_of h ≤ most_revision
reached_within h r = subst (λ g. revision_of g ≤ most_revision) (sym r.reached) (all_within (Begins r.mark) r.commands (omega arith))

pub reached_held : (h : History) → IsReached h → AreHeld (views_of h)
reached_held h r path = let limit = reached_within h r in let last = within h path in omega (arith, limit, last)

pub reached_views : (h : History) → IsReached h → AreViews (views_of h)
reached_views h r = are_views h (reached_sound h r) (tree_entries h)

pub reached_readable : (h : History) → IsReached h → IsReadable (views_of h)
reached_readable h r = sound_reads tree_file h (tree_entries h) (reached_sound h r)

pub reached_items : (h : History) → IsReached h → AllItems (items_of h) × HoldsParents (items_of h)
reached_items h r =
    let sound = reached_sound h r in
    let is = tree_entries h in
    let file = tree_file (tree_of h) sound.tree (subst (λ items. length items ≤ most_items) (sym is) sound.item_limit) in
    (subst AllItems is file.items, subst HoldsParents is file.tree)

-- one command more leads on
pub reached_after : (h : History) (c : Asked) → IsReached h → IsWellMade c → IsReached (after h c)
reached_after = leads_on marked_stays

-- the text of its items is that of its tree
pub reached_text : (h : History) → text_of_items (items_of h) ≡ print (tree_of h)
reached_text h = ap text_of_items (sym (tree_entries h))
