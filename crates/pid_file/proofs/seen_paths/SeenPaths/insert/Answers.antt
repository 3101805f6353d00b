use Rattle.std.proofs.Common.{◌≡◌, not, sym, ap, subst, ◌∙◌}
use mathlib.Core.Logic.{⊎_elim}
use Rattle.std.specs.Ordering.{nat_cmp}
use Rattle.pid_file.specs.PathTexts.{IsPath}
use Rattle.pid_file.specs.Steps.PathPlaces.{path_key}
use Rattle.pid_file.specs.SeenItems.{has_item, seen_items}
use Rattle.pid_file.specs.Steps.SeenPaths.{IsOneMore}
use Rattle.pid_file.specs.SeenPaths.{has_seen}
use Rattle.pid_file.specs.Steps.SeenPaths.{with_path}
use Rattle.pid_file.proofs.SeenMore.{if_ok, vendor_more, class_more, generic_more, below_more, nested_seen, part_of}
use Rattle.pid_file.proofs.seen_paths.SeenPaths.insert.Goals as goal

pub returns-in-Vendor : goal.returns-in-Vendor
returns-in-Vendor c =
    let old = c.args.self.now in
    let range = subst IsPath c.in-Vendor.is c.key_of-key.ensures.in_range in
    record {
      in_range = c.key_of-key.ensures.in_range;
      rising = λ up. record { others = up.others; below = c.clear.ensures.rising };
      added = λ up. rw c.in-Vendor.is c.set_flag.ensures.added;
      updates = λ up. if_ok c.set_flag.result (λ added h yes q r. subst (λ p. has_seen (record { vendors = c.set_flag.new.flags; others = old.others; below = c.clear.new.self }) q ≡ with_path (has_seen old) p q) (sym c.in-Vendor.is) (vendor_more old.vendors.items c.set_flag.new.flags.items (seen_items old.others) (seen_items old.below) (seen_items c.clear.new.self) c.in-Vendor.vendor range c.clear.ensures.empty (h yes) q r)) c.set_flag.ensures.updates;
    }

pub returns-in-Class : goal.returns-in-Class
returns-in-Class c =
    let old = c.args.self.now in
    let range = subst IsPath c.in-Class.is c.key_of-key.ensures.in_range in
    record {
      in_range = c.key_of-key.ensures.in_range;
      rising = λ up. record { others = c.insert.ensures.rising up.others; below = c.clear-in-Class.ensures.rising };
      added = λ up. if_ok c.insert.result (λ added h. h ∙ ap (λ k. not (has_item nat_cmp (seen_items old.others) k)) (c.key_of-key.ensures.is ∙ ap path_key c.in-Class.is) ∙ sym (ap (λ p. not (has_seen old p)) c.in-Class.is)) (c.insert.ensures.added up.others);
      updates = λ up. if_ok c.insert.result (λ added h yes q r. subst (λ p. has_seen (record { vendors = old.vendors; others = c.insert.new.self; below = c.clear-in-Class.new.self }) q ≡ with_path (has_seen old) p q) (sym c.in-Class.is) (class_more old.vendors.items (seen_items old.others) (seen_items c.insert.new.self) (seen_items old.below) (seen_items c.clear-in-Class.new.self) c.in-Class.class range c.clear-in-Class.ensures.empty (subst (λ k. IsOneMore nat_cmp (seen_items old.others) k (seen_items c.insert.new.self)) (c.key_of-key.ensures.is ∙ ap path_key c.in-Class.is) (h yes)) q r)) (c.insert.ensures.updates up.others);
    }

pub returns-in-Generic : goal.returns-in-Generic
returns-in-Generic c =
    let old = c.args.self.now in
    let range = subst IsPath c.in-Generic.is c.key_of-key.ensures.in_range in
    record {
      in_range = c.key_of-key.ensures.in_range;
      rising = λ up. record { others = c.insert-in-Generic.ensures.rising up.others; below = up.below };
      added = λ up. if_ok c.insert-in-Generic.result (λ added h. h ∙ ap (λ k. not (has_item nat_cmp (seen_items old.others) k)) (c.key_of-key.ensures.is ∙ ap path_key c.in-Generic.is) ∙ sym (ap (λ p. not (has_seen old p)) c.in-Generic.is)) (c.insert-in-Generic.ensures.added up.others);
      updates = λ up. if_ok c.insert-in-Generic.result (λ added h yes q r. subst (λ p. has_seen (record { vendors = old.vendors; others = c.insert-in-Generic.new.self; below = old.below }) q ≡ with_path (has_seen old) p q) (sym c.in-Generic.is) (generic_more old.vendors.items (seen_items old.others) (seen_items c.insert-in-Generic.new.self) (seen_items old.below) c.in-Generic.vendor c.in-Generic.device range (subst (λ k. IsOneMore nat_cmp (seen_items old.others) k (seen_items c.insert-in-Generic.new.self)) (c.key_of-key.ensures.is ∙ ap path_key c.in-Generic.is) (h yes)) q r)) (c.insert-in-Generic.ensures.updates up.others);
    }

pub returns-in-Device : goal.returns-in-Device
returns-in-Device c =
    let old = c.args.self.now in
    let two : part_of c.args.path ≡ 2 = ⊎_elim (λ a. ap part_of a.2) (⊎_elim (λ a. ap part_of a.4) (⊎_elim (λ a. ap part_of a.2) (λ a. ap part_of a.3))) c.in-Device.is in
    let range = c.key_of-key.ensures.in_range in
    let key = c.key_of-key.ensures.is in
    record {
      in_range = range;
      rising = λ up. record { others = up.others; below = c.insert-in-Device.ensures.rising up.below };
      added = λ up. if_ok c.insert-in-Device.result (λ added h. h ∙ ap (λ k. not (has_item nat_cmp (seen_items old.below) k)) key ∙ sym (ap not (nested_seen old.vendors.items (seen_items old.others) (seen_items old.below) c.args.path two))) (c.insert-in-Device.ensures.added up.below);
      updates = λ up. if_ok c.insert-in-Device.result (λ added h yes q r. below_more old.vendors.items (seen_items old.others) (seen_items old.below) (seen_items c.insert-in-Device.new.self) c.args.path range two (subst (λ k. IsOneMore nat_cmp (seen_items old.below) k (seen_items c.insert-in-Device.new.self)) key (h yes)) q r) (c.insert-in-Device.ensures.updates up.below);
    }
