use Rattle.std.proofs.Common.{◌≡◌, ◌++◌, ◌∙◌, codes, filter, map, ap, subst, sym}
use Rattle.std.specs.Prelude.{option_map}
use Rattle.pid_moderation.specs.Children.{children_of}
use Rattle.pid_ident.specs.PathTexts.{path_text}
use Rattle.pid_file.specs.declared.path.Path.TheVariants.{Vendor}
use Rattle.pid_moderation.specs.ItemPairs.{pair_of}
use Rattle.pid_tables.proofs.OfRows.ChildLemmas.{generics_of}
use Rattle.pid_tables.proofs.OfLists.BelowLemmas.{behind, child_of, vendor_joined, other_joined}
use Rattle.pid_tables.specs.Rows.Causes.{IsCaused, IsReadable}
use Rattle.pid_tables.proofs.OfRows.CauseLemmas.{caused_later, passed_on}
use Rattle.pid_tables.proofs.OfRows.OnlyReading.{reads_then}
use Rattle.pid_tables.proofs.ThenReads.{fault_first, no_memory}
use Rattle.pid_tables.proofs.OfCheck.Asking.{nothing_read}
use Rattle.pid_tables.proofs.tables.Tables.children.Goals as goal

pub returns-in_ok-add_under-in-Vendor : goal.returns-in_ok-add_under-in-Vendor
returns-in_ok-add_under-in-Vendor g c = record {
  rests = reads_then _ _ _ c.in_ok-added.ensures.rests c.in_ok-add_under-in-Vendor.ensures.rests;
  told = λ clean v rest all.
      let first = c.in_ok-added.ensures in
      let second = c.in_ok-add_under-in-Vendor.ensures in
      let one = first.told (second.rests.clean clean) v rest in
      let generics = filter (behind (generics_of (path_text (Vendor c.in-Vendor.vendor)))) v.items in
      let two : map pair_of c.add_under.new.kept.items ≡ map pair_of c.add_under-added.new.kept.items ++ filter (child_of (Vendor c.in-Vendor.vendor)) generics =
      (second.told clean v (first.rests.kept v rest)).1
      ∙ ap (λ d. map pair_of c.add_under-added.new.kept.items ++ filter (child_of (Vendor c.in-Vendor.vendor)) (filter (behind (codes "PS/" ++ d)) v.items)) (c.as_slice.ensures ∙ c.hex4-digits.ensures) in
      subst (λ above. map pair_of c.add_under.new.kept.items ≡ children_of (option_map path_text above) v.items) (sym c.in-Some.is)
      (vendor_joined v.items c.in-Some.path c.in-Vendor.vendor c.in-Vendor.is one.0.sorted all _ (c.as_bytes.ensures.value ∙ c.in_ok-text.ensures) _ _ _ (ap (map pair_of) c.new-kept.ensures.items) one.1
      (subst (λ p. map pair_of c.add_under.new.kept.items ≡ map pair_of c.add_under-added.new.kept.items ++ filter (child_of p) generics) (sym c.in-Vendor.is) two));
}

pub returns-in_default-path : goal.returns-in_default-path
returns-in_default-path g c = record {
  rests = c.in_ok-added.ensures.rests;
  told = λ clean v rest all.
      let one = c.in_ok-added.ensures.told clean v rest in
      subst (λ above. map pair_of c.add_under-added.new.kept.items ≡ children_of (option_map path_text above) v.items) (sym c.in-Some.is)
      (other_joined v.items c.in-Some.path c.in_default-path.not-Vendor all _ (c.as_bytes.ensures.value ∙ c.in_ok-text.ensures) _ _ (ap (map pair_of) c.new-kept.ensures.items) one.1);
}

pub returns-in_err-add_under-in-Vendor : goal.returns-in_err-add_under-in-Vendor
returns-in_err-add_under-in-Vendor g c =
    let one = c.in_ok-added.ensures in
    let two = c.in_err-add_under-in-Vendor.ensures in
    let old = g.C.Database.state c.args.self.now.conn in
    let mid = g.C.Database.state c.add_under-added.new.tables.conn in
    let new = g.C.Database.state c.add_under.new.tables.conn in
    record {
      rests = reads_then _ _ _ one.rests two.rests;
      told = λ clean v rest.
          passed_on c.from_residual-in_err-add_under-in-Vendor.result _ _ (λ fault. IsReadable v → IsCaused old new fault) c.from_residual-in_err-add_under-in-Vendor.ensures.1
          (λ readable. caused_later old mid new (λ _. ⊥) c.in_err-add_under-in-Vendor.field-0.0 one.rests.survives two.rests.survives.counts (two.rests.clean clean) (two.told clean v (one.rests.kept v rest) readable));
    }

pub returns-in_err-text : goal.returns-in_err-text
returns-in_err-text g c = no_memory g.C.Database.state c.args.self.now.conn c.args.self.now.conn c.from_residual.result c.from_residual.ensures.1 (nothing_read (g.C.Database.state c.args.self.now.conn) c.args.self.now.settled)

pub returns-in_err-added : goal.returns-in_err-added
returns-in_err-added g c = fault_first g.C.Database.state c.args.self.now.conn c.add_under-added.new.tables.conn c.in_err-added.field-0.0 c.from_residual-in_err-added.result c.from_residual-in_err-added.ensures.1 c.in_err-added.ensures
