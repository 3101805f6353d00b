use Rattle.std.proofs.Common.{◌≡◌, ◌++◌, ◌∙◌, ap, codes, sym}
use Rattle.pid_ident.specs.PathTexts.{path_text}
use Rattle.pid_moderation.specs.Items.{has_children}
use Rattle.pid_moderation.specs.WellMade.{AllItems, HoldsParents}
use Rattle.pid_tables.specs.Rows.Shows.{AreViews}
use Rattle.pid_tables.specs.Rows.Steps.Ranges.{holds_under}
use Rattle.pid_tables.proofs.OfRows.ChildLemmas.{child_below, generic_children, other_children, is_no_vendor}
use Rattle.pid_tables.proofs.OfRows.OnlyReading.{reads_then, told_then}
use Rattle.pid_tables.proofs.ThenReads.{fault_first, no_memory}
use Rattle.pid_tables.proofs.OfCheck.Asking.{nothing_read}
use Rattle.pid_tables.proofs.rows.item.has_children.Goals as goal

pub returns-then-branch : goal.returns-then-branch
returns-then-branch g c = record {
  rests = c.in_ok-below.ensures.rests;
  told = λ clean v rest all parents.
      let below = c.in_ok-below.ensures.told clean v rest in
      let text = c.as_bytes.ensures.value ∙ c.in_ok-text.ensures in
      sym (child_below v.items below.0.sorted all parents c.args.path (sym (below.1 ∙ ap (λ t. holds_under t v.items) text) ∙ c.if-branch.true));
}

pub returns-in-Vendor : goal.returns-in-Vendor
returns-in-Vendor g c = record {
  rests = reads_then _ _ _ c.in_ok-below.ensures.rests c.any_below.ensures.rests;
  told = λ clean v rest.
      let first = c.in_ok-below.ensures in
      let second = c.any_below.ensures in
      let below = first.told (second.rests.clean clean) v rest in
      let text = c.as_bytes.ensures.value ∙ c.in_ok-text.ensures in
      let digits = c.as_slice.ensures ∙ c.hex4.ensures in
      told_then (g.C.Database.state c.args.tables.now.conn) (g.C.Database.state c.any_below-below.new.tables.conn) (g.C.Database.state c.any_below.new.tables.conn) v c.any_below.result
      (λ some. AreViews v × (some ≡ holds_under (codes "PS/" ++ c.as_slice.result.now) v.items)) (λ some. AllItems v.items → HoldsParents v.items → some ≡ has_children (path_text c.args.path) v.items)
      first.rests second.rests clean
      (λ some generic all parents. generic_children v.items below.0.sorted all parents c.args.path c.in-Vendor.vendor some c.in-Vendor.is (sym (below.1 ∙ ap (λ t. holds_under t v.items) text) ∙ c.if-branch.false) (generic.1 ∙ ap (λ d. holds_under (codes "PS/" ++ d) v.items) digits))
      (second.told clean v (first.rests.kept v rest));
}

pub returns-in_default : goal.returns-in_default
returns-in_default g c = record {
  rests = c.in_ok-below.ensures.rests;
  told = λ clean v rest all parents.
      let below = c.in_ok-below.ensures.told clean v rest in
      let text = c.as_bytes.ensures.value ∙ c.in_ok-text.ensures in
      sym c.if-branch.false ∙ below.1 ∙ ap (λ t. holds_under t v.items) text ∙ other_children v.items below.0.sorted all parents c.args.path (is_no_vendor c.args.path (λ a is. c.in_default.not-Vendor a is));
}

pub returns-in_err-text : goal.returns-in_err-text
returns-in_err-text g c = no_memory g.C.Database.state c.args.tables.now.conn c.args.tables.now.conn c.from_residual.result c.from_residual.ensures.1 (nothing_read (g.C.Database.state c.args.tables.now.conn) c.args.tables.now.settled)

pub returns-in_err-below : goal.returns-in_err-below
returns-in_err-below g c = fault_first g.C.Database.state c.args.tables.now.conn c.any_below-below.new.tables.conn c.in_err-below.field-0.0 c.from_residual-in_err-below.result c.from_residual-in_err-below.ensures.1 c.in_err-below.ensures
