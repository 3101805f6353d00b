use Rattle.std.proofs.Common.{sym, refl, ◌∙◌}
use Rattle.pid_file.specs.declared.path.Path.TheVariants.{Vendor, Device, Subsystem}
use Rattle.pid_ident.proofs.Shapes.{at_first, at_next}
use Rattle.pid_ident.proofs.path_text.parse.device_path.Goals as goal

pub returns-then-has_shape : goal.returns-then-has_shape
returns-then-has_shape c = at_first _ _ _ _ (sym c.has_shape.ensures ∙ c.if-has_shape.true) (λ i. Vendor (c.four_at.ensures i))

pub returns-then-has_shape-2 : goal.returns-then-has_shape-2
returns-then-has_shape-2 c =
    at_next _ _ _ _ (sym c.has_shape.ensures ∙ c.if-has_shape.false)
    (at_first _ _ _ _ (sym c.has_shape-2.ensures ∙ c.if-has_shape-2.true) (λ i. Device (c.four_at-then-has_shape-2.ensures i) (c.four_at-then-has_shape-2-2.ensures i)))

pub returns-then-has_shape-3 : goal.returns-then-has_shape-3
returns-then-has_shape-3 c =
    at_next _ _ _ _ (sym c.has_shape.ensures ∙ c.if-has_shape.false)
    (at_next _ _ _ _ (sym c.has_shape-2.ensures ∙ c.if-has_shape-2.false)
    (at_first _ _ _ _ (sym c.has_shape-3.ensures ∙ c.if-has_shape-3.true) (λ i. Subsystem (c.four_at-then-has_shape-3.ensures i) (c.four_at-then-has_shape-3-2.ensures i) (c.four_at-then-has_shape-3-3.ensures i) (c.four_at-then-has_shape-3-4.ensures i))))

pub returns : goal.returns
returns c =
    at_next _ _ _ _ (sym c.has_shape.ensures ∙ c.if-has_shape.false)
    (at_next _ _ _ _ (sym c.has_shape-2.ensures ∙ c.if-has_shape-2.false)
    (at_next _ _ _ _ (sym c.has_shape-3.ensures ∙ c.if-has_shape-3.false) refl))
