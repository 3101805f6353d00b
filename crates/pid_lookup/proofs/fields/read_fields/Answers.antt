use Rattle.std.proofs.Common.{take, drop, refl, sym, ◌∙◌}
use Rattle.std.specs.Prelude.{codes}
use mathlib.Core.Bool.{true≢false}
use Rattle.pid_lookup.specs.Fields.{bytes_of, flags_said, size_said, number_said, progif_said}
use Rattle.pid_lookup.proofs.FieldTexts.{all_said, known_texts, one_missing, said_by, not_bad, unknown}
use Rattle.pid_lookup.proofs.fields.read_fields.Goals as goal

pub returns-clause-found : goal.returns-clause-found
returns-clause-found c =
    said_by (bytes_of c.args.fields.now) _ _ _ _ _ _ _ _ (sym (known_texts c.args.fields.now) ∙ sym c.are_known.ensures ∙ c.if-not-are_known.false)
    (sym c.in_ok-flags.ensures) (sym c.in_ok-size.ensures) (sym c.in_ok-vendor.ensures) (sym c.in_ok-device.ensures)
    (sym c.in_ok-subvendor.ensures) (sym c.in_ok-subdevice.ensures) (sym c.in_ok-class.ensures) (sym c.in_ok-progif.ensures)

pub returns-clause-none : goal.returns-clause-none
returns-clause-none c =
    (λ e. absurd (true≢false e), λ bad. absurd (not_bad (bytes_of c.args.fields.now) _ (returns-clause-found c) bad))

pub returns-then-not-are_known-clause-none : goal.returns-then-not-are_known-clause-none
returns-then-not-are_known-clause-none c =
    (λ _. unknown (bytes_of c.args.fields.now) (sym (known_texts c.args.fields.now) ∙ sym c.are_known.ensures ∙ c.if-not-are_known.true), λ _. refl)

-- ---- one field says nothing

pub returns-in_err-flags-clause-none : goal.returns-in_err-flags-clause-none
returns-in_err-flags-clause-none c =
    let fields = bytes_of c.args.fields.now in
    rw c.from_residual.ensures (
      λ _. one_missing fields (take 0 (all_said fields)) (drop 1 (all_said fields)) (flags_said fields)
          (sym (known_texts c.args.fields.now) ∙ sym c.are_known.ensures ∙ c.if-not-are_known.false) refl (sym c.in_err-flags.ensures),
      λ _. refl,
    )

pub returns-in_err-size-clause-none : goal.returns-in_err-size-clause-none
returns-in_err-size-clause-none c =
    let fields = bytes_of c.args.fields.now in
    rw c.from_residual-in_err-size.ensures (
      λ _. one_missing fields (take 1 (all_said fields)) (drop 2 (all_said fields)) (size_said fields)
          (sym (known_texts c.args.fields.now) ∙ sym c.are_known.ensures ∙ c.if-not-are_known.false) refl (sym c.in_err-size.ensures),
      λ _. refl,
    )

pub returns-in_err-vendor-clause-none : goal.returns-in_err-vendor-clause-none
returns-in_err-vendor-clause-none c =
    let fields = bytes_of c.args.fields.now in
    rw c.from_residual-in_err-vendor.ensures (
      λ _. one_missing fields (take 2 (all_said fields)) (drop 3 (all_said fields)) (number_said (codes "vendor") fields)
          (sym (known_texts c.args.fields.now) ∙ sym c.are_known.ensures ∙ c.if-not-are_known.false) refl (sym c.in_err-vendor.ensures),
      λ _. refl,
    )

pub returns-in_err-device-clause-none : goal.returns-in_err-device-clause-none
returns-in_err-device-clause-none c =
    let fields = bytes_of c.args.fields.now in
    rw c.from_residual-in_err-device.ensures (
      λ _. one_missing fields (take 3 (all_said fields)) (drop 4 (all_said fields)) (number_said (codes "device") fields)
          (sym (known_texts c.args.fields.now) ∙ sym c.are_known.ensures ∙ c.if-not-are_known.false) refl (sym c.in_err-device.ensures),
      λ _. refl,
    )

pub returns-in_err-subvendor-clause-none : goal.returns-in_err-subvendor-clause-none
returns-in_err-subvendor-clause-none c =
    let fields = bytes_of c.args.fields.now in
    rw c.from_residual-in_err-subvendor.ensures (
      λ _. one_missing fields (take 4 (all_said fields)) (drop 5 (all_said fields)) (number_said (codes "subvendor") fields)
          (sym (known_texts c.args.fields.now) ∙ sym c.are_known.ensures ∙ c.if-not-are_known.false) refl (sym c.in_err-subvendor.ensures),
      λ _. refl,
    )

pub returns-in_err-subdevice-clause-none : goal.returns-in_err-subdevice-clause-none
returns-in_err-subdevice-clause-none c =
    let fields = bytes_of c.args.fields.now in
    rw c.from_residual-in_err-subdevice.ensures (
      λ _. one_missing fields (take 5 (all_said fields)) (drop 6 (all_said fields)) (number_said (codes "subdevice") fields)
          (sym (known_texts c.args.fields.now) ∙ sym c.are_known.ensures ∙ c.if-not-are_known.false) refl (sym c.in_err-subdevice.ensures),
      λ _. refl,
    )

pub returns-in_err-class-clause-none : goal.returns-in_err-class-clause-none
returns-in_err-class-clause-none c =
    let fields = bytes_of c.args.fields.now in
    rw c.from_residual-in_err-class.ensures (
      λ _. one_missing fields (take 6 (all_said fields)) (drop 7 (all_said fields)) (number_said (codes "class") fields)
          (sym (known_texts c.args.fields.now) ∙ sym c.are_known.ensures ∙ c.if-not-are_known.false) refl (sym c.in_err-class.ensures),
      λ _. refl,
    )

pub returns-in_err-progif-clause-none : goal.returns-in_err-progif-clause-none
returns-in_err-progif-clause-none c =
    let fields = bytes_of c.args.fields.now in
    rw c.from_residual-in_err-progif.ensures (
      λ _. one_missing fields (take 7 (all_said fields)) (drop 8 (all_said fields)) (progif_said fields)
          (sym (known_texts c.args.fields.now) ∙ sym c.are_known.ensures ∙ c.if-not-are_known.false) refl (sym c.in_err-progif.ensures),
      λ _. refl,
    )
