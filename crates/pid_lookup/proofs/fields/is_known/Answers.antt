use Rattle.std.proofs.Common.{◌≡◌, Bool, true, false, refl, ◌∙◌}
use Rattle.std.specs.Prelude.{◌||◌, codes}
use Rattle.std.specs.Str.{bytes_eq}
use Rattle.pid_lookup.proofs.fields.is_known.Goals as goal

joined : (a b c d e f g h : Bool) → (a || (b || (c || (d || (e || (f || (g || (h || false)))))))) ≡ (((((((a || b) || c) || d) || e) || f) || g) || h)
joined true b c d e f g h = refl
joined false true c d e f g h = refl
joined false false true d e f g h = refl
joined false false false true e f g h = refl
joined false false false false true f g h = refl
joined false false false false false true g h = refl
joined false false false false false false true h = refl
joined false false false false false false false true = refl
joined false false false false false false false false = refl

pub returns : goal.returns
returns c =
    let name = c.args.name.now in
    c.is_among.ensures ∙ joined (bytes_eq name (codes "flags")) (bytes_eq name (codes "size")) (bytes_eq name (codes "vendor")) (bytes_eq name (codes "device"))
    (bytes_eq name (codes "subvendor")) (bytes_eq name (codes "subdevice")) (bytes_eq name (codes "class")) (bytes_eq name (codes "progif"))
