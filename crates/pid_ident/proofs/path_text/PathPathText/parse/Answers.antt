use Rattle.std.proofs.Common.{◌≡◌, ap, ◌∙◌}
use Rattle.std.specs.Option.{option_or}
use Rattle.pid_ident.specs.PathReading.{path_of}
use Rattle.pid_ident.proofs.PathReadingLemmas.{found_is, none_is}
use Rattle.pid_ident.proofs.Shapes.{shaped_is}
use Rattle.pid_ident.proofs.path_text.PathPathText.parse.Goals as goal

pub returns : goal.returns
returns c =
    let is : c.or-2.result ≡ path_of c.args.text.now =
    c.or-2.ensures
    ∙ (λ i. option_or ((c.or.ensures ∙ (λ j. option_or (c.device_path.ensures j) (c.class_path.ensures j))) i) (c.generic_path.ensures i))
    ∙ shaped_is c.as_bytes-bytes.result.now ∙ ap path_of c.as_bytes-bytes.ensures.value in
    record { found = found_is _ _ is; none = none_is _ _ is; computed = is }
