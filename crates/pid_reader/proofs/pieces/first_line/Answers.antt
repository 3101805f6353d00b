use Rattle.std.proofs.Common.{◌≡◌, ◌∙◌, ap, arith, length, ◌<◌}
use Rattle.std.proofs.lemmas.Bool.Decides.{nat_tests}
use Rattle.pid_file.specs.Lines.{pieces_of}
use Rattle.pid_file.proofs.Cuts.{piece_first, piece_alone}
use Rattle.pid_reader.proofs.pieces.first_line.Goals as goal

pub returns-in-None-clause-parts : goal.returns-in-None-clause-parts
returns-in-None-clause-parts c =
    let longer : 0 < length c.args.text.now = grind (arith, nat_tests, c.if-is_empty.ensures) in
    piece_alone c.args.text.now c.in-None.ensures.parts (λ none. let len : length c.args.text.now ≡ 0 = ap length none in absurd (omega arith))

pub returns-in-Some-clause-parts : goal.returns-in-Some-clause-parts
returns-in-Some-clause-parts c = ap pieces_of c.in-Some.ensures.parts.0 ∙ piece_first c.in-Some.parts.0.now c.in-Some.parts.1.now c.in-Some.ensures.parts.1
