use Rattle.std.proofs.Common.{List, map, subst}
use Rattle.pid_file.specs.PathTexts.{path_text}
use Rattle.pid_service.proofs.Words.{Extent, extent_in, IsPlace}
use Rattle.pid_service.proofs.Renewed.{renewed}
use Rattle.pid_service.proofs.renewing.renew.Goals as goal

pub returns-in-Some-new_lines : goal.returns-in-Some-new_lines
returns-in-Some-new_lines c done items sorted kept =
    renewed c.args.text.now c.put_lines-done.new.text c.in-Some.place c.args.write.now c.in-Some-new_lines.new items sorted kept
    (subst (λ (l : List Extent). IsPlace c.in-Some.place (map extent_in l) (path_text c.args.write.now.path)) c.as_slice.ensures.value c.in-Some.ensures)
    c.in-Some-new_lines.ensures (c.put_lines-done.ensures done)
