use Rattle.std.proofs.Common.{◌≡◌, false, ap, sym, ◌∙◌}
use Rattle.std.specs.Prelude.{is_none, not}
use Rattle.pid_file.specs.PathTexts.{parent_of}
use Rattle.pid_service.proofs.TopItems.{top_decided, top_undecided}
use Rattle.pid_service.proofs.top.writes_top.Goals as goal

pub returns-in-Some : goal.returns-in-Some
returns-in-Some c n v off =
    let some : is_none (parent_of c.in-Some.write.path) ≡ false = ap is_none (sym c.parent.ensures.parent) ∙ ap not (c.is_none.ensures ∙ ap not off) in
    top_decided c.args.effect.now _ _ _ c.in-Some.write c.in-Decided.is c.in-Some.is some n v

pub returns-in-None : goal.returns-in-None
returns-in-None c n v off = top_undecided c.args.effect.now _ _ _ c.in-Decided.is c.in-None.is n v
