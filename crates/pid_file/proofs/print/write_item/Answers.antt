use Rattle.std.proofs.Common.{List, ℕ, ◌∙◌, subst}
use Rattle.pid_file.specs.PathTexts.{path_text}
use Rattle.pid_file.specs.Sending.{Sends}
use Rattle.pid_file.proofs.Written.{item_parts}
use Rattle.pid_file.proofs.print.write_item.Goals as goal

pub returns : goal.returns
returns g c =
    let parts = item_parts c.split_at.result.0.now c.as_bytes.result.now (path_text c.args.path.now, c.args.name.now) (c.split_at.ensures.front ∙ c.of-label.ensures.bytes) c.as_bytes.ensures.value in
    record {
      sent = subst (λ (l : List ℕ). Sends c.write_parts.result (g.W.Output.taken c.args.out.now) (g.W.Output.taken c.write_parts.new.out) l) parts c.write_parts.ensures.sent;
      fault = c.write_parts.ensures.fault;
    }
