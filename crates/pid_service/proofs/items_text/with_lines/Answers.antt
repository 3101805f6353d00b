use Rattle.pid_service.proofs.items_text.with_lines.Goals as goal

pub returns-then-add_lines : goal.returns-then-add_lines
returns-then-add_lines c = (c.in_ok-text.text, c.in_ok-text.was, λ bytes extents has. c.add_lines.ensures c.if-add_lines.true bytes extents has)
