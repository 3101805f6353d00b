use Rattle.pid_reader.proofs.feeder.Feeder.feed.Goals as goal

pub returns-in-Ok-clause-feeds : goal.returns-in-Ok-clause-feeds
returns-in-Ok-clause-feeds c text h =
    let ends = c.in-Ok.ensures.ends text h.start h.holds h.took in
    (record { holds = c.in-Ok.ensures.holds text h.holds; start = h.start; empty_tree = h.empty_tree; took = ends.1 }, ends.0)
