use Rattle.pid_tables.proofs.batch.write_effect.Goals as goal

pub returns-in-Remarked : goal.returns-in-Remarked
returns-in-Remarked g c = record {
  same_reference = c.add_remark.ensures.same_reference;
  goes = c.add_remark.ensures.goes;
  shows = rw c.in-Remarked.is (λ clean inside counts v shows fits. c.add_remark.ensures.shows clean inside counts v shows fits.1);
}

pub returns-in-Ranked : goal.returns-in-Ranked
returns-in-Ranked g c = record {
  same_reference = c.set_rank.ensures.same_reference;
  goes = c.set_rank.ensures.goes;
  shows = rw c.in-Ranked.is (λ clean inside counts v shows fits. c.set_rank.ensures.shows clean inside counts v shows fits);
}

pub returns-in-Submitted : goal.returns-in-Submitted
returns-in-Submitted g c = record {
  same_reference = c.submit.ensures.same_reference;
  goes = c.submit.ensures.goes;
  shows = rw c.in-Submitted.is (λ clean inside counts v shows fits. c.submit.ensures.shows clean inside counts v shows fits);
}

pub returns-in-Imported : goal.returns-in-Imported
returns-in-Imported g c = record {
  same_reference = c.count_items.ensures.same_reference;
  goes = c.count_items.ensures.goes;
  shows = rw c.in-Imported.is (λ clean inside counts v shows fits. c.count_items.ensures.shows clean inside counts v shows tt);
}

pub returns-in-Decided : goal.returns-in-Decided
returns-in-Decided g c = record {
  same_reference = c.decision.ensures.same_reference;
  goes = c.decision.ensures.goes;
  shows = rw c.in-Decided.is (λ clean inside counts v shows fits. c.decision.ensures.shows clean inside counts v shows fits);
}

-- ---- what the transaction goes on with

pub returns-in-Nothing : goal.returns-in-Nothing
returns-in-Nothing g c = record {
  same_reference = c.probe_transaction.ensures.same_reference;
  goes = c.probe_transaction.ensures.goes;
  shows = rw c.in-Nothing.is (λ clean inside counts v shows fits. c.probe_transaction.ensures.shows clean inside counts v shows tt);
}
