use Rattle.std.proofs.Common.{inl, inr, refl}
use Rattle.pid_journal.proofs.Marks.{cut_off, marks_within}
use Rattle.pid_journal.proofs.journaled.Journaled.take_back.Goals as goal

pub returns-in-Ok-clause-taken : goal.returns-in-Ok-clause-taken
returns-in-Ok-clause-taken g c front behind safe counted settled = inl (settled, c.in-Ok.ensures front behind safe counted)

pub returns-in-Err-clause-taken : goal.returns-in-Err-clause-taken
returns-in-Err-clause-taken g c front behind safe counted settled = inr (refl, c.in-Err.ensures front behind safe counted)

pub returns-in-Ok-clause-kept : goal.returns-in-Ok-clause-kept
returns-in-Ok-clause-kept g c front behind safe counted = cut_off _ front behind (c.in-Ok.ensures front behind safe counted)

pub returns-in-Err-clause-kept : goal.returns-in-Err-clause-kept
returns-in-Err-clause-kept g c = c.in-Err.ensures

pub cut-requires : goal.cut-requires
cut-requires g c = marks_within (g.J.JournalFile.safe c.args.self.now.journal) c.args.count c.requires
