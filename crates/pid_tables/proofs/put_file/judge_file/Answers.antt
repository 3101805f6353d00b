use Rattle.std.proofs.Common.{Some}
use Rattle.pid_moderation.specs.declared.facts.Verdict.TheVariants.{Good}
use Rattle.pid_moderation.specs.Views.{views_of}
use Rattle.pid_moderation.specs.Files.{file_reading}
use Rattle.pid_tables.proofs.Judged.{facts_put, judged_file}
use Rattle.pid_tables.proofs.put_file.judge_file.Goals as goal

pub returns-clause-judged : goal.returns-clause-judged
returns-clause-judged c h text marked is open_ many put =
    let file = c.texts_read_to_files.ensures.entries text put.good in
    let f = facts_put h c.args.command.now c.args.facts.now c.args.items c.in-Some.items text c.args.tally file.apart (c.items_are_sorted.ensures h) is open_ many c.in-Some.ensures.1 put in
    let r = file_reading text in
    judged_file h c.args.command.now text (record c.args.facts.now { file = Some (Good c.args.tally.added c.args.tally.renamed c.args.tally.same c.in-Some.items) }) c.args.tally c.args.facts.now c.decide.result is open_ put f
    ((c.decide.ensures.answers (views_of h) r f).reply, (c.decide.ensures.answers (views_of h) r f).refusal, c.decide.ensures.change h r marked f, c.decide.ensures.fits h r f, c.decide.ensures.decides r)
