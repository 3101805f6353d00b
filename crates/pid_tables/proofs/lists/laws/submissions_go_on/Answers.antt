use Rattle.std.proofs.Common.{length, arith}
use Rattle.pid_tables.proofs.OfLists.DescentLemmas.{goes_down, all_pages}
use Rattle.pid_tables.proofs.OfLists.SubmissionPageLemmas.{last_within}
use Rattle.pid_tables.proofs.lists.laws.submissions_go_on.Goals as goal

pub returns-clause-next : goal.returns-clause-next
returns-clause-next c most searched search v some_listed some_searched = goes_down v search most searched some_listed some_searched search.before

pub returns-clause-whole : goal.returns-clause-whole
returns-clause-whole c most searched count search v some_listed some_searched room =
    let low = last_within (length v.submits) search.before in
    all_pages v search most searched some_listed some_searched count search.before (omega (arith, low, room))
