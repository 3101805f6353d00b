use Rattle.std.proofs.Common.{◌≡◌, subst, sym, rules}
use Rattle.std.specs.Result.{IfOk}
use Rattle.pid_file.specs.PathTexts.{path_text}
use Rattle.pid_lookup.specs.CacheEntries.{Entries, entry_at, used}
use Rattle.pid_lookup.specs.CacheAgreement.{Agrees}
use Rattle.pid_lookup.proofs.CacheAgreeing.{used_agrees, answer_right}
use Rattle.pid_lookup.proofs.name_cache.NameCache.get.Goals as goal

pub returns-in_err-copy-in-Some-Some-clause-agrees : goal.returns-in_err-copy-in-Some-Some-clause-agrees
returns-in_err-copy-in-Some-Some-clause-agrees c at agreed =
    let order : c.get.follows.lender-at-none.entries ≡ used (path_text c.args.path.now) c.args.self.now = search rules in
    subst (λ (entries : Entries). Agrees entries at) (sym order) (used_agrees at (path_text c.args.path.now) c.args.self.now agreed)

pub returns-clause-right : goal.returns-clause-right
returns-clause-right c at agreed =
    let found : IfOk c.match-get.result (λ found. found ≡ entry_at (path_text c.args.path.now) c.args.self.now) = search rules in
    answer_right at (path_text c.args.path.now) c.args.self.now agreed c.match-get.result found

pub returns-clause-agrees : goal.returns-clause-agrees
returns-clause-agrees c at agreed =
    let order : c.match-get.self-inside.answers.entries ≡ used (path_text c.args.path.now) c.args.self.now = search rules in
    subst (λ (entries : Entries). Agrees entries at) (sym order) (used_agrees at (path_text c.args.path.now) c.args.self.now agreed)
