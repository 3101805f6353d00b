use Rattle.std.proofs.Common.{◌≡◌, false, true, rules, arith}
use Rattle.std.specs.Prelude.{◌==◌, nat_lt}
use Rattle.std.proofs.lemmas.List.Sorted.{IsPartitionPoint-from_clause}
use Rattle.pid_tables.proofs.OfSearches.ServingLemmas.{bounded, cut_is, parted, unbounded}
use Rattle.pid_tables.proofs.searches.numbers.cut_at.Goals as goal

pub returns-then-before-eq0 : goal.returns-then-before-eq0
returns-then-before-eq0 c up = let none : (c.args.before == 0) ≡ true = search rules in unbounded c.args.before c.args.numbers.now none

pub returns : goal.returns
returns c up =
    let some : (c.args.before == 0) ≡ false = search rules in
    let point = IsPartitionPoint-from_clause (λ n. nat_lt n c.args.before) _ _ c.partition_point-end.ensures.partitioned (parted c.args.before c.args.numbers.now up) (λ a r q k. search rules) in
    let cut = cut_is (λ n. nat_lt n c.args.before) c.args.numbers.now c.partition_point-end.result c.partition_point-end.ensures.bound (λ k d low. point.0 k d (omega arith) low) point.1 in
    search (rules, cut, bounded c.args.before c.args.numbers.now some)
