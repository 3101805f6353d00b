use Rattle.std.proofs.Common.{◌≡◌, ℕ, ◌<◌, ◌≤◌, ◌∷◌, ◌++◌, [], true, false, filter, get_or, length, take, ap, arith, rules, ◌∙◌}
use Rattle.std.proofs.lemmas.List.{take_all}
use Rattle.std.specs.Prelude.{nat_lt}
use Rattle.std.proofs.lemmas.Bool.Decides.{nat_tests}
use Rattle.pid_service.proofs.PendingNumbers.{not_above, one_above, page_full}
use Rattle.pid_service.proofs.pending_numbers.numbers_above.Goals.{else-after-number-via-then-after-number+then-len-lt-PAGE+else-is_err, else-after-number-via-then-after-number+else-len-lt-PAGE, else-after-number-via-else-after-number}
use Rattle.pid_service.proofs.pending_numbers.numbers_above.Goals as goal

is_less : (after number : ℕ) → after < number → nat_lt after number ≡ true
is_less after number above = grind (arith, nat_tests)

is_no_less : (after number : ℕ) → number ≤ after → nat_lt after number ≡ false
is_no_less after number below = grind (arith, nat_tests)

pub loop-number-preserved : goal.loop-number-preserved
loop-number-preserved c =
    let all = c.args.numbers.now in
    let i = c.loop-number.number-index in
    let page = c.loop-number.page.items in
    let low = c.loop-number-test.true in
    let is = c.loop-number.invariant in
    elim c.else-after-number.branch [
      | else-after-number-via-then-after-number+then-len-lt-PAGE+else-is_err w ↦
          let above = is_less c.args.after (get_or all i 0) w.if-after-number.true in
          let room : length page < 100 = search rules in
          let pushed : w.push.new.self.items ≡ page ++ get_or all i 0 ∷ [] = search rules in
          rw w.page-is (pushed ∙ one_above 100 c.args.after all i 0 page low is above room)
      | else-after-number-via-then-after-number+else-len-lt-PAGE w ↦
          let full : 100 ≤ length page = search rules in
          rw w.page-is (page_full 100 c.args.after all i 0 page low is full)
      | else-after-number-via-else-after-number w ↦
          let below = is_no_less c.args.after (get_or all i 0) w.if-after-number.false in
          rw w.page-is (not_above 100 c.args.after all i 0 page low is below)
    ]

pub returns : goal.returns
returns c =
    c.loop-number.invariant ∙ ap (λ l. take 100 (filter (nat_lt c.args.after) l)) (take_all c.loop-number.number-index c.args.numbers.now (omega (arith, c.loop-number-test.false)))
