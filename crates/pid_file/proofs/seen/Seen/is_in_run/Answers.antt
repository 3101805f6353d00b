use Rattle.std.proofs.Common.{◌≡◌, ◌∙◌, sym, subst}
use Rattle.std.specs.Cmp.{nat_cmp_total}
use Rattle.std.specs.Ordering.{nat_cmp}
use Rattle.pid_file.specs.SeenItems.{IsRising, has_item}
use Rattle.pid_file.proofs.Rising.{searched}
use Rattle.pid_file.proofs.seen.Seen.is_in_run.Goals as goal

pub returns : goal.returns
returns c up =
    let same = c.deref.ensures.value in
    subst (λ l. c.is_ok.result ≡ has_item nat_cmp l c.args.item.now) same
    (c.is_ok.ensures.value ∙ searched nat_cmp nat_cmp_total c.deref.result.now c.args.item.now c.binary_search.result (subst (IsRising nat_cmp) (sym same) up) c.binary_search.ensures.bound c.binary_search.ensures.position)
