use Rattle.std.proofs.Common.{◌<◌, length, List, Bool, ◌∙◌, sym, ap, subst, arith}
use Rattle.pid_file.specs.SeenPaths.{has_flag}
use Rattle.pid_file.proofs.SeenMore.{filled, flag_set}
use Rattle.pid_file.proofs.seen_paths.set_flag.Goals.{then-place-len+in_ok-resize, else-place-len}
use Rattle.pid_file.proofs.seen_paths.set_flag.Goals as goal

pub returns-clause-updates : goal.returns-clause-updates
returns-clause-updates c added =
    let old = c.args.flags.now.items in
    let now = c.if-place-len.flags.items in
    elim c.if-place-len.branch [
      | then-place-len+in_ok-resize w ↦
          let within : c.args.place < length now = subst (λ f. c.args.place < length f.items) (sym w.flags-is) (omega (arith, c.ranges.place.fits, w.in_ok-resize.ensures.len)) in
          flag_set old now c.args.place within (λ m. ap (λ f. has_flag f.items m) w.flags-is ∙ ap (λ (l : List Bool). has_flag l m) w.in_ok-resize.ensures.items ∙ filled old 65536 _ (omega (arith, c.ranges.place.fits, c.len.ensures, w.if-place-len.true)) m)
      | else-place-len w ↦
          let within : c.args.place < length now = subst (λ f. c.args.place < length f.items) (sym w.flags-is) (omega (arith, c.len.ensures, w.if-place-len.false)) in
          flag_set old now c.args.place within (λ m. ap (λ f. has_flag f.items m) w.flags-is)
    ]
