use Rattle.std.proofs.Common.{◌≡◌, true, refl}
use mathlib.Core.Bool.{false≢true}
use Rattle.std.specs.Ordering.{is_eq}
use Rattle.std.specs.declared.cmp.Ordering.{Ordering}
use Rattle.std.specs.declared.cmp.Ordering.TheVariants.{Less, Equal, Greater}
use Rattle.std.specs.FinMap.{slice_cmp-IsAntisymmetric, nat_cmp-IsAntisymmetric}
use Rattle.pid_file.proofs.Kin.{same_path}
use Rattle.pid_file.specs.declared.path.Path.{Path}
use Rattle.pid_file.specs.PathTexts.{IsPath, path_text}
use Rattle.pid_file.specs.Steps.Paths.{path_cmp}
use Rattle.pid_journal.proofs.sameness.is_same_path.Goals as goal

equal_is : (o : Ordering) → is_eq o ≡ true → o ≡ Equal
equal_is Less h = absurd (false≢true h)
equal_is Equal h = refl
equal_is Greater h = absurd (false≢true h)

one_path : (p q : Path) → IsPath p → IsPath q → is_eq (path_cmp p q) ≡ true → p ≡ q
one_path p q a b h = same_path p q a b (slice_cmp-IsAntisymmetric nat_cmp-IsAntisymmetric (path_text p) (path_text q) (equal_is (path_cmp p q) h))

pub returns : goal.returns
returns c same =
    one_path c.args.one c.args.other c.parent-parent.ensures.in_range c.parent-other_parent.ensures.in_range (let is = c.eq.ensures in cc)
