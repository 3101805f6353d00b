use Rattle.pid_file.proofs.PathOrder.{same_block}
use Rattle.pid_file.proofs.print.is_same_vendor.Goals as goal

pub returns : goal.returns
returns c = same_block _ _ c.ranges.vendor.fits c.ranges.other.fits
