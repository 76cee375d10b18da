use Rattle.fields.specs.Merge.{merged}
use Rattle.fields.proofs.Mask.{merge-is}
use Rattle.fields.proofs.merge.Goals as goal

pub returns : goal.returns
unfolding merged
returns c = merge-is 32 c.args.old c.args.value c.args.mask c.ranges.old.fits c.ranges.value.fits c.ranges.mask.fits
