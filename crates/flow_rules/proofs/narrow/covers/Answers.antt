use Rattle.flow_rules.proofs.NarrowLemmas.{covered}
use Rattle.flow_rules.proofs.narrow.covers.Goals as goal

pub returns : goal.returns
returns c = covered c.args.word c.args.wanted c.ranges.word.fits c.ranges.wanted.fits
