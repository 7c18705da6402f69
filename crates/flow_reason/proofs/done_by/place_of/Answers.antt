use Rattle.std.proofs.Common.{arith}
use Rattle.flow_reason.proofs.JournalLengths.{place_in}
use Rattle.flow_reason.proofs.done_by.place_of.Goals as goal

pub returns : goal.returns
returns c = λ m.
    let (k, below, is) = place_in c.args.list.now c.args.leaf m in
    let past = c.loop-place-test.false in
    c.loop-place.invariant k (omega arith) is
