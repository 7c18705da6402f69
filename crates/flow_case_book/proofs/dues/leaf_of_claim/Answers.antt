use Rattle.std.proofs.Common.{◌≤◌, length, arith}
use Rattle.flow_case_book.proofs.DueLemmas.{not_given, none_gave}
use Rattle.flow_case_book.proofs.dues.leaf_of_claim.Goals as goal

pub loop-entry-preserved : goal.loop-entry-preserved
loop-entry-preserved c = not_given c.args.history.now c.args.claim c.loop-entry.entry-index _ c.loop-entry-test.true c.loop-entry.invariant c.in_default.ensures

pub returns : goal.returns
returns c =
    let past : length c.args.history.now ≤ c.loop-entry.entry-index = omega arith in
    none_gave c.args.history.now c.args.claim c.loop-entry.entry-index past c.loop-entry.invariant
