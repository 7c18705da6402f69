use Rattle.std.proofs.Common.{◌≤◌, ◌<◌, length, arith}
use Rattle.leaf_rows.specs.Leaves.{has_leaf}
use Rattle.flow_residual.specs.Question.{TakesInOrder}
use Rattle.flow_residual.proofs.OptionLemmas.{some_more, some_all}
use Rattle.flow_residual.proofs.residual.Residual.all_anew.Goals as goal

pub loop-place-preserved : goal.loop-place-preserved
loop-place-preserved c leaf =
    let r = c.args.self.now in
    let within : c.loop-place.place < length r.options = omega (arith, c.count-place-end.ensures, c.loop-place-test.true) in
    some_more (TakesInOrder r c.args.claims.now c.args.stand leaf) r.options c.loop-place.place (has_leaf c.add_taken.new.found leaf) (has_leaf c.loop-place.found leaf) within
    (λ o. c.add_taken.ensures o leaf) (c.loop-place.invariant leaf)

pub returns : goal.returns
returns c leaf =
    let r = c.args.self.now in
    let past : length r.options ≤ c.loop-place.place = omega (arith, c.count-place-end.ensures, c.loop-place-test.false) in
    some_all (TakesInOrder r c.args.claims.now c.args.stand leaf) r.options c.loop-place.place (has_leaf c.loop-place.found leaf) past (c.loop-place.invariant leaf)
