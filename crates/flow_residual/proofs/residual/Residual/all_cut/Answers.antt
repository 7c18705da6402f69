use Rattle.std.proofs.Common.{◌≤◌, ◌<◌, length, arith}
use Rattle.leaf_rows.specs.Leaves.{has_leaf}
use Rattle.flow_residual.specs.Question.{TakesInOrder}
use Rattle.flow_residual.proofs.OptionLemmas.{some_more, some_all}
use Rattle.flow_residual.proofs.residual.Residual.all_cut.Goals as goal

pub loop-place-preserved : goal.loop-place-preserved
loop-place-preserved g c = λ leaf.
    let r = c.args.self.now in
    let within : c.loop-place.place < length r.options = omega (arith, c.count-place-end.ensures, c.loop-place-test.true) in
    some_more (TakesInOrder r c.args.claims.now c.args.stand leaf) r.options c.loop-place.place (has_leaf c.add_taken.new.found leaf) (has_leaf c.loop-place.found leaf) within
    (λ o. c.add_taken.ensures o leaf) (c.loop-place.invariant leaf)

pub returns : goal.returns
returns g c = λ leaf.
    let r = c.args.self.now in
    let past : length r.options ≤ c.loop-place.place = omega (arith, c.count-place-end.ensures, c.loop-place-test.false) in
    some_all (TakesInOrder r c.args.claims.now c.args.stand leaf) r.options c.loop-place.place (has_leaf c.loop-place.found leaf) past (c.loop-place.invariant leaf)

pub add_taken-requires : goal.add_taken-requires
add_taken-requires g c =
    let place = c.loop-place.place in
    let within : place < length c.args.self.now.options = omega (arith, c.count-place-end.ensures, c.loop-place-test.true) in (
      omega (arith, c.args.row.now.sized),
      (within, (λ o at. c.requires.rows.each place o c.index-rows-place.result at c.index-rows-place.is, (c.requires.distinct, (c.requires.row, c.requires.apart)))),
    )
