use Rattle.std.proofs.Common.{◌≤◌, ◌<◌, length, arith}
use Rattle.flow_residual.specs.Question.{Has}
use Rattle.flow_residual.proofs.OptionLemmas.{found_at, none_more, none_of_all}
use Rattle.flow_residual.proofs.residual.Residual.first_that_has.Goals as goal

pub returns-then-has-clause-some : goal.returns-then-has-clause-some
returns-then-has-clause-some c =
    let r = c.args.self.now in
    let within : c.loop-place.place < length r.options = omega (arith, c.count-place-end.ensures, c.loop-place-test.true) in
    found_at (Has r c.args.claims.now c.args.question.now) r.options c.loop-place.place c.has.result within c.has.ensures c.if-has.true

pub loop-place-preserved : goal.loop-place-preserved
loop-place-preserved c =
    let r = c.args.self.now in
    none_more (Has r c.args.claims.now c.args.question.now) r.options c.loop-place.place c.has.result c.loop-place.invariant c.has.ensures c.if-has.false

pub returns-clause-none : goal.returns-clause-none
returns-clause-none c =
    let r = c.args.self.now in
    let past : length r.options ≤ c.loop-place.place = omega (arith, c.count-place-end.ensures, c.loop-place-test.false) in
    none_of_all (Has r c.args.claims.now c.args.question.now) r.options c.loop-place.place past c.loop-place.invariant
