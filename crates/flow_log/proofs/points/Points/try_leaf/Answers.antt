use Rattle.std.proofs.Common.{IsTrue, arith}
use Rattle.leaf_rows.specs.Leaves.{has_leaf}
use Rattle.flow_log.specs.Case.{fitted_of}
use Rattle.flow_log.proofs.PointLemmas.{goes_tried, goes_known, goes_made, tried_none, same_point, none_of, some_of}
use Rattle.flow_log.proofs.points.Points.try_leaf.Goals as goal

pub returns-in_default : goal.returns-in_default
returns-in_default g c =
    let f = fitted_of c.args.case.now in
    goes_tried f c.args.budget c.args.self.now.points.items c.args.place c.args.leaf c.requires.led c.requires.before
    (λ p there. same_point f c.args.self.now.points.items c.args.place c.args.leaf c.args.point.now p c.requires.there there
    (tried_none f c.args.self.now.points.items c.args.point.now c.args.leaf (λ list count begun after. c.in_default.ensures.none list count begun after)))

pub returns-then-is_none : goal.returns-then-is_none
returns-then-is_none g c =
    goes_known (fitted_of c.args.case.now) c.args.budget c.args.self.now.points.items c.args.place c.args.leaf c.args.point.now c.in-Some.next c.requires.led c.requires.before c.requires.there
    c.in-Some.ensures.some c.takers-takers.result c.fresh-next.result c.takers-takers.ensures c.fresh-next.ensures.among c.fresh-next.ensures.all
    (none_of c.first.result c.is_none.result c.is_none.ensures c.if-is_none.true c.first.ensures.none)

pub returns : goal.returns
returns g c =
    goes_made (fitted_of c.args.case.now) c.args.budget c.args.self.now.points.items c.args.place c.args.leaf c.args.point.now c.in-Some.next c.requires.led c.requires.before c.requires.there
    c.in-Some.ensures.some c.takers-takers.result c.fresh-next.result c.takers-takers.ensures c.fresh-next.ensures.among c.fresh-next.ensures.all
    c.in-Some.ensures.made (omega (arith, c.if-budget-len.false, c.len.ensures))
    (some_of (λ n. IsTrue (has_leaf c.fresh-next.result n)) c.first.result c.is_none.result c.is_none.ensures c.if-is_none.false c.first.ensures.member)
    c.push.new.self.points.items c.in_ok-push.ensures
