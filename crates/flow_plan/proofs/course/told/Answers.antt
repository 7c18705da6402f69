use Rattle.std.proofs.Common.{IsTrue}
use Rattle.leaf_rows.specs.Leaves.{has_leaf}
use Rattle.flow_plan.proofs.CourseLemmas.{tell_of_sides}
use Rattle.flow_plan.proofs.course.told.Goals as goal

pub returns : goal.returns
returns c = λ p served. tell_of_sides p (λ n. IsTrue (has_leaf c.args.done.now n)) (λ n. IsTrue (has_leaf c.new.result n)) c.new-2.result c.cut.result served.small
    (c.new-2.ensures p.process served.rows served.folded served.distinct) c.cut.ensures
