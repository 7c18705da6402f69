use Rattle.std.proofs.Common.{◌<◌, ◌*◌, arith}
use Rattle.std.proofs.lemmas.List.Elements.{All-drop, All-take}
use Rattle.flow_plan.proofs.PartLemmas.{reach_grown}
use Rattle.flow_plan.proofs.part_row.Reach.of.Goals as goal

pub add-requires : goal.add-requires
add-requires g c = (omega (arith, c.args.self.inside.sized), (omega (arith, c.args.self.inside.sized), All-take (λ n. n < 64 * g.row.W) _ _ (All-drop (λ n. n < 64 * g.row.W) _ c.args.leaves.now c.requires.small)))

pub add-requires-2 : goal.add-requires-2
add-requires-2 g c = (omega (arith, c.args.self.inside.sized), (omega (arith, c.args.self.inside.sized), All-take (λ n. n < 64 * g.row.W) _ _ (All-drop (λ n. n < 64 * g.row.W) _ c.args.leaves.now c.requires.small)))

pub returns-clause-reaches : goal.returns-clause-reaches
returns-clause-reaches g c =
    let old = c.within-reach.result in
    let within = c.within-reach.ensures.within in
    reach_grown c.args.leaves.now c.args.rows.now c.args.span old c.add.new.self c.add-2.new.self within.0 within.1 within.2
    (c.within-reach.ensures.reaches c.args.leaves.now c.args.rows.now c.requires.reaches) c.add.ensures.inside c.add.ensures.before c.add-2.ensures.inside c.add-2.ensures.before
