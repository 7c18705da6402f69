use Rattle.std.proofs.Common.{rules, ◌+◌, List, drop, refl, subst}
use Rattle.std.proofs.lemmas.List.{drop_all, drop_more}
use Rattle.flow_goal.specs.declared.node.Node.{Node}
use Rattle.flow_goal.specs.declared.node.Node.TheVariants.{Nop}
use Rattle.flow_plan.specs.Planned.{pairs_of}
use Rattle.flow_sample.specs.ItemMarks.{Gathers}
use Rattle.flow_sample.proofs.SideLemmas.{ordered}
use Rattle.flow_sample.proofs.GatheringLemmas.{begun_items}
use Rattle.flow_sample.proofs.items.items_of_plan.Goals as goal

pub loop-node-init : goal.loop-node-init
loop-node-init g c =
    begun_items c.args.plan.now c.nodes-node-items.result.now record { place = 0; items = c.new.result; outer = c.new-2.result } (ordered c.args.plan.now.process (pairs_of c.args.plan.now.tokens) c.nodes-node-items.ensures.ordered c.requires.choice_free) c.nodes-node-items.ensures.nodes c.leaves-leaves.ensures.listed
    c.leaves-leaves.ensures.rising refl c.new.ensures.items c.new-2.ensures.items

pub read-requires : goal.read-requires
read-requires g c =
    let nodes = c.nodes-node-items.result.now in
    let i = c.loop-node.node-index in
    let wide = c.requires.wide in (
      search rules,
      (
        wide,
        (
          c.requires.small,
          (
            c.requires.choice_free,
            (
              drop (i + 1) nodes,
              subst (λ (l : List Node). Gathers c.args.plan.now l c.loop-node.gathering) (drop_more nodes i Nop c.loop-node-test.true) c.loop-node.invariant,
            ),
          ),
        ),
      ),
    )

pub loop-node-preserved : goal.loop-node-preserved
loop-node-preserved g c =
    let nodes = c.nodes-node-items.result.now in
    let i = c.loop-node.node-index in
    c.in_ok-read.ensures (drop (i + 1) nodes)
    (subst (λ (l : List Node). Gathers c.args.plan.now l c.loop-node.gathering) (drop_more nodes i Nop c.loop-node-test.true) c.loop-node.invariant)

pub returns : goal.returns
returns g c =
    subst (λ (l : List Node). Gathers c.args.plan.now l c.loop-node.gathering) (drop_all c.loop-node.node-index c.nodes-node-items.result.now c.loop-node-test.false) c.loop-node.invariant
