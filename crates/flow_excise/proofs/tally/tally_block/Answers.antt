use Rattle.std.proofs.Common.{◌≡◌, ◌+◌, ◌∙◌, Some, ap, arith, subst, sym}
use Rattle.std.proofs.lemmas.Option.{slice_get-get_or}
use Rattle.flow_model.specs.Folding.{fixed_leaves}
use Rattle.flow_model.specs.Ways.{leaf_of_event}
use Rattle.flow_rules.specs.WayCount.{count_of}
use Rattle.flow_excise.specs.Tally.{IsCountedTo}
use Rattle.flow_excise.proofs.TallyLemmas.{counted_more}
use Rattle.flow_excise.proofs.tally.tally_block.Goals as goal

pub loop-lane-init : goal.loop-lane-init
loop-lane-init c = λ t normal told shown ways so_far.
    let e : c.args.block.now.first ≡ c.args.block.now.first + 0 = omega arith in
    subst (λ k. IsCountedTo t normal k c.args.counted.now) e so_far

pub loop-lane-preserved : goal.loop-lane-preserved
loop-lane-preserved c = λ t normal told shown ways so_far.
    let block = c.args.block.now in
    let lane = c.loop-lane.lane in
    let long = c.index.result.now in
    let (q, there, counts) = told lane long (slice_get-get_or block.leaves.items lane long (omega (arith, c.requires.size)) ∙ ap Some (sym c.index.ensures)) in
    let next : block.first + (lane + 1) ≡ block.first + lane + 1 = omega arith in
    counted_more t normal (block.first + lane) (block.first + (lane + 1)) long q c.count-count.result c.loop-lane.counted c.add.new.self next there
    (c.count-count.ensures (leaf_of_event t.tree.labels (fixed_leaves q)) (shown lane q c.loop-lane-test.true there) ∙ ap count_of (ways lane q c.loop-lane-test.true there))
    counts c.in_ok-add.ensures.tally c.in_ok-add.ensures.met (c.loop-lane.invariant t normal told shown ways so_far)

pub returns : goal.returns
returns c = λ t normal told shown ways so_far.
    let e : c.loop-lane.lane ≡ c.args.block.now.size = omega arith in
    subst (λ k. IsCountedTo t normal (c.args.block.now.first + k) c.loop-lane.counted) e (c.loop-lane.invariant t normal told shown ways so_far)
