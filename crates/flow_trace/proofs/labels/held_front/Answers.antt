use Rattle.std.proofs.Common.{◌≡◌, ◌<◌, min, length, ap, ◌∙◌, arith}
use Rattle.flow_trace.proofs.TraceLemmas.{has_room, held_more, held_so_far, all_held}
use Rattle.flow_trace.proofs.labels.held_front.Goals as goal

pub perform-requires-clause-room : goal.perform-requires-clause-room
perform-requires-clause-room c =
    let many : c.leaves-room.result ≡ length c.args.workflow.now.tree.labels = c.leaves-room.ensures.count ∙ (λ k. length (c.tree.ensures.tree k).labels) in
    let within : c.loop-place.place < length c.args.leaves.now = omega (arith, c.loop-place-test.true, c.min-most.ensures) in
    let less : c.loop-place.place < length c.args.workflow.now.tree.labels = omega (arith, c.loop-place-test.true, c.min-most.ensures, many) in
    has_room c.args.workflow.now c.tree.ensures.well_formed c.args.leaves.now c.loop-place.place within c.loop-place.world c.loop-place.invariant less

pub returns-then-not-perform : goal.returns-then-not-perform
returns-then-not-perform c =
    let within : c.loop-place.place < length c.args.leaves.now = omega (arith, c.loop-place-test.true, c.min-most.ensures) in
    held_so_far c.args.workflow.now c.tree.ensures.well_formed c.args.leaves.now c.loop-place.place within c.loop-place.world c.loop-place.invariant
    c.perform.result c.perform.ensures.holds c.if-not-perform.true

pub loop-place-preserved : goal.loop-place-preserved
loop-place-preserved c =
    let within : c.loop-place.place < length c.args.leaves.now = omega (arith, c.loop-place-test.true, c.min-most.ensures) in
    let both = c.perform.ensures.holds.0 c.if-not-perform.false in
    held_more c.args.workflow.now c.tree.ensures.well_formed c.args.leaves.now c.loop-place.place within c.loop-place.world c.loop-place.invariant
    c.perform.new.world both.0 both.1 c.if-not-perform.ensures.performed

pub returns : goal.returns
returns c =
    let many : c.leaves-room.result ≡ length c.args.workflow.now.tree.labels = c.leaves-room.ensures.count ∙ (λ k. length (c.tree.ensures.tree k).labels) in
    all_held c.args.workflow.now c.tree.ensures.well_formed c.args.leaves.now c.min-most.result c.loop-place.place c.loop-place.world
    (c.min-most.ensures ∙ ap (min (length c.args.leaves.now)) many) c.loop-place-test.false c.loop-place.auto.place-end c.loop-place.invariant
