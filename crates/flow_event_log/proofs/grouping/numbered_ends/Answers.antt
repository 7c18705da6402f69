use Rattle.std.proofs.Common.{◌≡◌, ◌+◌, ℕ, List, length, subst, sym, arith}
use Rattle.flow_event_log.specs.Ends.{HavePlaces}
use Rattle.flow_event_log.proofs.GroupLemmas.{have_more}
use Rattle.flow_event_log.proofs.grouping.numbered_ends.Goals as goal

pub loop-end-preserved : goal.loop-end-preserved
loop-end-preserved c =
    let steps = c.args.tree.now.steps.items in (
      c.in_ok-place.ensures.placed,
      subst (λ (l : List ℕ). HavePlaces steps c.args.ends.now c.place_of.new.sequences.items (c.loop-end.end-index + 1) l) (sym c.in_ok-push.ensures.items)
          (have_more steps c.args.ends.now c.loop-end.of_cases.items c.loop-end.sequences.items c.place_of.new.sequences.items c.loop-end.end-index c.in_ok-place.place
          c.loop-end.invariant.1 c.in_ok-place.ensures.kept c.in_ok-place.ensures.place),
    )

pub returns : goal.returns
returns c =
    let whole : c.loop-end.end-index ≡ length c.args.ends.now = omega arith in
    subst (λ (n : ℕ). HavePlaces c.args.tree.now.steps.items c.args.ends.now c.loop-end.sequences.items n c.loop-end.of_cases.items) whole c.loop-end.invariant.1
