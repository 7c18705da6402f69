use Rattle.std.proofs.Common.{◌≡◌, ◌<◌, length, slice_get, Some, ⊎_elim, sym, subst, arith}
use Rattle.std.proofs.lemmas.Bool.{cases_lt}
use Rattle.flow_workflow.specs.Definition.{schema_of}
use Rattle.flow_stages.specs.Listed.{IsOpen}
use Rattle.flow_stages.proofs.Closure.{begins_more, followed_more, same_back, place_of, not_open}
use Rattle.flow_stages.proofs.search.Search.explore.Goals as goal

pub returns-then-place-len-clause-followed : goal.returns-then-place-len-clause-followed
returns-then-place-len-clause-followed c = λ _ node m.
    let (k, within, at) = place_of c.loop-place.nodes.items node m in
    c.loop-place.invariant.followed k node (omega (arith, within, c.if-place-len.true, c.len.ensures)) at

pub returns-in_default : goal.returns-in_default
returns-in_default c = record {
  grows = begins_more c.args.nodes.now.items c.loop-place.nodes.items c.expand.new.nodes.items c.loop-place.invariant.grows c.expand.ensures.grows;
  reached = c.expand.ensures.reached;
  told = c.in_ok-look.ensures.told;
  fewer = omega (arith, c.expand.ensures.fewer, c.loop-place.invariant.fewer);
  quiet = λ going. absurd (not_open c.in_ok-look.look c.in_default.not-Open going);
  followed = λ going. absurd (not_open c.in_ok-look.look c.in_default.not-Open going);
}

pub loop-place-preserved : goal.loop-place-preserved
loop-place-preserved c =
    let w = schema_of c.args.self.now.workflow.now in
    let d = c.args.self.now.staff.policy.now.duties in
    let p = c.args.self.now.plan.now in
    let question = c.args.self.now.question in
    let old = c.loop-place.nodes.items in
    let new = c.expand.new.nodes.items in
    let grows = c.expand.ensures.grows in
    let place = c.loop-place.place in
    let inside : place < length old = omega (arith, c.if-place-len.false, c.len.ensures) in
    let going = subst IsOpen (sym c.in-Open.is) tt in record {
      grows = begins_more c.args.nodes.now.items old new c.loop-place.invariant.grows grows;
      reached = c.expand.ensures.reached;
      fewer = omega (arith, c.expand.ensures.fewer, c.loop-place.invariant.fewer);
      quiet = λ before. c.in_ok-look.ensures.quiet going (c.loop-place.invariant.quiet before);
      followed = λ k node below at.
          let within : k < length old = omega (arith, below, inside) in
          let there = same_back old new k node grows within at in
          ⊎_elim
          (λ less. followed_more w d p question old new node grows (c.loop-place.invariant.followed k node less there))
          (λ past.
          let same : k ≡ place = omega (arith, below, past) in
          c.in_ok-look.ensures.followed going node (subst (λ j. slice_get old j ≡ Some node) same there))
          (cases_lt k place);
    }
