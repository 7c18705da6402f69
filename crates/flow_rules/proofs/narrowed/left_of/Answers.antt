use Rattle.std.proofs.Common.{◌+◌, ◌-◌, ◌^◌, ◌<◌, ◌∙◌, List, Vec, Global, take, get_or, bit_or, refl, sym, subst, arith}
use Rattle.std.proofs.lemmas.List.{take_all}
use Rattle.std.proofs.lemmas.Nat.{or_lt}
use Rattle.flow_rules.specs.declared.narrowed.LaneRule.{LaneRule}
use Rattle.flow_rules.specs.declared.normal.Nnf.{Nnf}
use Rattle.flow_rules.specs.Narrowed.{LeftOf}
use Rattle.flow_rules.proofs.NarrowLemmas.{left_in, left_out}
use Rattle.flow_rules.proofs.narrowed.left_of.Goals as goal
use Rattle.flow_rules.proofs.narrowed.left_of.Goals.{then-open-ne0+in_ok-narrow+in_ok-push, else-open-ne0}

pub loop-place-preserved : goal.loop-place-preserved
loop-place-preserved c =
    let lanes = c.args.lanes.now in
    let rules = c.args.rules.now in
    let unmet = c.args.unmet in
    let i = c.loop-place.place in
    let rule = c.index-rules-place.result in
    let free = get_or c.args.free.now i 0 in
    let left = c.loop-place.left.items in
    let frees = c.requires.each i c.loop-place-test.true rule c.index-rules-place.is in
    let fits : bit_or free unmet < 2 ^ 64 = or_lt 64 free unmet (omega (arith, c.type_inv.free i)) (omega arith) in
    elim c.if-open-ne0.branch [
      | then-open-ne0+in_ok-narrow+in_ok-push w ↦
          left_in unmet lanes rules i rule c.loop-place-test.true c.index-rules-place.is free frees fits left c.if-open-ne0.left.items
          record { lanes = 2 ^ 64 - 1 - bit_or free unmet; rule = w.in_ok-narrow.narrow.rule }
          ((λ k. (w.left-is k).items) ∙ w.in_ok-push.ensures.items) refl w.in_ok-narrow.ensures.ways c.loop-place.invariant
      | else-open-ne0 w ↦
          subst (λ (v : Vec LaneRule Global). LeftOf unmet lanes v.items (take (i + 1) rules)) (sym w.left-is)
          (left_out unmet lanes rules i rule c.loop-place-test.true c.index-rules-place.is free frees fits left w.if-open-ne0.false c.loop-place.invariant)
    ]

pub returns : goal.returns
returns c =
    subst (λ (rules : List Nnf). LeftOf c.args.unmet c.args.lanes.now c.loop-place.left.items rules)
    (take_all c.loop-place.place c.args.rules.now c.loop-place-test.false) c.loop-place.invariant
