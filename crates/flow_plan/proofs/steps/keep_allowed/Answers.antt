use Rattle.std.proofs.Common.{◌≡◌, ◌<◌, ◌≤◌, ◌↔◌, ◌∙◌, IsTrue, List, ap, arith, length, refl, subst, sym}
use Rattle.std.proofs.lemmas.List.{length-map, take_all}
use Rattle.leaf_rows.specs.Leaves.{has_leaf}
use Rattle.flow_model.specs.Lists.{Each}
use Rattle.flow_model.proofs.Lists.{each_member}
use Rattle.flow_plan.specs.declared.part_row.PartRow.{PartRow}
use Rattle.flow_plan.specs.declared.span.Span.{Span}
use Rattle.flow_plan.specs.Parts.{IsPlaced, PartAllows}
use Rattle.flow_plan.proofs.KnownLemmas.{span_there}
use Rattle.flow_plan.proofs.StepRows.{kept_step, part_at}
use Rattle.flow_plan.proofs.steps.keep_allowed.Goals as goal

pub loop-place-init : goal.loop-place-init
loop-place-init g c = λ laid. (c.new-passed.ensures.passed g.row.W c.args.all.now c.args.sides.now c.args.leaves, tt, λ n. (λ has. (has, tt), λ both. both.0))

pub loop-place-preserved : goal.loop-place-preserved
loop-place-preserved g c = λ laid.
    let all = c.args.all.now in
    let parts = c.args.parts.now in
    let i = c.loop-place.place in
    let row = c.index-parts-place.result in
    let before = c.loop-place.invariant laid in
    let within : i < length parts = omega (arith, c.loop-place-test.true, c.min-place-end.ensures) in
    let here = each_member (IsPlaced all) parts laid.0 row (part_at parts i row row within c.index-parts-place.is) in
    let same = span_there c.args.spans.now parts i _ (record { first = 0; end = 0 }) row row laid.1 within refl c.index-parts-place.is in
    let upto = c.up_to-passed.ensures (subst (λ (s : Span). s.end ≤ length all) (sym same) here.within) before.0 in
    let kept = c.pass.ensures all c.args.leaves same here upto.0 (upto.1 ∙ ap (λ (s : Span). s.end) same) (λ n has. ((before.2 n).0 has).0) before.1 in (
      upto.0,
      kept.0,
      λ n. kept_step (λ (row : PartRow g.row.W). PartAllows row c.args.sides.now n) parts i row
          (has_leaf c.pass.new.self.leaves n) (has_leaf c.loop-place.kept.leaves n) (has_leaf c.args.leaves n) within c.index-parts-place.is (kept.1 n) (before.2 n),
    )

pub returns : goal.returns
returns g c = λ laid.
    let parts : List (PartRow g.row.W) = c.args.parts.now in
    let same : length c.args.spans.now ≡ length parts = ap length laid.1 ∙ length-map parts (λ (row : PartRow g.row.W). row.span) in
    let all = take_all c.loop-place.place parts (omega (arith, same, c.loop-place-test.false, c.min-place-end.ensures)) in
    λ n. subst (λ (l : List (PartRow g.row.W)). IsTrue (has_leaf c.loop-place.kept.leaves n) ↔ (IsTrue (has_leaf c.args.leaves n) × Each (λ row. PartAllows row c.args.sides.now n) l))
    all ((c.loop-place.invariant laid).2 n)
