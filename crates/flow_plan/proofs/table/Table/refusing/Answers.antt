use Rattle.std.proofs.Common.{◌≡◌, ◌-◌, ◌+◌, ◌<◌, ℕ, List, ap, arith, drop, length, subst, sym, ◌∙◌}
use Rattle.std.proofs.lemmas.List.{drop_all, length-map}
use Rattle.flow_model.specs.Lists.{Each}
use Rattle.flow_model.proofs.Lists.{each_member}
use Rattle.flow_plan.specs.declared.part_row.PartRow.{PartRow}
use Rattle.flow_plan.specs.Parts.{IsPlaced, PartAllows}
use Rattle.flow_plan.proofs.KnownLemmas.{each_part_before, span_there}
use Rattle.flow_plan.proofs.StepRows.{part_at}
use Rattle.flow_plan.proofs.table.Table.refusing.Goals as goal

pub loop-rest-init : goal.loop-rest-init
loop-rest-init g c = (
  omega (arith, c.min-rest.ensures, c.len.ensures),
  omega (arith, c.min-rest.ensures, c.len-2.ensures),
  λ laid.
      let parts : List (PartRow g.row.W) = c.args.self.now.parts.items in
      let same : length c.args.self.now.spans.items ≡ length parts = ap length laid.1 ∙ length-map parts (λ (row : PartRow g.row.W). row.span) in (
        c.known_for-known.ensures c.args.leaves.now laid.0,
        subst (λ (l : List (PartRow g.row.W)). Each (λ row. PartAllows row c.args.sides.now c.args.leaf) l)
            (sym (drop_all c.min-rest.result parts (omega (arith, same, c.min-rest.ensures, c.len.ensures, c.len-2.ensures)))) tt,
      ),
)

pub returns-then-not-allows-clause-some : goal.returns-then-not-allows-clause-some
returns-then-not-allows-clause-some g c = (
  part_at c.args.self.now.parts.items (c.loop-rest.rest - 1) c.index-part.result.now c.index-part.result.now
      (omega (arith, c.loop-rest.invariant.0, c.loop-rest-test.true)) c.index-part.ensures,
  c.allows.ensures.no c.if-not-allows.true,
)

pub loop-rest-preserved : goal.loop-rest-preserved
loop-rest-preserved g c = (
  omega (arith, c.loop-rest.invariant.0),
  omega (arith, c.loop-rest.invariant.1),
  λ laid.
      let parts : List (PartRow g.row.W) = c.args.self.now.parts.items in
      let P = λ (row : PartRow g.row.W). PartAllows row c.args.sides.now c.args.leaf in
      let i : ℕ = c.loop-rest.rest - 1 in
      let row = c.index-part.result.now in
      let within : i < length parts = omega (arith, c.loop-rest.invariant.0, c.loop-rest-test.true) in
      let placed = each_member (IsPlaced c.args.leaves.now) parts laid.0 row (part_at parts i row row within c.index-part.ensures) in
      let before = c.loop-rest.invariant.2 laid in
      let more : c.loop-rest.rest ≡ i + 1 = omega (arith, c.loop-rest-test.true) in
      let step = c.allows.ensures.yes c.if-not-allows.false
      (span_there c.args.self.now.spans.items parts i c.index.result.now c.index.result.now row row laid.1 within c.index.ensures c.index-part.ensures) placed before.0 in
      (step.0, each_part_before P parts i row row within c.index-part.ensures step.1 (subst (λ (k : ℕ). Each P (drop k parts)) more before.1)),
)

pub returns-clause-none : goal.returns-clause-none
returns-clause-none g c = λ laid.
    let none : c.loop-rest.rest ≡ 0 = omega (arith, c.loop-rest-test.false) in
    subst (λ (k : ℕ). Each (λ row. PartAllows row c.args.sides.now c.args.leaf) (drop k c.args.self.now.parts.items)) none (c.loop-rest.invariant.2 laid).1
