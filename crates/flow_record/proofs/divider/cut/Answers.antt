use Rattle.std.proofs.Common.{arith, sym, ◌∙◌}
use Rattle.flow_record.proofs.CutLemmas.{fed, at_divider, at_other, at_end, at_whole}
use Rattle.flow_record.proofs.divider.cut.Goals as goal

pub returns-then-is_divider : goal.returns-then-is_divider
returns-then-is_divider c =
    let here = fed c.loop-line.rest.now c.in-Some.line.now c.in-Some.more.now c.in-Some.ensures in record {
      parts = at_divider _ _ _ c.loop-line.invariant c.in-Some.line.now c.in-Some.more.now c.in-Some.ensures (sym c.is_divider.ensures ∙ c.if-is_divider.true);
      within = (omega (arith, here, c.loop-line.invariant.placed), omega (arith, here, c.loop-line.invariant.placed));
    }

pub loop-line-smaller : goal.loop-line-smaller
loop-line-smaller c = omega (arith, fed c.loop-line.rest.now c.in-Some.line.now c.in-Some.more.now c.in-Some.ensures)

pub loop-line-preserved : goal.loop-line-preserved
loop-line-preserved c =
    at_other _ _ _ c.loop-line.invariant c.in-Some.line.now c.in-Some.more.now c.in-Some.ensures (sym c.is_divider.ensures ∙ c.if-is_divider.false)

pub returns-then-is_divider-2-clause-parts : goal.returns-then-is_divider-2-clause-parts
returns-then-is_divider-2-clause-parts c = at_end _ _ _ c.loop-line.invariant c.in_default.ensures (sym c.is_divider-2.ensures ∙ c.if-is_divider-2.true)

pub returns-else-is_divider-2-clause-parts : goal.returns-else-is_divider-2-clause-parts
returns-else-is_divider-2-clause-parts c = at_whole _ _ _ c.loop-line.invariant c.in_default.ensures (sym c.is_divider-2.ensures ∙ c.if-is_divider-2.false)
