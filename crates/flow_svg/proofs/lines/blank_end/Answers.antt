use Rattle.std.proofs.Common.{◌≡◌, ◌≤◌, sym, ◌∙◌, arith}
use Rattle.flow_svg.proofs.LineLemmas.{blank_found, blank_passed, blank_none}
use Rattle.flow_svg.proofs.lines.blank_end.Goals as goal

pub returns-then-text-end-eq32-clause-end : goal.returns-then-text-end-eq32-clause-end
returns-then-text-end-eq32-clause-end c =
    sym (c.blank.invariant.1 ∙ blank_found c.args.text.now c.args.full c.blank.end c.blank-test.true c.if-text-end-eq32.true)

pub blank-preserved : goal.blank-preserved
blank-preserved c =
    let within : c.blank.end ≤ c.args.full = c.blank.invariant.0 in
    (omega arith, c.blank.invariant.1 ∙ blank_passed c.args.text.now c.args.full c.blank.end c.blank-test.true c.if-text-end-eq32.false)

pub returns-clause-end : goal.returns-clause-end
returns-clause-end c =
    let none : c.blank.end ≡ 0 = omega arith in
    sym (c.blank.invariant.1 ∙ blank_none c.args.text.now c.args.full c.blank.end none)
