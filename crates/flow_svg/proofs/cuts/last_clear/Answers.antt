use Rattle.std.proofs.Common.{◌≡◌, ◌<◌, ◌≤◌, Some, None, sym, ◌∙◌, arith}
use Rattle.flow_svg.specs.Cuts.{span_at}
use Rattle.flow_svg.proofs.CutLemmas.{IsFound, found, unfound, back_step}
use Rattle.flow_svg.proofs.cuts.last_clear.Goals as goal

pub back-smaller : goal.back-smaller
back-smaller c =
    let f : IsFound c.args.spans.now c.back.place c.in-Some.span = found c.args.spans.now c.back.place c.in-Some.span (sym c.span_at.ensures ∙ c.in-Some.is) in
    f.before

pub back-preserved : goal.back-preserved
back-preserved c =
    back_step c.args.spans.now c.back.place c.args.limit c.in-Some.span (sym c.span_at.ensures ∙ c.in-Some.is) c.back.invariant.0 c.back.invariant.1

pub returns-in-None-clause-clear : goal.returns-in-None-clause-clear
returns-in-None-clause-clear c = λ low. unfound c.args.spans.now c.back.place (sym c.span_at.ensures ∙ c.in-None.is)

pub returns-clause-last : goal.returns-clause-last
returns-clause-last c =
    let low : c.back.place ≤ c.args.start = omega arith in
    λ x above high. c.back.invariant.1 x (omega (arith, low, above)) high
