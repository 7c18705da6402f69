use Rattle.std.proofs.Common.{◌≡◌, ◌<◌, ◌≤◌, ◌-◌, Some, None, inr, sym, ◌∙◌, arith}
use Rattle.flow_svg.specs.Cuts.{span_at}
use Rattle.flow_svg.proofs.CutLemmas.{IsFound, found, unfound, on_step}
use Rattle.flow_svg.proofs.cuts.first_clear.Goals as goal

pub on-smaller : goal.on-smaller
on-smaller c =
    let f : IsFound c.args.spans.now c.on.place c.in-Some.span = found c.args.spans.now c.on.place c.in-Some.span (sym c.span_at.ensures ∙ c.in-Some.is) in
    let more : c.on.place < c.in-Some.span.right = f.behind in
    let below : c.on.place < c.args.end = c.on-test.true in
    omega (arith, more, below)

pub on-preserved : goal.on-preserved
on-preserved c =
    on_step c.args.spans.now c.on.place c.args.from c.in-Some.span (sym c.span_at.ensures ∙ c.in-Some.is) c.on.invariant.0 c.on.invariant.1

pub returns-in-None-clause-clear : goal.returns-in-None-clause-clear
returns-in-None-clause-clear c = inr (unfound c.args.spans.now c.on.place (sym c.span_at.ensures ∙ c.in-None.is))

pub returns-clause-first : goal.returns-clause-first
returns-clause-first c =
    let past : c.args.end ≤ c.on.place = omega arith in
    λ x least below. c.on.invariant.1 x least (omega (arith, past, below))
