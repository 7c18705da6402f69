use Rattle.std.proofs.Common.{◌≤◌, subst}
use Rattle.flow_plan.specs.declared.span.Span.{Span}
use Rattle.flow_plan.proofs.PassedLemmas.{all_inside}
use Rattle.flow_plan.proofs.passed.Kept.lie_in.Goals as goal

pub returns-in-Some : goal.returns-in-Some
returns-in-Some g c = λ lies ns row same placed held n has.
    let both = c.lies_in.ensures.0 lies in
    let begins = subst (λ (s : Span). s.first ≤ c.in-Some.held.first) same both.0 in
    let ends = subst (λ (s : Span). c.in-Some.held.end ≤ s.end) same both.1 in
    all_inside ns row c.args.self.now.leaves c.args.self.now.within c.in-Some.held c.in-Some.is begins ends placed held n has
