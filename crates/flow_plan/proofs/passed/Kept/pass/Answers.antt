use Rattle.std.proofs.Common.{◌≡◌, ap, arith, subst, sym}
use Rattle.flow_model.specs.Lists.{◌∈◌}
use Rattle.flow_plan.specs.declared.span.Span.{Span}
use Rattle.flow_plan.specs.Span.{at_span}
use Rattle.flow_plan.proofs.PassedLemmas.{allows_fresh, allows_finished, allows_inside, holds_inside}
use Rattle.flow_plan.proofs.passed.Kept.pass.Goals as goal
use Rattle.flow_plan.proofs.passed.Kept.pass.Goals.{else-first-passed-2-via-then-first-passed-2+else-not-lie_in, else-first-passed-2-via-else-first-passed-2}

pub returns-else-first-passed : goal.returns-else-first-passed
returns-else-first-passed g c = λ ns asked same placed are ends wanted held.
    let first : c.args.span.first ≡ c.args.part.now.span.first = ap (λ (s : Span). s.first) same in (
      held,
      λ n. (
        λ has. (has, allows_fresh ns c.args.part.now c.args.sides.now asked c.args.passed.now placed are ends (omega (arith, first, c.if-passed-first.true)) (omega (arith, first, c.if-first-passed.false)) n (wanted n has)),
        λ both. both.0,
      ),
    )

pub returns-then-not-lie_in : goal.returns-then-not-lie_in
returns-then-not-lie_in g c = λ ns asked same placed are ends wanted held.
    let first : c.args.span.first ≡ c.args.part.now.span.first = ap (λ (s : Span). s.first) same in (
      λ n has. subst (λ (s : Span). n ∈ at_span s ns) (sym same) (holds_inside ns c.args.part.now c.args.sides.now asked c.args.passed.now placed are ends (omega (arith, first, c.if-passed-first.false)) (omega (arith, first, c.if-first-passed-2.true)) n
          ((c.keep_allowed-self-then-not-lie_in.ensures n).0 has).1),
      c.keep_allowed-self-then-not-lie_in.ensures,
    )

pub returns-else-first-passed-2 : goal.returns-else-first-passed-2
returns-else-first-passed-2 g c = λ ns asked same placed are ends wanted held.
    let first : c.args.span.first ≡ c.args.part.now.span.first = ap (λ (s : Span). s.first) same in (
      held,
      λ n. (
        λ has. (
          has,
          elim c.else-first-passed-2.branch [
            | else-first-passed-2-via-then-first-passed-2+else-not-lie_in w ↦ allows_inside ns c.args.part.now c.args.sides.now asked c.args.passed.now placed are ends (omega (arith, first, c.if-passed-first.false)) n (w.lie_in.ensures w.if-not-lie_in.false ns c.args.part.now same placed held n has)
            | else-first-passed-2-via-else-first-passed-2 w ↦ allows_finished ns c.args.part.now c.args.sides.now asked c.args.passed.now placed are ends (omega (arith, first, c.if-passed-first.false)) (omega (arith, first, w.if-first-passed-2.false)) n
          ],
        ),
        λ both. both.0,
      ),
    )
