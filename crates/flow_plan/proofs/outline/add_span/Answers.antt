use Rattle.std.proofs.Common.{◌≡◌, ◌-◌, List, Some, None, slice_get, length, sym, subst, arith}
use Rattle.flow_model.specs.Lists.{◌∈◌}
use Rattle.flow_model.proofs.Lists.{mem-slice_get}
use Rattle.flow_plan.specs.declared.span.Span.{Span}
use Rattle.flow_plan.proofs.SpanLemmas.{test_other, test_same, adds_none, adds_behind, earlier_of_last, earlier_of_none, end_of_last}
use Rattle.flow_plan.proofs.outline.add_span.Goals as goal
use Rattle.flow_plan.proofs.outline.add_span.Goals.{in-Some+else-eq, in_default}

pub returns : goal.returns
returns c =
    let old : List Span = c.args.spans.now.items in
    adds_behind c.args.span old c.push.new.self.items c.in_ok-push.ensures.items (omega (arith, c.if-saturating_sub-lt2.false, c.saturating_sub.ensures))
    (elim c.match-last.branch [
      | in-Some+else-eq w ↦
          let at = subst (λ (l : List Span). Some w.in-Some.last.now ≡ slice_get l (length l - 1)) c.deref.ensures.value w.in-Some.ensures.value in
          earlier_of_last c.args.span w.in-Some.last.now old (length old - 1) at (end_of_last w.in-Some.last.now old at) (test_other w.in-Some.last.now c.args.span w.if-eq.ensures)
      | in_default w ↦ earlier_of_none c.args.span old (subst (λ (l : List Span). None ≡ slice_get l (length l - 1)) c.deref.ensures.value w.in_default.ensures.value)
    ])

pub returns-then-eq : goal.returns-then-eq
returns-then-eq c =
    let spans : List Span = c.args.spans.now.items in
    let at = subst (λ (l : List Span). Some c.in-Some.last.now ≡ slice_get l (length l - 1)) c.deref.ensures.value c.in-Some.ensures.value in
    adds_none c.args.span spans
    (subst (λ (s : Span). s ∈ spans) (test_same c.in-Some.last.now c.args.span c.if-eq.ensures) (mem-slice_get spans (length spans - 1) c.in-Some.last.now (sym at)))
