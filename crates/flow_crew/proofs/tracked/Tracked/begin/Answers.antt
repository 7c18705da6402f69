use Rattle.std.proofs.Common.{◌∙◌, ℕ, refl, sym, subst, inl, inr}
use Rattle.flow_model.specs.declared.history.Step.{Step}
use Rattle.flow_model.specs.Verdict.{EndsKept}
use Rattle.flow_core.specs.declared.next.Next.TheVariants as next
use Rattle.flow_core.specs.Next.{IsNext}
use Rattle.flow_core.specs.Run.{Run, schema}
use Rattle.flow_crew.specs.Moves.{Advances}
use Rattle.flow_crew.proofs.Endings.{ends, ends_not, has_steps}
use Rattle.flow_crew.proofs.Histories.{not_last_kept}
use Rattle.flow_crew.proofs.Working.{not_failed}
use Rattle.flow_crew.proofs.tracked.Tracked.begin.Goals as goal
use Rattle.flow_crew.proofs.tracked.Tracked.begin.Goals.{then-is_some-2, else-is_some-2}

-- no step by which a run goes on leaves it with a kept failure
advanced_not_kept : (r : Run) (by : ℕ) (step : Step) (after : Run) → Advances r by step after → (leaf : ℕ) → ¬ EndsKept (schema after) after.history leaf
advanced_not_kept r by step after (n, known, may, is) leaf kept =
    not_last_kept (schema r) r.history (record { by = by; step = step }) (not_failed r n step may) leaf (subst (λ (a : Run). EndsKept (schema a) a.history leaf) is kept)

pub returns-then-is_some : goal.returns-then-is_some
returns-then-is_some c = record {
  begun = inl (rw (← c.self.view_is) (ends c.self.inside.core c.self.inside.end c.self.invariant.ends (sym c.is_some.ensures ∙ c.if-is_some.true)), refl, refl);
  legal = rw (← c.self.view_is) c.self.invariant.legal;
}

pub returns-in-Wait : goal.returns-in-Wait
returns-in-Wait c =
    let none = ends_not c.self.inside.core c.self.inside.end c.self.invariant.ends (sym c.is_some.ensures ∙ c.if-is_some.false) in
    let waits : IsNext c.self.inside.core (next.Wait c.in-Wait.claim) = subst (IsNext c.self.inside.core) c.in-Wait.is c.look-next.ensures.next in
    record {
      begun = inr (inl (
        c.in-Wait.claim,
        rw (← c.self.view_is) none,
        subst (λ (r : Run). IsNext r (next.Wait c.in-Wait.claim)) c.self.view_is waits,
        refl,
        c.look-next.ensures.same ∙ c.self.view_is,
      ));
      legal = rw c.look-next.ensures.same c.self.invariant.legal;
    }

pub go_on-usual-requires : goal.go_on-usual-requires
go_on-usual-requires c =
    let none = ends_not c.self.inside.core c.self.inside.end c.self.invariant.ends (sym c.is_some.ensures ∙ c.if-is_some.false) in
    record {
      unfinished = rw c.look-next.ensures.same none;
      steps = rw c.look-next.ensures.same (has_steps c.self.inside.core none c.self.invariant.legal);
      next = rw c.look-next.ensures.same c.look-next.ensures.next;
      moves = λ claim e. c.in_default.not-Wait claim e;
    }

pub stand-next-requires : goal.stand-next-requires
stand-next-requires c = advanced_not_kept c.look-next.new.core c.args.by c.go_on-usual.ensures.0 c.go_on-usual.new.core c.go_on-usual.ensures.1

pub invariant_of-self : goal.invariant_of-self
invariant_of-self c = record {
  legal = rw c.look-next.ensures.same c.self.invariant.legal;
  goes_on = rw c.look-next.ensures.same c.look-next.ensures.next;
  ends = rw c.look-next.ensures.same c.self.invariant.ends;
}

pub returns-clause-begun : goal.returns-clause-begun
returns-clause-begun c =
    let none = ends_not c.self.inside.core c.self.inside.end c.self.invariant.ends (sym c.is_some.ensures ∙ c.if-is_some.false) in
    let (step, moves, is) = c.go_on-usual.ensures in
    inr (inr (
      step,
      rw (← c.self.view_is) none,
      rw (← c.self.view_is, ← c.look-next.ensures.same) moves,
      elim c.if-is_some-2.branch [
        | then-is_some-2 w ↦ inl (ends c.go_on-usual.new.core c.stand-next.result.1 c.stand-next.ensures.end (sym c.is_some-2.ensures ∙ w.if-is_some-2.true), w.result-is)
        | else-is_some-2 w ↦ inr (ends_not c.go_on-usual.new.core c.stand-next.result.1 c.stand-next.ensures.end (sym c.is_some-2.ensures ∙ w.if-is_some-2.false), w.result-is ∙ is)
      ],
    ))
