use Rattle.std.proofs.Common.{Option, inl, inr, subst, sym}
use Rattle.flow_plan.specs.declared.span.Span.{Span}
use Rattle.flow_plan.specs.Known.{IsAround, IsWithin}
use Rattle.flow_plan.proofs.known.Known.has.Goals as goal

pub returns-then-lies_in : goal.returns-then-lies_in
returns-then-lies_in c = λ yes. inl (subst (λ (o : Option Span). IsAround o c.args.span) (sym c.in-Some.is) (c.lies_in.ensures.0 c.if-lies_in.true))

pub returns-in-Some-within : goal.returns-in-Some-within
returns-in-Some-within c = λ yes. inr (subst (λ (o : Option Span). IsWithin o c.args.span) (sym c.in-Some-within.is) (c.lies_in-in-Some-within.ensures.0 yes))
