use Rattle.std.proofs.Common.{IfSome, IsNone, Option, refl, subst, sym}
use Rattle.flow_goal.specs.Labelled.{Labelled}
use Rattle.flow_goal.specs.Repeats.{IsFirstTwice}
use Rattle.flow_goal.specs.declared.repeats.Twice.{Twice}
use Rattle.flow_expand.proofs.expansion.goal_of.Goals as goal

pub returns-in-Some-clause-refused : goal.returns-in-Some-clause-refused
returns-in-Some-clause-refused c =
    let first = subst (λ (o : Option Twice). IfSome o (IsFirstTwice c.in_ok-goal.goal.tree)) c.in-Some.is c.in_ok-again.ensures.some in
    record {
      expansion = c.in_ok-goal.ensures.expansion;
      measured = c.in_ok-goal.ensures.measured;
      first = subst (λ (t : Labelled). IsFirstTwice t c.in-Some.found) c.in_ok-goal.ensures.tree first;
    }

pub returns-clause-unique : goal.returns-clause-unique
returns-clause-unique c = c.in_ok-again.ensures.none.0 (subst (λ (o : Option Twice). IsNone o) (sym c.in_default.is) refl)
