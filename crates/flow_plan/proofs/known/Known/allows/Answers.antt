use Rattle.std.proofs.Common.{◌⊎◌, subst, sym, ◌∙◌, true≢false}
use Rattle.flow_plan.specs.declared.span.Span.{Span}
use Rattle.flow_plan.specs.Known.{AreAside, IsAround, IsWithin}
use Rattle.flow_plan.specs.Parts.{PartAllows}
use Rattle.flow_plan.specs.Span.{at_span}
use Rattle.flow_plan.proofs.KnownLemmas.{aside_allows, known_holds, known_within}
use Rattle.flow_plan.proofs.known.Known.allows.Goals as goal
use Rattle.flow_plan.proofs.known.Known.allows.Goals.{then-not-lies_aside+else-not-allows+else-has-2, else-not-lies_aside}

pub returns-then-has-clause-yes : goal.returns-then-has-clause-yes
returns-then-has-clause-yes g c = λ yes same placed known. (
  known,
  known_holds (λ row. PartAllows row c.args.sides.now c.args.leaf) c.args.leaves.now c.args.self.now c.args.part.now known
      (subst (λ (s : Span). IsAround c.args.self.now.around s ⊎ IsWithin c.args.self.now.within s) same (c.has.ensures c.if-has.true)) placed,
)

pub returns-then-not-allows-clause-no : goal.returns-then-not-allows-clause-no
returns-then-not-allows-clause-no g c = λ _ allows. true≢false (sym (c.allows.ensures.1 allows) ∙ c.if-not-allows.true)

pub returns-then-has-2-clause-yes : goal.returns-then-has-2-clause-yes
returns-then-has-2-clause-yes g c = λ yes same placed known. (known, c.allows.ensures.0 c.if-not-allows.false)

pub returns-clause-yes : goal.returns-clause-yes
returns-clause-yes g c = λ yes same placed known.
    known_within c.args.leaves.now c.args.sides.now c.args.leaf c.args.part.now c.args.span c.args.self.now same placed
    (elim c.if-not-lies_aside.branch [
      | then-not-lies_aside+else-not-allows+else-has-2 w ↦ (λ mine. true≢false (sym mine ∙ sym w.has-then-not-lies_aside.ensures ∙ w.if-has-2.false), w.allows.ensures.0 w.if-not-allows.false)
      | else-not-lies_aside w ↦ aside_allows c.args.leaves.now c.args.sides.now c.args.leaf c.args.part.now placed
          (subst (λ (s : Span). AreAside c.args.sides.now.done c.args.leaf (at_span s c.args.leaves.now)) same (c.lies_aside.ensures w.if-not-lies_aside.false))
    ])
    known
