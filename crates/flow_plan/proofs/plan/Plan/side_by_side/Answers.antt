use Rattle.std.proofs.lemmas.Bool.{false≢true, or_cases, or_left, or_right, true≢false}
use Rattle.std.proofs.Common.{ap, not, ℕ, List, ◌∷◌, inl, inr, ⊎_elim, sym, ◌∙◌, eq-eqb, eqb-true}
use Rattle.leaf_rows.specs.Leaves.{has_leaf}
use Rattle.flow_model.specs.Lists.{◌∈◌, Each, AreDistinct}
use Rattle.flow_plan.specs.Sided.{IsDoneIn}
use Rattle.flow_plan.specs.Orders.{MayComeNext}
use Rattle.flow_plan.specs.Rows.{IsRowOf}
use Rattle.flow_plan.proofs.Following.{by_two}
use Rattle.flow_plan.proofs.PlaceLemmas.{may_ask}
use Rattle.flow_plan.proofs.Readiness.{all_small, kept_small}
use Rattle.flow_plan.proofs.StepRows.{orders_distinct}
use Rattle.flow_plan.proofs.plan.Plan.side_by_side.Goals as goal
use Rattle.flow_plan.proofs.plan.Plan.side_by_side.Goals.{then-not-ready-via-then-not-ready, then-not-ready-via-else-not-ready+then-not-each_ready}

pub returns-then-not-ready : goal.returns-then-not-ready
returns-then-not-ready c = (
  λ wrong. absurd (false≢true wrong),
  λ all. let told = by_two c.args.self.now (has_leaf c.args.sides.now.done) (c.args.leaf ∷ c.args.claims.now) all in
      elim c.then-not-ready.branch [
        | then-not-ready-via-then-not-ready w ↦ absurd (true≢false (sym (c.ready.ensures.1 told.0.0) ∙ w.if-not-ready.true))
        | then-not-ready-via-else-not-ready+then-not-each_ready w ↦ absurd (true≢false (sym (w.each_ready.ensures.1 told.0.1) ∙ w.if-not-each_ready.true))
      ],
)

pub distinct-requires : goal.distinct-requires
distinct-requires c = all_small c.self.inside.rows (IsDoneIn c.args.sides.now) c.args.claims.now c.self.invariant c.self.view_is (c.each_ready.ensures.0 c.if-not-each_ready.false)

pub returns-in_default : goal.returns-in_default
returns-in_default c = (
  λ wrong. absurd (false≢true wrong),
  λ all. absurd (c.in_default.ensures.none (orders_distinct c.args.self.now (has_leaf c.args.sides.now.done) (c.args.leaf ∷ c.args.claims.now) all).1),
)

pub returns-then-not-has : goal.returns-then-not-has
returns-then-not-has c =
    let list : List ℕ = c.args.leaf ∷ c.args.claims.now in
    let each : Each (MayComeNext c.args.self.now (IsDoneIn c.args.sides.now)) list = (c.ready.ensures.0 c.if-not-ready.false, c.each_ready.ensures.0 c.if-not-each_ready.false) in
    let set_is = c.in-Some.ensures.some.1 in
    let distinct : AreDistinct list = (λ member. absurd (true≢false (sym (c.has.ensures ∙ (set_is c.args.leaf).1 member) ∙ c.if-not-has.true)), c.in-Some.ensures.some.0) in
    let row : IsRowOf (λ x. x ∈ list) c.with.result = λ x. (
      λ has. ⊎_elim (λ same. inl (eqb-true x c.args.leaf same)) (λ h. inr ((set_is x).0 h)) (or_cases _ _ (sym (c.with.ensures x) ∙ has)),
      λ member. c.with.ensures x ∙ ⊎_elim (λ same. or_left _ _ (eq-eqb x c.args.leaf same)) (λ h. or_right _ _ ((set_is x).1 h)) member,
    ) in
    c.go_together.ensures (has_leaf c.args.sides.now.done) list row distinct each c.requires.apart

pub returns-else-not-has : goal.returns-else-not-has
returns-else-not-has c = (
  λ wrong. absurd (false≢true (sym (ap not c.if-not-has.false) ∙ wrong)),
  λ all. absurd ((orders_distinct c.args.self.now (has_leaf c.args.sides.now.done) (c.args.leaf ∷ c.args.claims.now) all).0
      ((c.in-Some.ensures.some.1 c.args.leaf).0 (sym c.has.ensures ∙ c.if-not-has.false))),
)

pub has-requires : goal.has-requires
has-requires c = may_ask c.args.leaf (kept_small c.self.inside.rows c.self.invariant c.self.view_is c.args.leaf (c.ready.ensures.0 c.if-not-ready.false).leaf)

pub with-requires : goal.with-requires
with-requires c = may_ask c.args.leaf (kept_small c.self.inside.rows c.self.invariant c.self.view_is c.args.leaf (c.ready.ensures.0 c.if-not-ready.false).leaf)
