use Rattle.std.proofs.Common.{ℕ, IsTrue, not, ap, sym, ◌∙◌}
use Rattle.std.proofs.lemmas.Bool.{false≢true, true≢false}
use Rattle.flow_model.specs.Lists.{◌∈◌}
use Rattle.flow_model.specs.FoldedReady.{IsClosedOff}
use Rattle.flow_model.proofs.Lists.{each_member, each_from_members}
use Rattle.flow_plan.specs.Orders.{MayComeNext}
use Rattle.flow_plan.proofs.ClosedLemmas.{none_closed}
use Rattle.flow_plan.proofs.Following.{every_order, by_two}
use Rattle.flow_plan.proofs.Readiness.{kept_ordered}
use Rattle.flow_plan.proofs.Together.{apart_by_two}
use Rattle.flow_plan.proofs.plan.Plan.go_together.Goals as goal

pub returns-then-not-meets : goal.returns-then-not-meets
returns-then-not-meets c = λ done list is distinct each apart_is.
    let p = c.args.self.now in
    let none : (y : ℕ) → y ∈ list → ¬ (IsClosedOff p.process (λ x. x ∈ list) y) = λ y y_in closed.
    let next = each_member (MayComeNext p (λ x. IsTrue (done x))) list each y y_in in
    true≢false (sym (c.meets.ensures.1 (y, (is y).1 y_in, (apart_is y next.leaf).1 closed)) ∙ c.if-not-meets.true) in
    let two = c.keeps_together.ensures done list is distinct each (each_from_members (λ n. ¬ (IsClosedOff p.process (λ x. x ∈ list) n)) list none) in (
      λ yes. every_order p done list each (two.0 yes),
      λ all. two.1 (by_two p done list all).1,
    )

pub returns-else-not-meets : goal.returns-else-not-meets
returns-else-not-meets c = λ done list is distinct each apart_is.
    let p = c.args.self.now in
    let ordered = kept_ordered c.self.inside.rows c.self.invariant.kept c.self.view_is in (
      λ wrong. absurd (false≢true (sym (ap not c.if-not-meets.false) ∙ wrong)),
      λ all. let (k, mine, has) = c.meets.ensures.0 c.if-not-meets.false in
          let k_in = (is k).0 mine in
          absurd (none_closed p.process list (apart_by_two p (λ x. IsTrue (done x)) list ordered (by_two p done list all).1) k k_in
          ((apart_is k (each_member (MayComeNext p (λ x. IsTrue (done x))) list each k k_in).leaf).0 has)),
    )
