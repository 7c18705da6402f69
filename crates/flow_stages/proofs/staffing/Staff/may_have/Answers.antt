use Rattle.std.proofs.Common.{ℕ, refl}
use Rattle.flow_stages.specs.Fitting.{GoesWith}
use Rattle.flow_stages.proofs.Loops.{each_next}
use Rattle.flow_stages.proofs.staffing.Staff.may_have.Goals as goal

pub loop-one-preserved : goal.loop-one-preserved
loop-one-preserved c =
    each_next (λ (t : ℕ × ℕ). GoesWith c.args.self.now.policy.now.duties c.args.wanted c.args.event c.args.user t.0 t.1) c.args.taken.now c.loop-one.one-index (0, 0) c.loop-one-test.true
    c.loop-one.invariant (c.if-not-goes_with.ensures.0 refl)
