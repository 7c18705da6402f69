use Rattle.std.proofs.Common.{ℕ, take}
use Rattle.flow_model.specs.Lists.{Each}
use Rattle.flow_stages.specs.Fitting.{GoesWith}
use Rattle.flow_stages.proofs.staffing.Staff.may_have.Given as goal

abbrev pub invariant-loop-one : goal.invariant-loop-one
invariant-loop-one l = Each (λ (t : ℕ × ℕ). GoesWith l.self.policy.now.duties l.wanted l.event l.user t.0 t.1) (take l.one-index l.taken)
