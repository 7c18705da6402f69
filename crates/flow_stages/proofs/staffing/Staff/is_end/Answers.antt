use Rattle.std.proofs.Common.{subst}
use Rattle.flow_stages.specs.declared.wanted.Wanted.{Wanted}
use Rattle.flow_stages.specs.Fitting.{MissesBy}
use Rattle.flow_stages.proofs.staffing.Staff.is_end.Goals as goal

pub returns-in-NobodyFor-clause-met : goal.returns-in-NobodyFor-clause-met
returns-in-NobodyFor-clause-met c = λ is misses.
    let (user, may) = subst (λ (v : Wanted). MissesBy c.args.self.now.policy.now.duties v c.args.taken.now) c.in-NobodyFor.is misses in
    c.nobody_may_have.ensures.nobody is user may
