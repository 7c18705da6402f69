use Rattle.std.proofs.Common.{◌≡◌, ⊎_elim, sym, subst, true≢false, arith}
use Rattle.std.proofs.lemmas.Bool.{cases_lt}
use Rattle.flow_stages.specs.Fitting.{MayHave}
use Rattle.flow_stages.proofs.staffing.Staff.next_user.Goals as goal

pub loop-user-preserved : goal.loop-user-preserved
loop-user-preserved c = λ v low below may. ⊎_elim
    (λ less. c.loop-user.invariant v low less may)
    (λ past.
    let same : v ≡ c.loop-user.user = omega (arith, below, past) in
    true≢false (sym (c.if-may_have.ensures.1 (subst (λ u. MayHave c.args.self.now.policy.now.duties c.args.wanted c.args.taken.now c.args.event u) same may))))
    (cases_lt v c.loop-user.user)

pub returns-clause-none : goal.returns-clause-none
returns-clause-none c = λ v low below may. c.loop-user.invariant v low (omega (arith, below, c.loop-user-test.false)) may
