use Rattle.flow_staff.specs.Desk.{desk_of}
use Rattle.std.proofs.Common.{◌≤◌, length, true≢false, refl, sym, subst, arith}
use Rattle.std.proofs.lemmas.List.{take_all}
use Rattle.flow_roles.specs.Desked.{Desked}
use Rattle.flow_roles.proofs.TieLemmas.{NoneIs, IsElsewhere, none_more, none_elsewhere, least_elsewhere}
use Rattle.flow_staff.proofs.duties.bound_by.Goals as goal

pub returns-then-is_with_another : goal.returns-then-is_with_another
returns-then-is_with_another c =
    let d : Desked = (desk_of c.args.core.now c.args.policy.now) in
    let are = c.bindings-ties.ensures in
    least_elsewhere d c.args.by c.args.event c.bindings-ties.result.now c.loop-bound.bound-index (record { event = 0; other = 0; index = 0 }) c.loop-bound-test.true are c.loop-bound.invariant (c.if-is_with_another.ensures.0 refl)

pub loop-bound-preserved : goal.loop-bound-preserved
loop-bound-preserved c =
    none_more (IsElsewhere (desk_of c.args.core.now c.args.policy.now) c.args.by c.args.event) c.bindings-ties.result.now c.loop-bound.bound-index (record { event = 0; other = 0; index = 0 }) c.loop-bound-test.true c.loop-bound.invariant
    (λ has. true≢false (sym (c.if-is_with_another.ensures.1 has)))

pub returns : goal.returns
returns c =
    let d : Desked = (desk_of c.args.core.now c.args.policy.now) in
    let ties = c.bindings-ties.result.now in
    let are = c.bindings-ties.ensures in
    let past : length ties ≤ c.loop-bound.bound-index = omega arith in
    none_elsewhere d c.args.by c.args.event ties are (subst (NoneIs (IsElsewhere d c.args.by c.args.event)) (take_all c.loop-bound.bound-index ties past) c.loop-bound.invariant)
