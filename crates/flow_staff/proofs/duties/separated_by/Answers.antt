use Rattle.flow_staff.specs.Desk.{desk_of}
use Rattle.std.proofs.Common.{◌≤◌, length, true≢false, refl, sym, subst, arith}
use Rattle.std.proofs.lemmas.List.{take_all}
use Rattle.flow_roles.specs.Desked.{Desked}
use Rattle.flow_roles.proofs.TieLemmas.{NoneIs, IsHad, none_more, none_apart, least_apart}
use Rattle.flow_staff.proofs.duties.separated_by.Goals as goal

pub returns-then-has : goal.returns-then-has
returns-then-has c =
    let d : Desked = (desk_of c.args.core.now c.args.policy.now) in
    let are = c.separations-ties.ensures in
    least_apart d c.args.by c.args.event c.separations-ties.result.now c.loop-apart.apart-index (record { event = 0; other = 0; index = 0 }) c.loop-apart-test.true are c.loop-apart.invariant (c.if-has.ensures.0 refl)

pub loop-apart-preserved : goal.loop-apart-preserved
loop-apart-preserved c =
    none_more (IsHad (desk_of c.args.core.now c.args.policy.now) c.args.by c.args.event) c.separations-ties.result.now c.loop-apart.apart-index (record { event = 0; other = 0; index = 0 }) c.loop-apart-test.true c.loop-apart.invariant
    (λ has. true≢false (sym (c.if-has.ensures.1 has)))

pub returns : goal.returns
returns c =
    let d : Desked = (desk_of c.args.core.now c.args.policy.now) in
    let ties = c.separations-ties.result.now in
    let are = c.separations-ties.ensures in
    let past : length ties ≤ c.loop-apart.apart-index = omega arith in
    none_apart d c.args.by c.args.event ties are (subst (NoneIs (IsHad d c.args.by c.args.event)) (take_all c.loop-apart.apart-index ties past) c.loop-apart.invariant)
