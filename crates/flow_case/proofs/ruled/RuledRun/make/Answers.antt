use Rattle.std.proofs.Common.{◌↔◌, IsTrue, subst, sym}
use Rattle.flow_roles.specs.Ask.{CanMakeAt}
use Rattle.flow_case.specs.Ruled.{Ruled, MayLet}
use Rattle.flow_case.specs.Invariant.{ruled_by}
use Rattle.flow_case.proofs.Governed.{made_kept}
use Rattle.flow_case.proofs.ruled.RuledRun.make.Goals as goal

pub invariant_of-self : goal.invariant_of-self
invariant_of-self c =
    let leave = subst (λ (x : Ruled). MayLet x c.args.entry) (sym c.self.view_is) (c.lets.ensures.0 c.if-lets.true) in
    made_kept (ruled_by c.self.inside) c.args.entry c.make.result c.make.new.self leave c.make.ensures.made c.make.ensures.kept c.self.invariant

pub returns-then-lets-clause-allowed : goal.returns-then-lets-clause-allowed
returns-then-lets-clause-allowed c =
    let leave = c.lets.ensures.0 c.if-lets.true in
    let allowed = subst (λ (x : Ruled). IsTrue c.make.result ↔ CanMakeAt x.desk c.args.entry) c.self.view_is c.make.ensures.allowed in
    ((λ made. (leave, allowed.0 made)), (λ can. allowed.1 can.1))
