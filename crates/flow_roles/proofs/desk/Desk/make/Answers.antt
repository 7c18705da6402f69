use Rattle.std.proofs.Common.{◌↔◌, IsTrue, sym, subst}
use Rattle.flow_core.specs.Make.{CanMake}
use Rattle.flow_roles.specs.Ask.{IsLeftFor}
use Rattle.flow_roles.specs.Desked.{Desked}
use Rattle.flow_roles.specs.Invariant.{desked_by}
use Rattle.flow_roles.proofs.Dutiful.{made_dutiful}
use Rattle.flow_roles.proofs.desk.Desk.make.Goals as goal

pub invariant_of-self : goal.invariant_of-self
invariant_of-self c =
    let left = subst (λ (d : Desked). IsLeftFor d c.args.entry.by c.args.entry.step) (sym c.self.view_is) (c.is_left_for.ensures.0 c.if-is_left_for.true) in
    made_dutiful (desked_by c.self.inside) c.args.entry.by c.args.entry.step c.make.result c.make.new.self left c.make.ensures.made c.make.ensures.kept c.self.invariant

pub returns-then-is_left_for-clause-allowed : goal.returns-then-is_left_for-clause-allowed
returns-then-is_left_for-clause-allowed c =
    let left = c.is_left_for.ensures.0 c.if-is_left_for.true in
    let allowed = subst (λ (d : Desked). IsTrue c.make.result ↔ CanMake d.run c.args.entry.step) c.self.view_is c.make.ensures.allowed in
    ((λ made. (left, allowed.0 made)), (λ can. allowed.1 can.1))
