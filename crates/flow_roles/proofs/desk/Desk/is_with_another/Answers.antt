use Rattle.std.proofs.Common.{◌↔◌, false, not, nat_eq, IsTrue, subst}
use Rattle.flow_roles.specs.Desked.{Desked}
use Rattle.flow_roles.specs.Having.{IsWithAnother}
use Rattle.flow_roles.specs.Invariant.{desked_by}
use Rattle.flow_roles.proofs.TakerLemmas.{none_with_another, taker_is_another}
use Rattle.flow_roles.proofs.desk.Desk.is_with_another.Goals as goal

pub returns : goal.returns
returns c =
    subst (λ (d : Desked). IsTrue (not (nat_eq c.in-Some.taker c.args.by)) ↔ IsWithAnother d c.args.event c.args.by) c.self.view_is
    (taker_is_another (desked_by c.self.inside) c.args.event c.args.by c.in-Some.taker c.in-Some.ensures)

pub returns-in_default : goal.returns-in_default
returns-in_default c =
    subst (λ (d : Desked). IsTrue false ↔ IsWithAnother d c.args.event c.args.by) c.self.view_is
    (none_with_another (desked_by c.self.inside) c.args.event c.args.by c.in_default.ensures)
