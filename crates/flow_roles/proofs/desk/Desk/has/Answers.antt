use Rattle.std.proofs.Common.{◌↔◌, false, nat_eq, IsTrue, subst}
use Rattle.flow_roles.specs.Desked.{Desked}
use Rattle.flow_roles.specs.Having.{HasEvent}
use Rattle.flow_roles.specs.Invariant.{desked_by}
use Rattle.flow_roles.proofs.TakerLemmas.{none_has, taker_has}
use Rattle.flow_roles.proofs.desk.Desk.has.Goals as goal

pub returns-in-Some : goal.returns-in-Some
returns-in-Some c =
    subst (λ (d : Desked). IsTrue (nat_eq c.in-Some.taker c.args.by) ↔ HasEvent d c.args.event c.args.by) c.self.view_is
    (taker_has (desked_by c.self.inside) c.args.event c.args.by c.in-Some.taker c.in-Some.ensures)

pub returns-in-None : goal.returns-in-None
returns-in-None c =
    subst (λ (d : Desked). IsTrue false ↔ HasEvent d c.args.event c.args.by) c.self.view_is (none_has (desked_by c.self.inside) c.args.event c.args.by c.in-None.ensures)
