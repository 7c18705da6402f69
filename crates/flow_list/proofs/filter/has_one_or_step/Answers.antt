use Rattle.std.proofs.Common.{◌↔◌, List, IsTrue, subst}
use Rattle.flow_list.specs.declared.taken.TaskOut.{TaskOut}
use Rattle.flow_list.specs.Filter.{SomeOut}
use Rattle.flow_list.proofs.PlaceLemmas.{first_holds, second_decides}
use Rattle.flow_list.proofs.filter.has_one_or_step.Goals as goal

pub returns-then-has_one : goal.returns-then-has_one
returns-then-has_one c =
    first_holds c.has_one.result c.if-has_one.true
    (subst (λ (tasks : List TaskOut). IsTrue c.has_one.result ↔ SomeOut c.args.user.now tasks) c.deref.ensures.value c.has_one.ensures)

pub returns-else-has_one : goal.returns-else-has_one
returns-else-has_one c =
    second_decides c.has_one.result c.has_step.result c.if-has_one.false
    (subst (λ (tasks : List TaskOut). IsTrue c.has_one.result ↔ SomeOut c.args.user.now tasks) c.deref.ensures.value c.has_one.ensures) c.has_step.ensures
