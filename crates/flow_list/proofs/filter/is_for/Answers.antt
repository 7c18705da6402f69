use Rattle.std.proofs.Common.{◌↔◌, List, IsTrue, subst}
use Rattle.flow_list.specs.declared.tasks.Beginning.{Beginning}
use Rattle.flow_list.specs.Filter.{SomeBegin}
use Rattle.flow_list.proofs.PlaceLemmas.{first_holds, second_decides}
use Rattle.flow_list.proofs.filter.is_for.Goals as goal

pub returns-then-may_begin_one : goal.returns-then-may_begin_one
returns-then-may_begin_one c =
    first_holds c.may_begin_one.result c.if-may_begin_one.true
    (subst (λ (tasks : List Beginning). IsTrue c.may_begin_one.result ↔ SomeBegin c.args.texts.now.users c.args.user.now tasks) c.deref.ensures.value c.may_begin_one.ensures)

pub returns-else-may_begin_one : goal.returns-else-may_begin_one
returns-else-may_begin_one c =
    second_decides c.may_begin_one.result c.has_one_or_step.result c.if-may_begin_one.false
    (subst (λ (tasks : List Beginning). IsTrue c.may_begin_one.result ↔ SomeBegin c.args.texts.now.users c.args.user.now tasks) c.deref.ensures.value c.may_begin_one.ensures)
    c.has_one_or_step.ensures
