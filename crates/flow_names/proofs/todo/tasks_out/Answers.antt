use Rattle.std.proofs.Common.{◌+◌, ◌∙◌, map, List, ap, subst, sym}
use Rattle.flow_model.specs.Lists.{Each}
use Rattle.flow_model.specs.Run.{IsCurrent}
use Rattle.flow_model.specs.Verdict.{AreJust}
use Rattle.flow_core.specs.Run.{now}
use Rattle.flow_core.proofs.RisingLists.{Below, one_passed}
use Rattle.flow_names.specs.declared.todo.OutTask.{OutTask}
use Rattle.flow_names.specs.Todo.{number_of, IsOutTask}
use Rattle.flow_names.proofs.SearchLemmas.{out_found}
use Rattle.flow_names.proofs.todo.tasks_out.Goals.{in-Some+in_ok-push, in_default}
use Rattle.flow_names.proofs.todo.tasks_out.Goals as goal

pub loop-claim-preserved : goal.loop-claim-preserved
loop-claim-preserved c =
    let r = c.args.core.now in
    elim c.match-task_out.branch [
      | in-Some+in_ok-push w ↦ (let e = ap (λ v. v.items) w.out-is ∙ w.in_ok-push.ensures.items in
          let found = out_found r c.loop-claim.claim c.loop-claim.out.items w.in-Some.task c.loop-claim.invariant.claims c.loop-claim.invariant.tasks
          w.in-Some.ensures in
          record {
            claims = subst (λ (l : List OutTask). AreJust (Below (IsCurrent (now r)) (c.loop-claim.claim + 1)) (map number_of l)) (sym e) found.0;
            tasks = subst (λ (l : List OutTask). Each (IsOutTask r) l) (sym e) found.1;
          })
      | in_default w ↦ (let e = ap (λ v. v.items) w.out-is in record {
        claims = subst (λ (l : List OutTask). AreJust (Below (IsCurrent (now r)) (c.loop-claim.claim + 1)) (map number_of l)) (sym e)
            (one_passed (IsCurrent (now r)) c.loop-claim.claim (map number_of c.loop-claim.out.items) c.loop-claim.invariant.claims w.in_default.ensures);
        tasks = subst (λ (l : List OutTask). Each (IsOutTask r) l) (sym e) c.loop-claim.invariant.tasks;
      })
    ]
