use Rattle.std.proofs.Common.{◌≡◌, ◌≤◌, length, true≢false, refl, sym, arith}
use Rattle.std.specs.String.{string_bytes}
use Rattle.flow_list.specs.declared.taken.TaskOut.{TaskOut}
use Rattle.flow_list.proofs.PlaceLemmas.{none_of_more, none_of_all, some_at}
use Rattle.flow_list.proofs.filter.has_one.Goals as goal

pub returns-then-is_held_by : goal.returns-then-is_held_by
returns-then-is_held_by c = (
  (λ t. some_at (λ (t : TaskOut). string_bytes t.user ≡ c.args.user.now) c.args.tasks.now c.loop-task.task-index _ c.task-item.result c.loop-task-test.true c.task-item.is (c.if-is_held_by.ensures.0 refl)),
  (λ some. refl),
)

pub loop-task-preserved : goal.loop-task-preserved
loop-task-preserved c =
    none_of_more (λ (t : TaskOut). string_bytes t.user ≡ c.args.user.now) c.args.tasks.now c.loop-task.task-index _ c.task-item.result c.loop-task-test.true c.task-item.is c.loop-task.invariant (λ is. true≢false (sym (c.if-is_held_by.ensures.1 is)))

pub returns : goal.returns
returns c =
    let past : length c.args.tasks.now ≤ c.loop-task.task-index = omega arith in (
      (λ t. absurd (true≢false (sym t))),
      (λ some. absurd (none_of_all (λ (t : TaskOut). string_bytes t.user ≡ c.args.user.now) c.args.tasks.now c.loop-task.task-index past c.loop-task.invariant some)),
    )
