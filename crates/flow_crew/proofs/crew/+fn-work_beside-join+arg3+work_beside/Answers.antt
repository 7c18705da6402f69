use Rattle.std.proofs.Common.{rules, ◌≡◌, ◌≢◌, ◌+◌, ◌-◌, ◌<◌, ℕ, ap, arith}
use Rattle.flow_model.specs.declared.history.Entry.{Entry}
use Rattle.flow_workflow.specs.declared.workflow.Workflow.{Workflow}
use Rattle.flow_turn.specs.Passes.{Knowledge}
use denote.Param.{param}
use denote.Param.Send.{IsSend, IsSync, sendable}
use Rattle.flow_turn.proofs.lock.TurnLock.TheSendSync.{the_sync as lock_sync}
use Rattle.flow_turn.proofs.pass.Pass.TheSendSync.{the_send as pass_send}
use Rattle.flow_crew.proofs.Sending.{book_send}
use Rattle.flow_crew.proofs.idle.Idle.TheSendSync.{the_sync as idle_sync}
use Rattle.flow_crew.proofs.crew.+fn-work_beside-join+arg3+work_beside.Goals as goal

fewer_given : (given workers more : ℕ) → given + workers < 4294967295 → more ≡ given + 1 → workers ≢ 0 → more + (workers - 1) < 4294967295
fewer_given given workers more few is some = omega arith

pub join-pass-requires-send-F : goal.join-pass-requires-send-F
join-pass-requires-send-F g t c κs within =
    let runtime : IsSync (param 0 g.row.R) = search rules parts 8 in
    let shared : IsSync (param 1 g.row.G) = search rules parts 8 in
    let sent : IsSend (param 1 g.row.G) = search rules parts 8 in
    search (book_send, lock_sync, pass_send, idle_sync, sendable) depth 20

pub join-pass-requires-send-A : goal.join-pass-requires-send-A
join-pass-requires-send-A g t c κs within =
    let sent : IsSend (param 1 g.row.G) = search rules parts 8 in
    search (book_send, pass_send, sendable) depth 20

pub join-pass-requires-after_bounds : goal.join-pass-requires-after_bounds
join-pass-requires-after_bounds g t c κs within =
    let runtime : IsSync (param 0 g.row.R) = search rules parts 8 in
    let shared : IsSync (param 1 g.row.G) = search rules parts 8 in
    let sent : IsSend (param 1 g.row.G) = search rules parts 8 in
    let lock : c.split-pass.new.root.lock ≡ c.args.lock.now = rw c.split-pass.ensures.root c.requires.0 in
    let number : c.split-pass.new.root.number ≡ 0 = rw c.split-pass.ensures.root c.requires.1 in
    let given : c.split-pass.new.root.given + (c.args.workers - 1) < 4294967295 = fewer_given _ _ _ c.requires.2 (ap (λ (k : Knowledge Entry (Workflow × ℕ)). k.given) c.split-pass.ensures.root) c.if-workers-eq0.false in
    (((rw c.split-pass.ensures.pass c.requires.0), ((search rules parts 8), (search rules parts 8), (search rules parts 8))), ((search rules depth 1 parts 0 fits 100), ((λ a m. m), ((λ a m. m), ((lock, number, given, runtime), (sent, runtime, shared))))))
