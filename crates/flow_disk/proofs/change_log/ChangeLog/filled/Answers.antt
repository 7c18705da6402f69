use Rattle.std.proofs.Common.{rules, ℕ, ◌+◌, List, drop, slice_index_or, sym, subst}
use Rattle.std.proofs.lemmas.List.{drop_more, drop_all}
use Rattle.flow_disk.specs.declared.change.Change.{Change}
use Rattle.flow_disk.specs.declared.change.Change.TheVariants.{Wrote}
use Rattle.flow_disk.specs.ChangeLog.{past_of, moment_of}
use Rattle.flow_disk.specs.Replay.{CanStep, Steps}
use Rattle.flow_disk.proofs.ReplayLemmas.{Stands, stands_first, can_step, steps, stands_last}
use Rattle.flow_disk.proofs.change_log.ChangeLog.filled.Goals as goal

pub loop-change-init : goal.loop-change-init
loop-change-init c =
    let log = c.args.self.now in
    subst (λ (changes : List Change). Stands log.pool.items c.args.fill changes (past_of log (moment_of log)) c.in_ok-replay.replay)
    (sym c.deref-change-items.ensures.value)
    (stands_first log.first.items log.pool.items log.shown.items log.changes.items c.args.fill c.in_ok-replay.replay log.replays (search rules) (search rules) (search rules))

pub step-requires : goal.step-requires
step-requires c =
    let log = c.args.self.now in
    let changes = c.deref-change-items.result.now in
    let next = slice_index_or changes c.loop-change.change-index (Wrote 0 0) in
    let split = drop_more changes c.loop-change.change-index (Wrote 0 0) c.loop-change-test.true in
    let stands = subst (λ (left : List Change). Stands log.pool.items c.args.fill left (past_of log (moment_of log)) c.loop-change.replay) split c.loop-change.invariant in
    subst (λ (pool : List ℕ). CanStep pool c.loop-change.replay next) (sym c.deref-in-loop-change.ensures.value)
    (can_step log.pool.items c.args.fill next (drop (c.loop-change.change-index + 1) changes) (past_of log (moment_of log)) c.loop-change.replay stands)

pub loop-change-preserved : goal.loop-change-preserved
loop-change-preserved c =
    let log = c.args.self.now in
    let changes = c.deref-change-items.result.now in
    let next = slice_index_or changes c.loop-change.change-index (Wrote 0 0) in
    let split = drop_more changes c.loop-change.change-index (Wrote 0 0) c.loop-change-test.true in
    let stands = subst (λ (left : List Change). Stands log.pool.items c.args.fill left (past_of log (moment_of log)) c.loop-change.replay) split c.loop-change.invariant in
    let to = subst (λ (pool : List ℕ). Steps pool c.args.fill c.loop-change.replay next c.step.new.self) c.deref-in-loop-change.ensures.value c.in_ok-step.ensures in
    steps log.pool.items c.args.fill next (drop (c.loop-change.change-index + 1) changes) (past_of log (moment_of log)) c.loop-change.replay c.step.new.self stands to

pub returns-clause-filled : goal.returns-clause-filled
returns-clause-filled c =
    let log = c.args.self.now in
    let none = drop_all c.loop-change.change-index c.deref-change-items.result.now c.loop-change-test.false in
    (stands_last log.pool.items c.args.fill (past_of log (moment_of log)) c.loop-change.replay
    (subst (λ (left : List Change). Stands log.pool.items c.args.fill left (past_of log (moment_of log)) c.loop-change.replay) none c.loop-change.invariant)).0

pub returns-clause-image : goal.returns-clause-image
returns-clause-image c =
    let log = c.args.self.now in
    let none = drop_all c.loop-change.change-index c.deref-change-items.result.now c.loop-change-test.false in
    (stands_last log.pool.items c.args.fill (past_of log (moment_of log)) c.loop-change.replay
    (subst (λ (left : List Change). Stands log.pool.items c.args.fill left (past_of log (moment_of log)) c.loop-change.replay) none c.loop-change.invariant)).1
