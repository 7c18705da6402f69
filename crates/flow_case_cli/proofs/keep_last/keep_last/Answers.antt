use Rattle.std.proofs.Common.{◌≡◌, false, length, ap, sym, ◌∙◌, subst}
use Rattle.flow_core.specs.Run.{Run}
use Rattle.flow_core.specs.Ask.{Answers}
use Rattle.flow_keep.specs.Answered.{KeepAnswers, LeavesKept}
use Rattle.flow_keep.specs.Holding.{run_of, disk_of, is_broken}
use Rattle.flow_case_cli.proofs.AskLemmas.{first_of, kept_same}
use Rattle.flow_case_cli.proofs.keep_last.keep_last.Goals as goal

pub returns-then-is_broken-clause-run : goal.returns-then-is_broken-clause-run
returns-then-is_broken-clause-run g c =
    let k = c.args.keep.now in
    let other : ¬ (length (run_of k).history ≡ length c.args.core.now.history) = λ e.
    c.if-history.false (ap length (c.history.ensures.entries ∙ ap (λ (r : Run). r.history) c.core.ensures.run) ∙ e ∙ sym (ap length c.history-2.ensures.entries)) in
    let first = first_of (run_of k) c.args.core.now c.args.ask c.args.by c.requires.comes other in
    let keeps : KeepAnswers (λ (x : Run). x) Answers false (run_of k) c.args.ask c.args.by c.answer.result (is_broken c.answer.new.self) (run_of c.answer.new.self) =
    subst (λ b. KeepAnswers (λ (x : Run). x) Answers b (run_of k) c.args.ask c.args.by c.answer.result (is_broken c.answer.new.self) (run_of c.answer.new.self)) c.requires.whole c.answer.ensures.answers.0 in
    let run : run_of c.answer.new.self ≡ c.args.core.now = kept_same (run_of k) c.args.core.now (run_of c.answer.new.self) c.args.ask c.args.by c.answer.result (is_broken c.answer.new.self) first keeps in
    run

pub returns-then-is_broken-clause-leaves : goal.returns-then-is_broken-clause-leaves
returns-then-is_broken-clause-leaves g c =
    let k = c.args.keep.now in
    let other : ¬ (length (run_of k).history ≡ length c.args.core.now.history) = λ e.
    c.if-history.false (ap length (c.history.ensures.entries ∙ ap (λ (r : Run). r.history) c.core.ensures.run) ∙ e ∙ sym (ap length c.history-2.ensures.entries)) in
    let first = first_of (run_of k) c.args.core.now c.args.ask c.args.by c.requires.comes other in
    let keeps : KeepAnswers (λ (x : Run). x) Answers false (run_of k) c.args.ask c.args.by c.answer.result (is_broken c.answer.new.self) (run_of c.answer.new.self) =
    subst (λ b. KeepAnswers (λ (x : Run). x) Answers b (run_of k) c.args.ask c.args.by c.answer.result (is_broken c.answer.new.self) (run_of c.answer.new.self)) c.requires.whole c.answer.ensures.answers.0 in
    let run : run_of c.answer.new.self ≡ c.args.core.now = kept_same (run_of k) c.args.core.now (run_of c.answer.new.self) c.args.ask c.args.by c.answer.result (is_broken c.answer.new.self) first keeps in
    let d = disk_of k in
    let d' = disk_of c.answer.new.self in
    let one = subst (λ r. LeavesKept g.D.Disk.tells g.D.Disk.moment g.D.Disk.image g.D.Disk.seen g.D.Disk.chosen (run_of k) r d d' (is_broken k) (is_broken c.answer.new.self)) run c.answer.ensures.answers.2 in
    let two = subst (λ b. LeavesKept g.D.Disk.tells g.D.Disk.moment g.D.Disk.image g.D.Disk.seen g.D.Disk.chosen (run_of k) c.args.core.now d d' b (is_broken c.answer.new.self)) c.requires.whole one in
    subst (λ b. LeavesKept g.D.Disk.tells g.D.Disk.moment g.D.Disk.image g.D.Disk.seen g.D.Disk.chosen (run_of k) c.args.core.now d d' false b) (sym c.is_broken.ensures ∙ c.if-is_broken.true) two

pub returns-else-is_broken-clause-run : goal.returns-else-is_broken-clause-run
returns-else-is_broken-clause-run g c =
    let k = c.args.keep.now in
    let other : ¬ (length (run_of k).history ≡ length c.args.core.now.history) = λ e.
    c.if-history.false (ap length (c.history.ensures.entries ∙ ap (λ (r : Run). r.history) c.core.ensures.run) ∙ e ∙ sym (ap length c.history-2.ensures.entries)) in
    let first = first_of (run_of k) c.args.core.now c.args.ask c.args.by c.requires.comes other in
    let keeps : KeepAnswers (λ (x : Run). x) Answers false (run_of k) c.args.ask c.args.by c.answer.result (is_broken c.answer.new.self) (run_of c.answer.new.self) =
    subst (λ b. KeepAnswers (λ (x : Run). x) Answers b (run_of k) c.args.ask c.args.by c.answer.result (is_broken c.answer.new.self) (run_of c.answer.new.self)) c.requires.whole c.answer.ensures.answers.0 in
    let run : run_of c.answer.new.self ≡ c.args.core.now = kept_same (run_of k) c.args.core.now (run_of c.answer.new.self) c.args.ask c.args.by c.answer.result (is_broken c.answer.new.self) first keeps in
    run

pub returns-else-is_broken-clause-leaves : goal.returns-else-is_broken-clause-leaves
returns-else-is_broken-clause-leaves g c =
    let k = c.args.keep.now in
    let other : ¬ (length (run_of k).history ≡ length c.args.core.now.history) = λ e.
    c.if-history.false (ap length (c.history.ensures.entries ∙ ap (λ (r : Run). r.history) c.core.ensures.run) ∙ e ∙ sym (ap length c.history-2.ensures.entries)) in
    let first = first_of (run_of k) c.args.core.now c.args.ask c.args.by c.requires.comes other in
    let keeps : KeepAnswers (λ (x : Run). x) Answers false (run_of k) c.args.ask c.args.by c.answer.result (is_broken c.answer.new.self) (run_of c.answer.new.self) =
    subst (λ b. KeepAnswers (λ (x : Run). x) Answers b (run_of k) c.args.ask c.args.by c.answer.result (is_broken c.answer.new.self) (run_of c.answer.new.self)) c.requires.whole c.answer.ensures.answers.0 in
    let run : run_of c.answer.new.self ≡ c.args.core.now = kept_same (run_of k) c.args.core.now (run_of c.answer.new.self) c.args.ask c.args.by c.answer.result (is_broken c.answer.new.self) first keeps in
    let d = disk_of k in
    let d' = disk_of c.answer.new.self in
    let one = subst (λ r. LeavesKept g.D.Disk.tells g.D.Disk.moment g.D.Disk.image g.D.Disk.seen g.D.Disk.chosen (run_of k) r d d' (is_broken k) (is_broken c.answer.new.self)) run c.answer.ensures.answers.2 in
    let two = subst (λ b. LeavesKept g.D.Disk.tells g.D.Disk.moment g.D.Disk.image g.D.Disk.seen g.D.Disk.chosen (run_of k) c.args.core.now d d' b (is_broken c.answer.new.self)) c.requires.whole one in
    subst (λ b. LeavesKept g.D.Disk.tells g.D.Disk.moment g.D.Disk.image g.D.Disk.seen g.D.Disk.chosen (run_of k) c.args.core.now d d' false b) (sym c.is_broken.ensures ∙ c.if-is_broken.false) two
