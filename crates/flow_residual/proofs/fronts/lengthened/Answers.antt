use Rattle.std.proofs.Common.{true≢false, sym, ◌∙◌}
use Rattle.flow_plan.specs.Options.{option_of}
use Rattle.flow_residual.proofs.FrontLemmas.{front_longer, front_same}
use Rattle.flow_residual.proofs.QuestionLemmas.{next_of_option}
use Rattle.flow_residual.proofs.fronts.lengthened.Goals as goal

pub returns-then-front-journal : goal.returns-then-front-journal
returns-then-front-journal c is =
    front_same (option_of c.args.plan.now) c.args.journal.now c.args.leaf c.args.front is (λ both. c.if-front-journal.true both.0)

pub returns-then-ready : goal.returns-then-ready
returns-then-ready c is =
    let o = option_of c.args.plan.now in
    front_longer o c.args.journal.now c.args.leaf c.args.front is c.if-front-journal.false
    ((next_of_option c.args.plan.now c.args.sides.now c.args.journal.now c.requires.done o (λ _. o) c.args.leaf).0 (c.ready.ensures.0 c.if-ready.true))

pub returns-else-ready : goal.returns-else-ready
returns-else-ready c is =
    let o = option_of c.args.plan.now in
    front_same o c.args.journal.now c.args.leaf c.args.front is (λ both.
    let ready = c.ready.ensures.1 ((next_of_option c.args.plan.now c.args.sides.now c.args.journal.now c.requires.done o (λ _. o) c.args.leaf).1 both.1) in
    absurd (true≢false (sym ready ∙ c.if-ready.false)))
