use Rattle.leaf_rows.specs.Leaves.{has_leaf}
use Rattle.flow_plan.specs.Options.{option_of}
use Rattle.flow_residual.proofs.FrontLemmas.{ready_whole}
use Rattle.flow_residual.proofs.QuestionLemmas.{next_of_option, in_words}
use Rattle.flow_residual.proofs.next_rows.look_at.Goals as goal

pub returns-then-front-journal : goal.returns-then-front-journal
returns-then-front-journal g c = λ _ ready. absurd (c.if-front-journal.true ((ready_whole (option_of c.args.plan.now) c.args.journal.now c.args.front c.requires.front).1 ready))

pub returns : goal.returns
returns g c = λ _ _ n.
    let o = option_of c.args.plan.now in
    in_words (has_leaf c.next_row_in.result n) _ _ (c.next_row_in.ensures.whole (c.has_room.ensures c.if-not-has_room.false) n) (next_of_option c.args.plan.now c.args.sides.now c.args.journal.now c.requires.done o (λ _. o) n)
