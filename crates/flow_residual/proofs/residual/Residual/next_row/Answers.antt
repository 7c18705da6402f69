use Rattle.std.proofs.Common.{◌≡◌, sym, ◌∙◌}
use Rattle.leaf_rows.specs.Leaves.{has_leaf}
use Rattle.flow_model.proofs.Lists.{mem-slice_get}
use Rattle.flow_plan.specs.Options.{option_of}
use Rattle.flow_residual.specs.Remaining.{banned}
use Rattle.flow_residual.proofs.QuestionLemmas.{next_of_option, in_words}
use Rattle.flow_residual.proofs.TellingLemmas.{tell_of}
use Rattle.flow_residual.proofs.residual.Residual.next_row.Goals as goal

pub next_row-requires : goal.next_row-requires
next_row-requires c =
    let r = c.args.self.now in
    let o = option_of c.plan.result.now in
    tell_of r.options r.journal (banned r.bans) c.sides.result.now c.sides.ensures.tell o (mem-slice_get r.options c.args.place o c.plan.ensures.at) c.plan.result.now (λ _. o)

pub returns : goal.returns
returns c o at _ n =
    let same : option_of c.plan.result.now ≡ o = (let e = sym c.plan.ensures.at ∙ at in cc) in
    in_words (has_leaf c.next_row.result n) _ _ (c.next_row.ensures n) (next_of_option c.plan.result.now c.sides.result.now c.args.self.now.journal c.sides.ensures.tell.done o same n)
