use Rattle.flow_stages.proofs.StageLemmas.{sides_are, row_after}
use Rattle.flow_stages.proofs.search.Search.next_row.Goals as goal

pub next_row-requires : goal.next_row-requires
next_row-requires c =
    sides_are c.args.self.now.plan.now c.args.self.now.folds.now c.args.stage.now.done c.new-none.result c.new-sides.result
    c.requires c.tokens-tokens.ensures.ordered c.new-sides.ensures

pub returns : goal.returns
returns c = λ list n same.
    row_after c.args.self.now.plan.now c.args.self.now.folds.now c.args.stage.now.done c.new-none.result c.new-sides.result
    c.requires c.tokens-tokens.ensures.ordered c.new-sides.ensures list n _ same (c.next_row.ensures n)
