use Rattle.std.proofs.Common.{sym, ◌∙◌}
use Rattle.flow_sample.specs.Rows.{has_waits}
use Rattle.flow_sample.proofs.OrderLemmas.{row_at}
use Rattle.flow_sample.proofs.order.blocker.Goals as goal

pub returns-in-Some : goal.returns-in-Some
returns-in-Some g c =
    let row = row_at has_waits c.args.items.now c.args.number c.index-items-number.result c.requires.there c.in-Some.leaf in
    (c.in-Some.leaf, c.item_with.ensures, row ∙ c.in-Some.ensures.member.0, c.in-Some.ensures.member.1)

pub returns-in-None : goal.returns-in-None
returns-in-None g c x waits = c.in-None.ensures.none x (sym (row_at has_waits c.args.items.now c.args.number c.index-items-number.result c.requires.there x) ∙ waits)
