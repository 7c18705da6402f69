use Rattle.std.proofs.Common.{◌∙◌, ap, sym}
use Rattle.flow_rules.specs.WayCount.{count_of}
use Rattle.flow_rules.specs.WayLists.{pair_in}
use Rattle.flow_rules.proofs.WayCountLemmas.{none_there, pair_there}
use Rattle.flow_rules.proofs.way_count.order.Goals as goal

pub returns-then-both_present : goal.returns-then-both_present
returns-then-both_present g c = λ leaf tells.
    pair_there c.args.wanted (pair_in leaf c.args.wanted c.args.first c.args.second) (sym (c.both_present.ensures leaf c.args.wanted tells) ∙ c.if-both_present.true)

pub returns-else-both_present : goal.returns-else-both_present
returns-else-both_present g c = λ leaf tells.
    c.decided.ensures
    ∙ ap count_of (none_there c.args.wanted (pair_in leaf c.args.wanted c.args.first c.args.second) (sym (c.both_present.ensures leaf c.args.wanted tells) ∙ c.if-both_present.false))
