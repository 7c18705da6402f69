use Rattle.std.proofs.Common.{◌∙◌, Bool, ap}
use Rattle.std.proofs.Math.Bool.{beq}
use Rattle.std.specs.Option.{is_some}
use Rattle.flow_rules.specs.EventLeaves.{leaf_in}
use Rattle.flow_rules.specs.WayLists.{decided}
use Rattle.flow_rules.proofs.NormalViews.{event_met}
use Rattle.flow_rules.proofs.leaf_table.LeafEvents.meets.Goals as goal

pub returns : goal.returns
returns c =
    ap (λ (b : Bool). decided (beq b c.args.wanted)) (c.is_some.ensures ∙ ap is_some c.leaf_of.ensures)
    ∙ event_met (leaf_in c.args.self.now) c.args.wanted c.args.event
