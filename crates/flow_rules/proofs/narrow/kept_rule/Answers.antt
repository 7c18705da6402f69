use Rattle.std.proofs.Common.{◌∙◌, refl, sym, ap}
use Rattle.flow_rules.specs.WayLists.{ways_of_parts}
use Rattle.flow_rules.proofs.NormalViews.{ways_at_parts, ways_of_one}
use Rattle.flow_rules.proofs.narrow.kept_rule.Goals as goal

pub returns-in-Some : goal.returns-in-Some
returns-in-Some c = λ leaf.
    sym (ap (ways_of_parts c.args.connective leaf) c.in-Some.ensures.one ∙ ways_of_one c.args.connective leaf c.in-Some.part)

pub returns-in-None : goal.returns-in-None
returns-in-None c = λ leaf.
    sym (ap (ways_of_parts c.args.connective leaf) (sym c.in-None.ensures.same) ∙ ways_at_parts leaf _ c.args.connective c.only.new.list refl)
