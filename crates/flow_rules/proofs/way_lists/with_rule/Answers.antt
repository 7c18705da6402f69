use Rattle.std.proofs.Common.{ℕ, List, sym, ap, subst, ◌∙◌}
use Rattle.flow_model.specs.Ways.{ways}
use Rattle.flow_rules.specs.declared.asked.Found.{Found}
use Rattle.flow_rules.specs.Asked.{Finds}
use Rattle.flow_rules.specs.EventLeaves.{leaf_in}
use Rattle.flow_rules.specs.Normal.{normal_of}
use Rattle.flow_rules.specs.WayLists.{both_ways, decided, ways_of_sets}
use Rattle.flow_rules.proofs.WayListLemmas.{both_free_right, both_none}
use Rattle.flow_rules.proofs.way_lists.with_rule.Goals as goal

pub returns-in-Decided-true : goal.returns-in-Decided-true
returns-in-Decided-true c =
    let so_far = ways_of_sets c.args.ways.items in
    let these : List (List (ℕ × ℕ)) = ways (normal_of c.args.rule.now) (leaf_in c.args.events.now) in
    let met = subst (λ (o : Found). Finds o these) c.in-Decided-true.is c.in_ok-asked_of.ensures ∙ ap decided c.in-Decided-true.field-0-test in
    sym (ap (both_ways so_far) met ∙ both_free_right so_far)

pub returns-in-Decided-false : goal.returns-in-Decided-false
returns-in-Decided-false c =
    let so_far = ways_of_sets c.args.ways.items in
    let these : List (List (ℕ × ℕ)) = ways (normal_of c.args.rule.now) (leaf_in c.args.events.now) in
    let unmet = subst (λ (o : Found). Finds o these) c.in-Decided-false.is c.in_ok-asked_of.ensures ∙ ap decided c.in-Decided-false.field-0-test in
    ap ways_of_sets c.new.ensures.items ∙ sym (ap (both_ways so_far) unmet ∙ both_none so_far)
