use Rattle.std.proofs.Common.{◌∙◌, ◌++◌, ℕ, Vec, Global, ap, map}
use Rattle.flow_rules.specs.Asked.{ways_asked}
use Rattle.flow_rules.specs.WayLists.{ways_of_sets}
use Rattle.std.proofs.lemmas.List.{map-id}
use Rattle.flow_rules.proofs.way_lists.listed.Goals as goal

pub returns : goal.returns
returns c =
    let nothing = ap (λ (v : Vec (ℕ × ℕ) Global). v.items) c.new-2.ensures ∙ c.new.ensures.items in
    c.in_ok-extend.ensures
    ∙ (λ k. ways_of_sets (c.new-all.ensures.items k) ++ map (λ w. nothing k ++ w) (ways_asked c.args.rule.now))
    ∙ map-id (ways_asked c.args.rule.now)
