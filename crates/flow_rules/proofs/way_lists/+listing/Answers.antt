use Rattle.std.proofs.Common.{◌≡◌, ◌++◌, ◌∙◌, map, ap, subst}
use Rattle.std.specs.Result.{OnOk}
use Rattle.std.proofs.lemmas.List.{take_all}
use Rattle.std.proofs.lemmas.Result.{on_ok_weaker}
use Rattle.flow_model.specs.declared.operators.Connective.TheVariants.{And, Or}
use Rattle.flow_rules.specs.Asked.{ways_asked, ways_asked_by}
use Rattle.flow_rules.specs.WayLists.{ways_of_sets}
use Rattle.flow_rules.proofs.AskedLemmas.{added_all, asked_at, pair_more, product_more, sum_more, way_more}
use Rattle.flow_rules.proofs.way_lists.+listing.Goals as goal

pub extended-loop-way-preserved : goal.extended-loop-way-preserved
extended-loop-way-preserved t c =
    way_more c.loop-way.yielded c.in-Some.way (ways_asked c.args.rule.now) (ways_of_sets c.loop-way.all.items) (ways_of_sets c.extend.new.all.items)
    c.loop-way.invariant c.in_ok-extend.ensures

pub extend_by_all-loop-part-preserved : goal.extend_by_all-loop-part-preserved
extend_by_all-loop-part-preserved t c =
    product_more c.args.way.pairs.items c.args.parts.now c.loop-part.part-index c.part-item.result (ways_of_sets c.loop-part.ways.items)
    (ways_of_sets c.in_ok-ways.ways.items) c.loop-part-test.true c.part-item.is c.loop-part.invariant c.in_ok-ways.ensures

pub extend_by_any-loop-part-preserved : goal.extend_by_any-loop-part-preserved
extend_by_any-loop-part-preserved t c =
    sum_more c.args.way.now.pairs.items c.in_ok-copy.field-0.pairs.items c.args.parts.now c.loop-part.part-index c.part-item.result
    (ways_of_sets c.args.all.now.items) (ways_of_sets c.loop-part.all.items) (ways_of_sets c.extend.new.all.items)
    c.loop-part-test.true c.part-item.is c.in_ok-copy.ensures c.loop-part.invariant c.in_ok-extend.ensures

pub extend-returns-in_ok-push-in-Pair : goal.extend-returns-in_ok-push-in-Pair
extend-returns-in_ok-push-in-Pair t c =
    pair_more c.args.way.pairs.items c.args.rule.now c.in-Pair.first c.in-Pair.second c.args.all.now.items c.push.new.self.items c.in_ok-with-in-Pair.field-0
    c.in-Pair.is c.in_ok-with-in-Pair.ensures c.in_ok-push-in-Pair.ensures.items

pub extend-returns-in-And : goal.extend-returns-in-And
extend-returns-in-And t c =
    subst (λ ways. OnOk c.extend_by_all.result (ways_of_sets c.extend_by_all.new.all.items ≡ ways_of_sets c.args.all.now.items ++ map (λ w. c.args.way.pairs.items ++ w) ways))
    (ap (ways_asked_by And) c.deref.ensures.value ∙ asked_at c.args.rule.now c.in-Parts.connective And c.in-Parts.parts c.in-Parts.is c.in-And.is)
    c.extend_by_all.ensures

pub extend-returns-in-Or : goal.extend-returns-in-Or
extend-returns-in-Or t c =
    subst (λ ways. OnOk c.extend_by_any.result (ways_of_sets c.extend_by_any.new.all.items ≡ ways_of_sets c.args.all.now.items ++ map (λ w. c.args.way.pairs.items ++ w) ways))
    (ap (ways_asked_by Or) c.deref-in-Or.ensures.value ∙ asked_at c.args.rule.now c.in-Parts.connective Or c.in-Parts.parts c.in-Parts.is c.in-Or.is)
    c.extend_by_any.ensures

pub extend_by_all-returns : goal.extend_by_all-returns
extend_by_all-returns t c =
    on_ok_weaker c.add.result
    (λ added. added_all (λ w. c.args.way.pairs.items ++ w) c.args.parts.now c.loop-part.part-index c.loop-part.ways.items c.args.all.now.items c.add.new.all.items
    c.loop-part-test.false c.loop-part.invariant added) c.add.ensures

pub extend_by_any-returns : goal.extend_by_any-returns
extend_by_any-returns t c =
    c.loop-part.invariant
    ∙ ap (λ parts. ways_of_sets c.args.all.now.items ++ map (λ w. c.args.way.now.pairs.items ++ w) (ways_asked_by Or parts))
    (take_all c.loop-part.part-index c.args.parts.now c.loop-part-test.false)
