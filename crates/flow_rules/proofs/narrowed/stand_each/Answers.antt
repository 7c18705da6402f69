use Rattle.std.proofs.Common.{◌∙◌, ap, subst, true, false, arith}
use Rattle.std.proofs.lemmas.List.{take_all}
use Rattle.flow_model.specs.declared.operators.Connective.TheVariants.{And}
use Rattle.flow_rules.specs.Narrowed.{AreFreeTo}
use Rattle.flow_rules.specs.WayLists.{is_none, ways_of_parts}
use Rattle.flow_rules.proofs.NarrowLemmas.{frees_more}
use Rattle.flow_rules.proofs.StandingLemmas.{stand_more}
use Rattle.flow_rules.proofs.narrowed.stand_each.Goals as goal

pub loop-rule-preserved : goal.loop-rule-preserved
loop-rule-preserved c =
    let rules = c.args.rules.now in
    let lanes = c.args.lanes.now in
    let i = c.loop-rule.rule-index in
    let rule = c.rule-item.result in
    let standing = c.standing_of-standing.result in
    let stands = c.standing_of-standing.ensures in record {
      free =
          frees_more lanes rules i rule c.loop-rule-test.true c.rule-item.is c.loop-rule.free.items c.push.new.self.items standing.free
          c.in_ok-push.ensures.items (λ lane leaf within shows. stands lane leaf within shows true) c.loop-rule.invariant.free;
      all =
          stand_more And lanes rules i rule c.loop-rule-test.true c.rule-item.is c.loop-rule.all standing c.with-all.result
          c.with-all.ensures.one c.with-all.ensures.both c.loop-rule.invariant.all stands;
    }

pub returns-clause-free : goal.returns-clause-free
returns-clause-free c =
    subst (λ count. AreFreeTo count c.loop-rule.free.items c.args.lanes.now c.args.rules.now)
    (omega (arith, c.loop-rule-test.false, c.loop-rule.auto.rule-index-end)) c.loop-rule.invariant.free

pub returns-clause-unmet : goal.returns-clause-unmet
returns-clause-unmet c = λ lane leaf within shows.
    c.loop-rule.invariant.all lane leaf within shows false
    ∙ ap (λ rules. is_none (ways_of_parts And leaf rules)) (take_all c.loop-rule.rule-index c.args.rules.now c.loop-rule-test.false)
