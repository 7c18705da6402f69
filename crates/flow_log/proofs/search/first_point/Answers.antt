use Rattle.std.proofs.Common.{arith, refl}
use Rattle.flow_log.proofs.PointLemmas.{first_leads}
use Rattle.flow_log.proofs.search.first_point.Goals as goal

pub returns-clause-leads : goal.returns-clause-leads
returns-clause-leads g c =
    first_leads c.args.case.now _ refl c.new.ensures c.first_facts.ensures
    (λ j. (λ h. let less = (c.loop-place.invariant j).0 h in omega (arith, less, c.loop-place.auto.place-end), λ less. (c.loop-place.invariant j).1 (omega (arith, less, c.loop-place-test.false))))

pub returns-clause-options : goal.returns-clause-options
returns-clause-options g c j less = (c.loop-place.invariant j).1 (omega (arith, less, c.loop-place-test.false))
