use Rattle.std.proofs.Common.{◌≡◌, ◌∙◌, get_or, arith, ap, sym}
use Rattle.std.proofs.lemmas.List.{get_or_default}
use Rattle.flow_log.specs.Case.{fact_of}
use Rattle.flow_log.proofs.case.Case.place_of.Goals as goal

pub returns-clause-small : goal.returns-clause-small
returns-clause-small c =
    let places = c.args.self.now.places.items in
    let speaks = ap fact_of c.requires.label.1 ∙ sym c.in_ok-fact.ensures in
    let less = c.requires.case.places.known c.requires.label.0 c.in_ok-fact.fact speaks in
    let small = c.requires.case.places.within c.requires.label.0 c.in_ok-fact.fact speaks in
    let same : get_or places c.in_ok-fact.fact c.index.result.now ≡ get_or places c.in_ok-fact.fact 0 =
    get_or_default places c.in_ok-fact.fact c.index.result.now 0 (omega (arith, small, c.requires.case.places.one_each)) in
    omega (arith, less, same, c.index.ensures)
