use Rattle.flow_residual.specs.Question.{Has}
use Rattle.flow_residual.proofs.OptionLemmas.{is_found}
use Rattle.flow_residual.proofs.residual.Residual.some_has.Goals as goal

pub returns : goal.returns
returns c =
    let r = c.args.self.now in
    is_found (Has r c.args.claims.now c.args.question.now) r.options c.first_that_has.result c.is_some.result c.is_some.ensures c.first_that_has.ensures.some c.first_that_has.ensures.none
