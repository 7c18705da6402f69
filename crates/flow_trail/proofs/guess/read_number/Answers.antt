use Rattle.flow_trail.proofs.GuessLemmas.{number_is}
use Rattle.std.proofs.Common.{◌∙◌}
use Rattle.flow_trail.proofs.guess.read_number.Goals as goal

pub returns : goal.returns
returns c = λ n small is.
    number_is c.args.piece.now c.as_str.result.now n c.parse.result c.ok.result small is (λ plain. c.as_str.ensures.value ∙ c.in_ok-digits.ensures.ok plain) c.parse.ensures.value.0 c.ok.ensures.value
