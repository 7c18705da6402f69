use Rattle.std.proofs.Common.{map}
use Rattle.std.specs.String.{string_bytes}
use Rattle.flow_words.proofs.Purposes.{text_told}
use Rattle.flow_words.proofs.purpose.purpose_of.Goals as goal

pub returns-clause-purpose : goal.returns-clause-purpose
returns-clause-purpose c =
    text_told (map (λ word. string_bytes word) c.args.words.now) c.in-Err.error c.text_asked.result c.in-Err.ensures.reading c.text_asked.ensures.fed
    c.text_asked.ensures.asked
