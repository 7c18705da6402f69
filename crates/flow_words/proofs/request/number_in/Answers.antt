use Rattle.std.specs.Str.Parse.{ExplainsUnsignedError, HasUnsignedDigitsIfOk, ParsesUnsigned}
use Rattle.clap.specs.Words.{found_of}
use Rattle.flow_words.proofs.Requests.{number_read}
use Rattle.flow_words.proofs.request.number_in.Goals as goal

pub returns : goal.returns
returns c =
    number_read _ (λ text x. ParsesUnsigned 32 10 text x × ExplainsUnsignedError 10 text x × HasUnsignedDigitsIfOk text x) (λ text x g. g.0)
    (found_of c.args.matches.now) c.args.name.now c.get_one.result c.get_one.ensures.none c.get_one.ensures.value c.requires
