use Rattle.std.proofs.Common.{map}
use Rattle.std.specs.String.{string_bytes}
use Rattle.std.proofs.lemmas.Result.{IfOk-weaker}
use Rattle.clap.specs.Words.{app_of}
use Rattle.flow_words.proofs.Reading.{numbers_found, words_read}
use Rattle.flow_words.proofs.purpose.read_words.Goals as goal

pub returns-clause-reading : goal.returns-clause-reading
returns-clause-reading c =
    words_read (app_of c.in_ok-command.command) c.in_ok-command.ensures (map (λ word. string_bytes word) c.args.words.now) c.try_get_matches_from.result
    c.try_get_matches_from.ensures.kinds c.try_get_matches_from.ensures.matches

pub returns-clause-numbers : goal.returns-clause-numbers
returns-clause-numbers c =
    IfOk-weaker c.try_get_matches_from.result _ _ (λ matches parsed. numbers_found c.in_ok-command.command c.in_ok-command.ensures matches parsed)
    c.try_get_matches_from.ensures.parsed
