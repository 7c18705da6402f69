use Rattle.flow_lex.proofs.Written.{words-read, numbers-read}
use Rattle.flow_lex.proofs.writing.law_what_is_written_is_read.Goals as goal

pub returns-clause-words : goal.returns-clause-words
returns-clause-words c = words-read

pub returns-clause-numbers : goal.returns-clause-numbers
returns-clause-numbers c = numbers-read
