use Rattle.flow_text.proofs.SaidLaws.{texts_say_one_thing}
use Rattle.flow_text.proofs.laws.law_texts_say_one_thing.Goals as goal

pub returns : goal.returns
returns c = texts_say_one_thing
