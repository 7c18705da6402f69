use Rattle.flow_gen.proofs.SaidTexts.{texts_say_it, texts_are_read, workflows_are_closed}
use Rattle.flow_gen.proofs.texts.law_generated_texts_are_read.Goals as goal

pub returns : goal.returns
returns c = record { says = texts_say_it; read = texts_are_read; closed = workflows_are_closed }
