use Rattle.std.specs.Option.{option_map}
use Rattle.flow_text.specs.Parser.{bytes_now}
use Rattle.flow_case_seen.specs.Texts.{bytes_in}
use Rattle.flow_case_seen.proofs.TextLemmas.{none_read}
use Rattle.flow_case_seen.proofs.texts.read_texts.Goals as goal

pub returns-in-Err-clause-refused : goal.returns-in-Err-clause-refused
returns-in-Err-clause-refused c =
    none_read c.deref.result.now c.args.workflow.items (option_map bytes_now c.lent.result) (bytes_in c.args.policy) c.in-Err.stop c.deref.ensures.value c.lent.ensures c.in-Err.ensures.refused
