use Rattle.flow_text.proofs.SaidPrintable.{said_is_printable}
use Rattle.flow_text.proofs.laws.law_what_is_said_can_be_printed.Goals as goal

pub returns : goal.returns
returns c = said_is_printable
