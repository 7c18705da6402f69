use Rattle.std.proofs.Common.{subst}
use Rattle.flow_record.specs.Lines.{pieces_of}
use Rattle.flow_trail.specs.Read.{IsGuess}
use Rattle.flow_trail.proofs.GuessLemmas.{guess_none}
use Rattle.flow_trail.proofs.read.read_line.Goals as goal

pub returns-in-None : goal.returns-in-None
returns-in-None c = λ said sayable follows spells.
    guess_none c.args.end c.args.text.now said sayable follows spells (subst (IsGuess (pieces_of 34 c.args.text.now)) c.in-None.is c.in_ok-line.ensures)
