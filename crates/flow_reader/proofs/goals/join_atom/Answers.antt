use Rattle.std.proofs.Common.{ap}
use Rattle.flow_grammar.specs.Machine as machine
use Rattle.flow_reader.specs.Goals.{frames_of}
use Rattle.flow_reader.proofs.Ended.{no_join}
use Rattle.flow_reader.proofs.goals.join_atom.Goals as goal

pub returns-in_default : goal.returns-in_default
returns-in_default c = no_join _ _ c.args.symbol c.in_default.not-Star c.in_default.not-Bar c.in_default.not-Plus c.in_default.not-Semicolon c.in_default.not-Closing

pub returns-in_ok-close_serial-in-Bar : goal.returns-in_ok-close_serial-in-Bar
returns-in_ok-close_serial-in-Bar c = rw c.in-Bar.is (ap (λ now. machine.reading (machine.atom_needed (frames_of c.args.stack.now.frames.items) now)) c.in_ok-close_serial-in-Bar.ensures)
