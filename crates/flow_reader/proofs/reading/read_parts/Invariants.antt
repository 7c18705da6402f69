use Rattle.std.proofs.Common.{length}
use Rattle.flow_grammar.specs.Machine as machine
use Rattle.flow_reader.specs.Symbols.{symbols_of}
use Rattle.flow_reader.specs.Scripts.{script_state}
use Rattle.flow_reader.proofs.Loops.{Stands}
use Rattle.flow_reader.proofs.reading.read_parts.Given as goal

abbrev pub invariant-loop-token : goal.invariant-loop-token
invariant-loop-token l =
    Stands l.text (l.tokens) (machine.read_script (symbols_of l.text l.tokens)) machine.run_script machine.depth_script (script_state l.parts l.reached) l.rest

abbrev pub decreases-loop-token : goal.decreases-loop-token
decreases-loop-token l = length l.rest
