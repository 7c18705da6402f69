use Rattle.std.proofs.Common.{length}
use Rattle.flow_grammar.specs.Machine as machine
use Rattle.flow_reader.specs.Symbols.{symbols_of}
use Rattle.flow_reader.specs.Queries.{query_state}
use Rattle.flow_reader.proofs.Loops.{Stands}
use Rattle.flow_reader.proofs.reading.read_query.Given as goal

abbrev pub invariant-loop-token : goal.invariant-loop-token
invariant-loop-token l =
    Stands l.text (l.tokens) (machine.read_query (symbols_of l.text l.tokens)) machine.run_query machine.depth_query (query_state l.stack l.reached) l.rest

abbrev pub decreases-loop-token : goal.decreases-loop-token
decreases-loop-token l = length l.rest
