use Rattle.std.proofs.Common.{arith}
use Rattle.flow_desk.proofs.Lines.{length-pieces_of}
use Rattle.flow_desk.proofs.report.read_report.Goals as goal

pub read_block-requires-clause-pieces : goal.read_block-requires-clause-pieces
read_block-requires-clause-pieces c = omega (arith, length-pieces_of 10 c.in-Some.block.entries.now, c.in-Some.ensures.short.0, c.requires)
