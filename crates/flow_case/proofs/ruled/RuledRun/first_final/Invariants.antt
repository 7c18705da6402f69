use Rattle.std.proofs.Common.{take}
use Rattle.flow_core.specs.Run.{schema}
use Rattle.flow_case.specs.Rules.{HasNoFinal}
use Rattle.flow_case.proofs.ruled.RuledRun.first_final.Given as goal

abbrev pub invariant-loop-leaf : goal.invariant-loop-leaf
invariant-loop-leaf l = HasNoFinal (schema l.self.desk.run) l.self.rules (take l.leaf-index l.leaves)
