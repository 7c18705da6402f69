use Rattle.std.proofs.Common.{arith}
use Rattle.std.proofs.lemmas.Grind.{common_steps}
use Rattle.flow_facts.proofs.text.push_parts.Goals as goal

pub returns-clause-grown : goal.returns-clause-grown
returns-clause-grown c = grind (arith, common_steps)

pub returns-clause-ok : goal.returns-clause-ok
returns-clause-ok c = grind (arith, common_steps)
