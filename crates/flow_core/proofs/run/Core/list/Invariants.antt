use Rattle.flow_model.specs.Verdict.{AreJust}
use Rattle.flow_core.specs.Lists.{IsListed}
use Rattle.flow_core.proofs.RisingLists.{Below}
use Rattle.flow_core.proofs.run.Core.list.Given as goal

abbrev pub invariant-loop-number : goal.invariant-loop-number
invariant-loop-number l = AreJust (Below (IsListed l.self l.what) l.number) l.numbers.items
