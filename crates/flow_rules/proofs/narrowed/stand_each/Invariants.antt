use Rattle.std.proofs.Common.{take}
use Rattle.flow_model.specs.declared.operators.Connective.TheVariants.{And}
use Rattle.flow_rules.specs.Narrowed.{AreFreeTo}
use Rattle.flow_rules.specs.Standing.{Stands}
use Rattle.flow_rules.specs.WayLists.{ways_of_parts}
use Rattle.flow_rules.proofs.narrowed.stand_each.Given as goal

abbrev pub invariant-loop-rule : goal.invariant-loop-rule
invariant-loop-rule l = record {
  free : AreFreeTo l.rule-index l.free.items l.lanes l.rules;
  all : Stands l.all l.lanes (λ leaf. ways_of_parts And leaf (take l.rule-index l.rules));
}
