use Rattle.std.proofs.Common.{◌*◌, IfSome}
use Rattle.flow_rules.specs.Conjunction.{normal_in}
use Rattle.flow_excise.specs.Block.{IsSomeBlock}
use Rattle.flow_excise.specs.Options.{folded}
use Rattle.flow_excise.specs.Tally.{IsCountedTo}
use Rattle.flow_excise.proofs.tally.whole_tally.Given as goal

abbrev pub invariant-loop-number : goal.invariant-loop-number
invariant-loop-number l = record {
  counted : IsCountedTo (folded l.tree l.choices) (normal_in l.rules) (64 * l.number) l.counted;
  last : IfSome l.last (IsSomeBlock (folded l.tree l.choices) (normal_in l.rules));
}
