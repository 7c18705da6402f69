use Rattle.std.proofs.Common.{◌*◌, IfSome}
use Rattle.flow_rules.specs.Conjunction.{normal_in}
use Rattle.flow_rules.specs.EventLeaves.{IsBlank}
use Rattle.flow_excise.specs.Block.{IsSomeBlock}
use Rattle.flow_excise.specs.Options.{folded}
use Rattle.flow_excise.specs.Sieve.{HasSiftedTo}
use Rattle.flow_excise.proofs.sifted.sift_all.Given as goal

abbrev pub invariant-loop-number : goal.invariant-loop-number
invariant-loop-number l = record {
  blank : IsBlank l.events;
  made : IfSome l.made (IsSomeBlock (folded l.tree l.choices) (normal_in l.rules));
  sifted : HasSiftedTo (folded l.tree l.choices) (normal_in l.rules) (64 * l.number) l.sieve;
}
