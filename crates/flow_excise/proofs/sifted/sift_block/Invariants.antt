use Rattle.std.proofs.Common.{◌≡◌, ◌+◌, map}
use Rattle.flow_model.specs.Ways.{Normal}
use Rattle.flow_rules.specs.EventLeaves.{IsBlank}
use Rattle.flow_excise.specs.Block.{HasWays}
use Rattle.flow_excise.specs.Options.{folded, has_ways, resolutions_in}
use Rattle.flow_excise.specs.Sieve.{HasSiftedTo}
use Rattle.flow_excise.proofs.sifted.sift_block.Given as goal

abbrev pub invariant-loop-lane : goal.invariant-loop-lane
invariant-loop-lane l = record {
  blank : IsBlank l.events;
  sifted : (normal : Normal) → HasWays (folded l.tree l.choices) normal l.block → l.met ≡ map (has_ways (folded l.tree l.choices) normal) (resolutions_in (folded l.tree l.choices)) →
      HasSiftedTo (folded l.tree l.choices) normal l.block.first l.fn.sieve → HasSiftedTo (folded l.tree l.choices) normal (l.block.first + l.lane) l.sieve;
}
