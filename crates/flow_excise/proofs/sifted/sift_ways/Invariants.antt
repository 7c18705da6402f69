use Rattle.std.proofs.Common.{take}
use Rattle.flow_excise.specs.Executions.{numbered_ways}
use Rattle.flow_excise.specs.Sieve.{Sifts, options_with}
use Rattle.flow_excise.proofs.sifted.sift_ways.Given as goal

abbrev pub invariant-loop-way : goal.invariant-loop-way
invariant-loop-way l = Sifts (numbered_ways l.number 0 (options_with l.resolution.process (take l.way l.orders))) l.initial.sieve l.sieve
