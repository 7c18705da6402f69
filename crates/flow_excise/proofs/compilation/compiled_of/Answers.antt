use Rattle.std.proofs.Common.{◌∙◌, refl, sym}
use Rattle.flow_excise.proofs.CompilationLemmas.{is_not_empty}
use Rattle.flow_sample.proofs.GatheringLemmas.{is_empty}
use Rattle.flow_excise.proofs.compilation.compiled_of.Goals as goal

pub returns-clause-ok : goal.returns-clause-ok
returns-clause-ok c = (
  is_not_empty c.args.sieve.kept.items c.args.sieve.kept.len c.args.sieve.kept.ok.0 (sym c.is_empty.ensures ∙ c.if-is_empty.false),
  c.new.ensures.plans,
  c.new.ensures.counts ∙ (λ k. record { resolutions = c.args.resolutions; options = c.args.tally.options; bulk = c.args.tally.bulk; live = (c.len.ensures ∙ c.args.sieve.kept.ok.0) k }),
)

pub returns-then-is_empty-clause-none : goal.returns-then-is_empty-clause-none
returns-then-is_empty-clause-none c = (is_empty c.args.sieve.kept.items c.args.sieve.kept.len c.args.sieve.kept.ok.0 (sym c.is_empty.ensures ∙ c.if-is_empty.true), refl)
