use Rattle.flow_plan.specs.Options.{options_of}
use Rattle.flow_residual.specs.Options.{EachHas}
use Rattle.flow_residual.specs.Track.{IsFront, journal_after}
use Rattle.flow_residual.proofs.OptionLemmas.{AreTurned}
use Rattle.flow_residual.proofs.fronts.follow.Given as goal

abbrev pub invariant-loop-place : goal.invariant-loop-place
invariant-loop-place l = EachHas (IsFront l.journal) (options_of l.plans) l.initial.fronts →
    AreTurned l.place (IsFront l.journal) (IsFront (journal_after l.change l.journal)) (options_of l.plans) l.fronts
