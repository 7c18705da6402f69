use Rattle.std.proofs.Common.{◌≡◌, ℕ, subst}
use Rattle.flow_model.specs.Lists.{Each}
use Rattle.flow_laws.specs.Histories.{NeverWaits}
use Rattle.flow_laws.proofs.NeverAtALoss.{never_stuck}
use Rattle.flow_core.specs.declared.next.Next.TheVariants.{Stuck}
use Rattle.flow_core.specs.Invariant.{run_by}
use Rattle.flow_core.specs.Run.{Run, schema}
use Rattle.flow_core.specs.Next.{IsNext}
use Rattle.flow_core.proofs.Steps.{sound_now}
use Rattle.flow_core.proofs.run.Core.next.Goals as goal

pub returns-clause-without_tests : goal.returns-clause-without_tests
returns-clause-without_tests c =
    subst (λ (r : Run). IsNext r c.look.result → Each NeverWaits (schema r).labels → (leaf : ℕ) → ¬ (c.look.result ≡ Stuck leaf)) c.self.view_is
    (λ says none leaf is. never_stuck _ c.self.invariant.kept.remains.well_formed none _ (sound_now c.self.inside c.self.invariant) (subst (IsNext (run_by c.self.inside)) is says).0.0)
    c.look.ensures
