-- Lists that are ready runs have few leaves.
use Rattle.std.proofs.Common.{ℕ, ◌<◌, List, [], ◌∷◌, ◌++◌}
use Rattle.flow_model.specs.declared.limits.TheConstants.{MOST_LEAVES}
use Rattle.flow_model.specs.Lists.{◌∈◌, Each, AreDistinct}
use Rattle.flow_model.specs.Process.{leaves}
use Rattle.flow_model.specs.Ready.{DoneOr}
use Rattle.flow_model.specs.FoldedReady.{IsFoldedRunAfter}
use Rattle.flow_model.specs.Resolution.{ChoiceOption}
use Rattle.flow_model.proofs.Lists.{each_member, each_from_members, each_parts, distinct_parts}
use Rattle.flow_model.proofs.MadeLists.{same_order}
use Rattle.flow_plan.specs.Options.{HasSmallLeaves}
use Rattle.flow_residual.specs.Remaining.{Remaining}
use Rattle.flow_residual.specs.Question.{Takes, FollowsSo, with_claims}
use Rattle.flow_residual.specs.declared.question.Stand.{Stand}
use Rattle.flow_residual.specs.declared.question.Stand.TheVariants.{Among, First}
use Rattle.flow_residual.proofs.FoldedSteps.{run_leaf, run_distinct}

small_run : (o : ChoiceOption) (D : ℕ → Type 0) (run : List ℕ) → HasSmallLeaves o → IsFoldedRunAfter o.resolution o.order D run → Each (λ n. n < MOST_LEAVES) run × AreDistinct run
small_run o D run fits ready = (
  each_from_members (λ n. n < MOST_LEAVES) run (λ n m. each_member (λ n. n < MOST_LEAVES) (leaves o.resolution) fits n (run_leaf o.resolution o.order D run ready n m)),
  (run_distinct o.resolution o.order D run ready).0,
)

-- leaves that may follow so are a run with the claimed ones
pub run_of_follows : (o : ChoiceOption) (journal claims : List ℕ) (stand : Stand) (leaf : ℕ) → FollowsSo journal claims stand leaf o →
    IsFoldedRunAfter o.resolution o.order (λ n. n ∈ journal) (with_claims claims stand leaf)
run_of_follows o journal claims Among leaf all = all (claims ++ leaf ∷ []) (same_order (claims ++ leaf ∷ []))
run_of_follows o journal claims First leaf (ready, all) = (ready, all claims (same_order claims))

-- nothing is taken with claims that are not few
pub none_taken : (r : Remaining) → Each HasSmallLeaves r.options → (claims : List ℕ) → ¬ (Each (λ n. n < MOST_LEAVES) claims × AreDistinct claims) →
    (o : ChoiceOption) (stand : Stand) (leaf : ℕ) → ¬ (Takes r claims stand leaf o)
none_taken r fits claims many o Among leaf (live, all, still) =
    let few = small_run o (λ n. n ∈ r.journal) (claims ++ leaf ∷ []) (each_member HasSmallLeaves r.options fits o live.among) (run_of_follows o r.journal claims Among leaf all) in
    many ((each_parts (λ n. n < MOST_LEAVES) claims (leaf ∷ []) few.0).0, (distinct_parts claims (leaf ∷ []) few.1).0)
none_taken r fits claims many o First leaf (live, follows, still) =
    many (small_run o (DoneOr (λ n. n ∈ r.journal) (leaf ∷ [])) claims (each_member HasSmallLeaves r.options fits o live.among) (follows.1 claims (same_order claims)))
