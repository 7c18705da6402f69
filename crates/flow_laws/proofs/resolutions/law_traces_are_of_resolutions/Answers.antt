use Rattle.flow_model.specs.Process.{Sequence, Parallel}
use Rattle.flow_model.specs.Resolution.{resolutions}
use Rattle.flow_model.proofs.Lists.{slice_get_append_left}
use Rattle.flow_laws.proofs.TraceLeaves.{leaf_of_trace, leaf_in_trace}
use Rattle.flow_laws.proofs.ResolutionsLemmas.{blocks_of_a_resolution, blocks_of_goal, resolves_of, mem-resolutions, length-resolutions, number_of_both, number_of_right, goal_trace, resolution_trace, choice_free_resolution}
use Rattle.flow_laws.proofs.OptionsLemmas.{option_is_ordered}
use Rattle.flow_laws.proofs.resolutions.law_traces_are_of_resolutions.Goals as goal

pub returns-clause-blocks : goal.returns-clause-blocks
returns-clause-blocks c = λ g bs. (blocks_of_a_resolution g bs, λ (q, m, h). blocks_of_goal g q bs (resolves_of g q m) h)

pub returns-clause-just_these : goal.returns-clause-just_these
returns-clause-just_these c = λ g q. (resolves_of g q, mem-resolutions g q)

pub returns-clause-numbered : goal.returns-clause-numbered
returns-clause-numbered c = (
  length-resolutions,
  λ a b x y i j e k. (number_of_both Sequence a b x y i j e k, number_of_both Parallel a b x y i j e k),
  λ a b x i e. slice_get_append_left (resolutions a) (resolutions b) i x e,
  λ a b x i e. number_of_right a b x i e,
)

pub returns-clause-ordered : goal.returns-clause-ordered
returns-clause-ordered c = option_is_ordered

pub returns-clause-by_leaves : goal.returns-clause-by_leaves
returns-clause-by_leaves c = λ g q d m t. (
  λ h. (
    goal_trace g q m t h,
    λ n. (leaf_of_trace q t h n, leaf_in_trace q (choice_free_resolution g q (resolves_of g q m)) t h n),
  ),
  λ h. resolution_trace g q d m t h.0 h.1,
)
