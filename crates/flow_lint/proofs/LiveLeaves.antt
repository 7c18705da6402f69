-- The leaves that some execution has are those of the options that have one.
use Rattle.std.proofs.Common.{ℕ, IsTrue, List, refl, subst, inl, inr, ⊎_elim, nat_eq}
use Rattle.std.specs.List.{list_any}
use Rattle.std.proofs.lemmas.Bool.{eqb-true, eq-eqb}
use Rattle.flow_model.specs.Lists.{◌∈◌}
use Rattle.flow_model.specs.Process.{Process, Empty, Task, Sequence, Parallel, Choice, Isolated, leaves}
use Rattle.flow_model.specs.Schema.{Schema}
use Rattle.flow_model.specs.Resolution.{ChoiceOption, OptionTrace}
use Rattle.flow_model.specs.Folding.{folded_options, is_named}
use Rattle.flow_model.proofs.Lists.{mem_append_left, mem_append_right, mem-append}
use Rattle.flow_model.proofs.MadeLists.{mem-map, of_map, passing_member, some_passes}
use Rattle.flow_laws.specs.Resolutions.{Resolves}
use Rattle.flow_laws.specs.WellFormed.{IsWellFormed}
use Rattle.flow_laws.proofs.ResolutionsLemmas.{blocks_of_a_resolution, resolves_of, mem-resolutions, choice_free_resolution, goal_trace}
use Rattle.flow_laws.proofs.TraceLeaves.{some_blocks, leaf_in_trace, leaf_of_trace}
use Rattle.flow_fold_laws.specs.Unfolding.{IsFoldedOrdered}
use Rattle.flow_fold_laws.proofs.OutsideChoices.{outside_trace, unfolding_trace}
use Rattle.flow_fold_laws.proofs.UnfoldedOptions.{folded_option_is_ordered, folded_option_of_good, folded_option_trace_is_good}
use Rattle.flow_plan.specs.Options.{HasExecution, AreJustThose, option_of, options_of}
use Rattle.flow_plan.specs.Sampled.{Sampled}
use Rattle.flow_plan.proofs.KeptOptions.{kept_has}
use Rattle.flow_residual.proofs.Following.{has_kept}
use Rattle.flow_lint.specs.Leaves.{IsDead, is_in_plans}

-- a resolution, and one that has the leaf

some_resolution : (g : Process) → (u : Process) × Resolves g u
some_resolution g =
    let (bs, blocks) = some_blocks g in
    let (u, m, _) = blocks_of_a_resolution g bs blocks in
    (u, resolves_of g u m)

abbrev HasResolution : Process → ℕ → Type 0
HasResolution g n = (u : Process) × Resolves g u × (n ∈ leaves u)

resolution_with : (g : Process) (n : ℕ) → n ∈ leaves g → HasResolution g n
resolution_with Empty n m = absurd m
resolution_with (Task k) n m = (Task k, refl, m)
resolution_with (Sequence a b) n m = ⊎_elim
    (λ l. let (u, r, k) = resolution_with a n l in let (v, s) = some_resolution b in
    (Sequence u v, (u, v, r, s, refl), mem_append_left n (leaves u) (leaves v) k))
    (λ l. let (u, r) = some_resolution a in let (v, s, k) = resolution_with b n l in
    (Sequence u v, (u, v, r, s, refl), mem_append_right n (leaves u) (leaves v) k))
    (mem-append n (leaves a) (leaves b) m)
resolution_with (Parallel a b) n m = ⊎_elim
    (λ l. let (u, r, k) = resolution_with a n l in let (v, s) = some_resolution b in
    (Parallel u v, (u, v, r, s, refl), mem_append_left n (leaves u) (leaves v) k))
    (λ l. let (u, r) = some_resolution a in let (v, s, k) = resolution_with b n l in
    (Parallel u v, (u, v, r, s, refl), mem_append_right n (leaves u) (leaves v) k))
    (mem-append n (leaves a) (leaves b) m)
resolution_with (Choice a b) n m = ⊎_elim
    (λ l. let (u, r, k) = resolution_with a n l in (u, inl r, k))
    (λ l. let (u, r, k) = resolution_with b n l in (u, inr r, k))
    (mem-append n (leaves a) (leaves b) m)
resolution_with (Isolated a) n m = let (u, r, k) = resolution_with a n m in (Isolated u, (u, r, refl), k)

-- some execution of an option that has one has the leaf
trace_with : (o : ChoiceOption) → IsFoldedOrdered o.resolution o.order → HasExecution o → (n : ℕ) → n ∈ leaves o.resolution →
    (t : List ℕ) × OptionTrace o t × (n ∈ t)
trace_with o w (t, taken) n m =
    let (u, r, k) = resolution_with o.resolution n m in
    let (s, in_u, in_order) = unfolding_trace o.resolution u o.order w.folded r (outside_trace o.resolution o.order w (t, taken.0, taken.1)) in
    (s, (goal_trace o.resolution u (mem-resolutions o.resolution u r) s in_u, in_order), leaf_in_trace u (choice_free_resolution o.resolution u r) s in_u n k)

-- an option of the plans has the leaf

to_option : (plans : List Sampled) (n : ℕ) → IsTrue (is_in_plans plans n) → (o : ChoiceOption) × (o ∈ options_of plans) × (n ∈ leaves o.resolution)
to_option plans n is =
    let (s, m, has) = passing_member (λ (s : Sampled). list_any (λ k. nat_eq k n) (leaves s.plan.process)) plans is in
    let (k, l, same) = passing_member (λ k. nat_eq k n) (leaves s.plan.process) has in
    (option_of s.plan, mem-map (λ (s : Sampled). option_of s.plan) s plans m, subst (λ j. j ∈ leaves s.plan.process) (eqb-true k n same) l)

from_option : (plans : List Sampled) (n : ℕ) (o : ChoiceOption) → o ∈ options_of plans → n ∈ leaves o.resolution → IsTrue (is_in_plans plans n)
from_option plans n o among has =
    let (s, m, is) = of_map (λ (s : Sampled). option_of s.plan) o plans among in
    some_passes (λ (s : Sampled). list_any (λ k. nat_eq k n) (leaves s.plan.process)) s plans m
    (some_passes (λ k. nat_eq k n) n (leaves s.plan.process) (subst (λ (o : ChoiceOption). n ∈ leaves o.resolution) is has) (eq-eqb n n refl))

module _ (w : Schema) (f : IsWellFormed w) (plans : List Sampled) (are : AreJustThose HasExecution (folded_options w) (options_of plans)) (n : ℕ) where
  -- no good trace has a leaf that no plan has
  pub dead : ¬ (IsTrue (is_in_plans plans n)) → IsDead w n
  dead none t good m =
      let (o, among, trace) = folded_option_of_good (is_named w) w f (λ k h. h) t good in
      none (from_option plans n o (has_kept (folded_options w) (options_of plans) are o among (t, trace)) (leaf_of_trace o.resolution t trace.0 n m))

  -- and some good trace has one that a plan has
  pub not_dead : IsDead w n → ¬ (IsTrue (is_in_plans plans n))
  not_dead is has =
      let (o, among, l) = to_option plans n has in
      let (there, some) = kept_has (folded_options w) (options_of plans) are o among in
      let (t, trace, m) = trace_with o (folded_option_is_ordered (is_named w) w f o there) some n l in
      is t (folded_option_trace_is_good (is_named w) w f (λ k h. h) t o there trace) m
