-- Plans with choices: one way to take the sides has an execution exactly where each has.
use Rattle.std.proofs.Common.{◌≡◌, ◌≢◌, ℕ, List, [], ◌∷◌, ◌++◌, refl, sym, subst}
use Rattle.flow_model.specs.Lists.{Each}
use Rattle.flow_model.specs.Process.{Process, Empty, Task, Sequence, Parallel, Choice, Isolated, IsChoiceFree}
use Rattle.flow_model.specs.Folding.{outside_choices}
use Rattle.flow_model.specs.Resolution.{OptionTrace}
use Rattle.flow_model.proofs.Lists.{each_parts}
use Rattle.flow_laws.specs.WellFormed.{AreOfLeaves, IsOrdered}
use Rattle.flow_laws.proofs.ResolutionsLemmas.{mem-resolutions}
use Rattle.flow_fold_laws.specs.Unfolding.{IsFoldedOrdered}
use Rattle.flow_fold_laws.proofs.FoldedRunsLemmas.{trace_folds}
use Rattle.flow_fold_laws.proofs.OutsideChoices.{folded_circles_exclude_traces, outside_none, unfolding_trace}
use Rattle.flow_fold_laws.proofs.Unfoldings.{resolves_itself, unfolding_is_ordered}
use Rattle.flow_goal.specs.LeftSides.{left_sides}
use Rattle.flow_goal.specs.Written.{nodes_of}
use Rattle.flow_goal.specs.declared.node.Node.{Node}
use Rattle.flow_goal.specs.declared.node.Node.TheVariants.{Serial, Split, Join, Close, Choose}
use Rattle.flow_plan.specs.Options.{HasExecution}
use Rattle.flow_plan.proofs.FoldedGoals.{left_sides_resolve, left_sides_unfold}
use Rattle.flow_sample.specs.Items.{TellsCircle}
use Rattle.flow_sample.specs.Sample.{IsReasonAgainst, TellsFoldedCircle}
use Rattle.flow_sample.specs.declared.sample.ExciseRefusal.{ExciseRefusal}
use Rattle.flow_sample.specs.declared.sample.ExciseRefusal.TheVariants.{Circle, NoMemory}

-- where no choice begins there is none

abbrev pub BeginsNone : List Node → Type 0
BeginsNone nodes = Each (λ node. node ≢ Choose) nodes

pub no_choice_begins : (q : Process) → BeginsNone (nodes_of q) → IsChoiceFree q
no_choice_begins Empty h = tt
no_choice_begins (Task n) h = tt
no_choice_begins (Sequence a b) h =
    let (in_a, more) = each_parts (λ node. node ≢ Choose) (nodes_of a) (nodes_of b ++ Serial ∷ []) h in
    let (in_b, _) = each_parts (λ node. node ≢ Choose) (nodes_of b) (Serial ∷ []) more in
    (no_choice_begins a in_a, no_choice_begins b in_b)
no_choice_begins (Parallel a b) (_, h) =
    let (in_a, more) = each_parts (λ node. node ≢ Choose) (nodes_of a) (Split ∷ (nodes_of b ++ Join ∷ [])) h in
    let (in_b, _) = each_parts (λ node. node ≢ Choose) (nodes_of b) (Join ∷ []) more.1 in
    (no_choice_begins a in_a, no_choice_begins b in_b)
no_choice_begins (Choice a b) (h, _) = absurd (h refl)
no_choice_begins (Isolated a) (_, h) = no_choice_begins a (each_parts (λ node. node ≢ Choose) (nodes_of a) (Close ∷ []) h).0

-- the leaves of each pair are on left sides
pub left_of_leaves : (q : Process) (pairs : List (ℕ × ℕ)) → IsFoldedOrdered q pairs → AreOfLeaves (left_sides q) pairs
left_of_leaves q pairs w = (unfolding_is_ordered q (left_sides q) pairs w (left_sides_unfold q)).of_leaves

-- a plan without choices is one of earlier laws
pub ordered : (q : Process) (pairs : List (ℕ × ℕ)) → IsFoldedOrdered q pairs → IsChoiceFree q → IsOrdered q pairs
ordered q pairs w free = unfolding_is_ordered q q pairs w (mem-resolutions q q (resolves_itself q free))

module _ (q : Process) (pairs : List (ℕ × ℕ)) (w : IsFoldedOrdered q pairs) where
  -- an execution of the left sides is one of the goal
  pub left_traced : (t : List ℕ) → OptionTrace (record { resolution = left_sides q; order = pairs }) t → OptionTrace (record { resolution = q; order = pairs }) t
  left_traced t (trace, order) = (trace_folds q (left_sides q) t (left_sides_resolve q) trace, order)

  -- where they have none, the goal outside its choices has none
  pub none_outside : ¬ (HasExecution (record { resolution = left_sides q; order = pairs })) → ¬ (HasExecution (record { resolution = outside_choices q; order = pairs }))
  none_outside none (t, (trace, order)) =
      let (s, in_left, stands) = unfolding_trace q (left_sides q) pairs w.folded (left_sides_resolve q) (t, trace, order) in none (s, (in_left, stands))

  -- a circle outside the choices is a reason
  pub folded_reason : (e : ExciseRefusal) → TellsFoldedCircle q pairs e → IsReasonAgainst (record { resolution = q; order = pairs }) e
  folded_reason (Circle circle) c = ((λ (t, (trace, order)). folded_circles_exclude_traces q pairs w circle.leaves.items c t trace order), c)
  folded_reason NoMemory c = tt

pub told_outside : (q p : Process) (pairs : List (ℕ × ℕ)) → p ≡ outside_choices q → (e : ExciseRefusal) → TellsCircle p pairs e → TellsFoldedCircle q pairs e
told_outside q p pairs same (Circle circle) c = subst (λ g. TellsCircle g pairs (Circle circle)) same c
told_outside q p pairs same NoMemory c = tt

pub told_without_choices : (q : Process) (pairs : List (ℕ × ℕ)) → IsChoiceFree q → (e : ExciseRefusal) → TellsCircle q pairs e → TellsFoldedCircle q pairs e
told_without_choices q pairs free e c = told_outside q q pairs (sym (outside_none q free)) e c
