-- Ready runs of folded options and their executions.
use Rattle.std.proofs.Common.{ℕ, List, refl, subst}
use Rattle.flow_model.specs.Lists.{◌∈◌, AreInOrder, Begins}
use Rattle.flow_model.specs.Process.{Process}
use Rattle.flow_model.specs.Trace.{Trace}
use Rattle.flow_model.specs.Ready.{IsCompleteRun}
use Rattle.flow_model.specs.FoldedReady.{IsFoldedRun}
use Rattle.flow_laws.specs.WellFormed.{IsOrdered}
use Rattle.flow_laws.specs.Resolutions.{Resolves}
use Rattle.flow_laws.proofs.ResolutionsLemmas.{resolves_of, mem-resolutions, blocks_of_a_resolution, goal_trace}
use Rattle.flow_laws.proofs.ReadyRuns.{complete_runs_are_traces, fronts_are_ready}
use Rattle.flow_laws.proofs.CircleOrTrace.{ready_runs_extend}
use Rattle.flow_fold_laws.specs.Unfolding.{IsFoldedOrdered}
use Rattle.flow_fold_laws.specs.FoldedRuns.{FoldedCompleteRunsAreTraces, FoldedFrontsAreReady, FoldedRunsExtend}
use Rattle.flow_fold_laws.proofs.Unfoldings.{unfolding_is_ordered}
use Rattle.flow_fold_laws.proofs.TakenSides.{Fits}
use Rattle.flow_fold_laws.proofs.UnfoldedRuns.{folded_run_unfolds, ready_run_folds, unfolding_of_run, complete_runs_unfold}
use Rattle.flow_fold_laws.proofs.OutsideChoices.{HasTraceInOrder, outside_trace, unfolding_trace}

-- what an option asks of its resolution and pairs, an unfolding has
ordered : (q u : Process) (pairs : List (ℕ × ℕ)) → IsFoldedOrdered q pairs → Resolves q u → IsOrdered u pairs
ordered q u pairs w r = unfolding_is_ordered q u pairs w (mem-resolutions q u r)

-- each execution is one of an unfolding
pub unfolding_of_trace : (q : Process) (t : List ℕ) → Trace q t → (u : Process) × Resolves q u × Trace u t
unfolding_of_trace q t (bs, h, e) = let (u, m, k) = blocks_of_a_resolution q bs h in (u, resolves_of q u m, (bs, k, e))

pub trace_folds : (q u : Process) (t : List ℕ) → Resolves q u → Trace u t → Trace q t
trace_folds q u t r = goal_trace q u (mem-resolutions q u r) t

pub folded_complete_runs_are_traces : FoldedCompleteRunsAreTraces
folded_complete_runs_are_traces q pairs w t = (
  λ h.
      let (u, (m, e), complete) = (complete_runs_unfold (record { resolution = q; order = pairs }) w t).0 h in
      let r = resolves_of q u.resolution m in
      let (trace, order) = (complete_runs_are_traces u.resolution pairs (ordered q u.resolution pairs w r) t).0
      (subst (λ p. IsCompleteRun u.resolution p t) e complete) in
      (trace_folds q u.resolution t r trace, order),
  λ (trace, order).
      let (u, r, in_u) = unfolding_of_trace q t trace in
      (complete_runs_unfold (record { resolution = q; order = pairs }) w t).1
      (record { resolution = u; order = pairs }, (mem-resolutions q u r, refl), (complete_runs_are_traces u pairs (ordered q u pairs w r) t).1 (in_u, order)),
)

pub folded_fronts_are_ready : FoldedFrontsAreReady
folded_fronts_are_ready q pairs w t front trace order begins =
    let (u, r, in_u) = unfolding_of_trace q t trace in
    ready_run_folds q u w.folded w.distinct r pairs front (fronts_are_ready u pairs (ordered q u pairs w r) t front in_u order begins)

-- where there is an execution, a ready run goes on to one of each unfolding that has its leaves
pub run_extends_in : (q u : Process) (pairs : List (ℕ × ℕ)) → IsFoldedOrdered q pairs → Resolves q u → HasTraceInOrder q pairs →
    (run : List ℕ) → Fits (λ n. n ∈ run) q u → IsFoldedRun q pairs run → (t : List ℕ) × Trace u t × AreInOrder pairs t × Begins t run
run_extends_in q u pairs w r some run fits h =
    ready_runs_extend u pairs (ordered q u pairs w r) (unfolding_trace q u pairs w.folded r (outside_trace q pairs w some)) run
    (folded_run_unfolds q u w.folded w.distinct r pairs run fits h)

pub folded_runs_extend : FoldedRunsExtend
folded_runs_extend q pairs w some run h =
    let (u, r, fits) = unfolding_of_run q pairs run w.distinct h in
    let (t, trace, order, begins) = run_extends_in q u pairs w r some run fits h in
    (t, trace_folds q u t r trace, order, begins)
