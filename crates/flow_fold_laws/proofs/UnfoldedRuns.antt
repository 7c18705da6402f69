-- The ready runs of a folded option are those of its unfoldings.
use Rattle.std.proofs.Common.{ℕ, List, [], ◌∷◌, refl, sym, subst, inl, inr, ⊎_elim}
use Rattle.flow_model.specs.Lists.{◌∈◌, AreDistinct}
use Rattle.flow_model.specs.Process.{Process, leaves}
use Rattle.flow_model.specs.Ready.{DoneOr, IsReadyRunAfter, IsReadyRun}
use Rattle.flow_model.specs.Folding.{IsFolded}
use Rattle.flow_model.specs.FoldedReady.{IsFinished, IsFoldedRunAfter, IsFoldedRun}
use Rattle.flow_laws.specs.Resolutions.{Resolves}
use Rattle.flow_fold_laws.specs.FoldedRuns.{FoldedRunsUnfold, CompleteRunsUnfold}
use Rattle.flow_model.proofs.Lists.{only_one}
use Rattle.flow_laws.proofs.ResolutionsLemmas.{resolves_of, mem-resolutions, distinct_leaves_of_resolution}
use Rattle.flow_laws.proofs.ReadyRuns.{run_leaf}
use Rattle.flow_fold_laws.proofs.TakenSides.{IsOneSided, Fits, takes_of, unfolding_with, one_sided_as, one_sided_at_first, one_sided_more}
use Rattle.flow_fold_laws.proofs.UnfoldedReady.{ready_unfolds, ready_folds, finished_all, all_finished}

-- a folded goal and one of its unfoldings
module _ (q u : Process) (folded : IsFolded q) (distinct : AreDistinct (leaves q)) (resolves : Resolves q u) (pairs : List (ℕ × ℕ)) where
  run_unfolds : (D : ℕ → Type 0) (run : List ℕ) → Fits (DoneOr D run) q u → IsFoldedRunAfter q pairs D run → IsReadyRunAfter u pairs D run
  run_unfolds D [] fits h = tt
  run_unfolds D (n ∷ run) fits (r, h) = (
    ready_unfolds (takes_of D q u folded distinct resolves (λ x m e. fits x m (inl e))) (distinct_leaves_of_resolution q u resolves distinct) pairs n
        (fits n r.leaf (inr (inl refl))) r,
    run_unfolds (DoneOr D (n ∷ [])) run (λ x m e. fits x m (⊎_elim (⊎_elim inl (λ k. inr (inl (only_one x n k)))) (λ k. inr (inr k)) e)) h,
  )

  run_folds : (D : ℕ → Type 0) (run : List ℕ) → Fits D q u → IsReadyRunAfter u pairs D run → IsFoldedRunAfter q pairs D run
  run_folds D [] fits h = tt
  run_folds D (n ∷ run) fits (r, h) = (
    ready_folds (takes_of D q u folded distinct resolves fits) pairs n r,
    run_folds (DoneOr D (n ∷ [])) run (λ x m. ⊎_elim (fits x m) (λ k. subst (λ z. z ∈ leaves u) (sym (only_one x n k)) r.leaf)) h,
  )

  -- a folded run of which each leaf is one of the unfolding is a ready run of it
  pub folded_run_unfolds : (run : List ℕ) → Fits (λ n. n ∈ run) q u → IsFoldedRun q pairs run → IsReadyRun u pairs run
  folded_run_unfolds run fits = run_unfolds (λ n. ⊥) run (λ x m. ⊎_elim absurd (fits x m))

  pub ready_run_folds : (run : List ℕ) → IsReadyRun u pairs run → IsFoldedRun q pairs run
  ready_run_folds run = run_folds (λ n. ⊥) run (λ x m. absurd)

  -- the goal is finished exactly where the unfolding is done that has the done leaves
  pub end_unfolds : (run : List ℕ) → Fits (λ n. n ∈ run) q u → IsFinished q (λ n. n ∈ run) → (n : ℕ) → n ∈ leaves u → n ∈ run
  end_unfolds run fits = finished_all (takes_of (λ n. n ∈ run) q u folded distinct resolves fits)

  pub end_folds : (run : List ℕ) → Fits (λ n. n ∈ run) q u → ((n : ℕ) → n ∈ leaves u → n ∈ run) → IsFinished q (λ n. n ∈ run)
  end_folds run fits = all_finished (takes_of (λ n. n ∈ run) q u folded distinct resolves fits)

-- of each choice a ready run begins at most one side

after_more : (q : Process) (pairs : List (ℕ × ℕ)) (D : ℕ → Type 0) (run : List ℕ) → AreDistinct (leaves q) → IsOneSided q D → IsFoldedRunAfter q pairs D run →
    IsOneSided q (DoneOr D run)
after_more q pairs D [] d one h = one_sided_as q D (DoneOr D []) (λ n. ⊎_elim (λ e. e) absurd) one
after_more q pairs D (n ∷ run) d one (r, h) =
    one_sided_as q (DoneOr (DoneOr D (n ∷ [])) run) (DoneOr D (n ∷ run))
    (λ x. ⊎_elim (λ e. inl (inl e)) (⊎_elim (λ e. inl (inr (inl e))) inr))
    (after_more q pairs (DoneOr D (n ∷ [])) run d (one_sided_more q D n d r.not_closed one) h)

-- so some unfolding has all its leaves
pub unfolding_of_run : (q : Process) (pairs : List (ℕ × ℕ)) (run : List ℕ) → AreDistinct (leaves q) → IsFoldedRun q pairs run →
    (u : Process) × Resolves q u × Fits (λ n. n ∈ run) q u
unfolding_of_run q pairs run d h =
    unfolding_with q run (one_sided_as q (DoneOr (λ n. ⊥) run) (λ n. n ∈ run) (λ n. inr) (after_more q pairs (λ n. ⊥) run d (one_sided_at_first q) h))

pub folded_runs_unfold : FoldedRunsUnfold
folded_runs_unfold o w run = (
  λ h. let (u, r, fits) = unfolding_of_run o.resolution o.order run w.distinct h in
      (record { resolution = u; order = o.order }, (mem-resolutions o.resolution u r, refl), folded_run_unfolds o.resolution u w.folded w.distinct r o.order run fits h),
  λ (u, (m, e), h). ready_run_folds o.resolution u.resolution w.folded w.distinct (resolves_of o.resolution u.resolution m) o.order run
      (subst (λ pairs. IsReadyRun u.resolution pairs run) e h),
)

pub complete_runs_unfold : CompleteRunsUnfold
complete_runs_unfold o w run = (
  λ (h, f). let (u, r, fits) = unfolding_of_run o.resolution o.order run w.distinct h in (
    record { resolution = u; order = o.order },
    (mem-resolutions o.resolution u r, refl),
    (
      folded_run_unfolds o.resolution u w.folded w.distinct r o.order run fits h,
      end_unfolds o.resolution u w.folded w.distinct r o.order run fits f,
    ),
  ),
  λ (u, (m, e), (h, all)).
      let r = resolves_of o.resolution u.resolution m in
      let run_in_u = subst (λ pairs. IsReadyRun u.resolution pairs run) e h in (
        ready_run_folds o.resolution u.resolution w.folded w.distinct r o.order run run_in_u,
        end_folds o.resolution u.resolution w.folded w.distinct r o.order run (λ n m k. run_leaf u.resolution o.order (λ x. ⊥) run run_in_u n k) all,
      ),
)
