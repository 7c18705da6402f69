-- What the calls that make an entry owe, told of the fields of a core.
use Rattle.std.proofs.Common.{◌≡◌, ◌≤◌, ◌<◌, ℕ, Bool, false, List, length, arith, subst, subst₂, sym, ◌∙◌, true≢false}
use Rattle.std.specs.Vec.{vec_capacity}
use Rattle.flow_model.specs.declared.limits.TheConstants.{MOST_ENTRIES}
use Rattle.flow_model.specs.declared.history.Entry.{Entry}
use Rattle.flow_model.specs.declared.history.Step.{Step}
use Rattle.flow_model.specs.Run.{leaf_of_claim, IsCurrent}
use Rattle.flow_residual.specs.Remaining.{MayComeNext}
use Rattle.flow_residual.specs.Claimed.{run_of, IsUnanswered}
use Rattle.flow_core.specs.declared.run.Core.TheInside.{Inside}
use Rattle.flow_core.specs.Run.{Run, now, IsUncommitted, HasEntryLeft}
use Rattle.flow_core.specs.Invariant.{run_by, IsKept, IsRunning}
use Rattle.flow_core.proofs.Steps.{longer}
use Rattle.flow_core.proofs.Tests.{unanswered_there}
use Rattle.flow_core.proofs.GivenClaims.{unanswered_current, next_of_current}

module _ (i : Inside) (k : IsRunning i) (v : Run) (view : run_by i ≡ v) where
  -- what is told of the run, told of the fields
  inside : (P : Run → Type 0) → P v → P (run_by i)
  inside P = subst P (sym view)

  pub ended_inside : (over : Bool) → i.committed ≡ over → (now v).committed ≡ over
  ended_inside over is = subst (λ r. (now r).committed ≡ over) view (k.kept.committed_is ∙ is)

  pub unanswered_inside : (claim : ℕ) → IsCurrent (now v) claim → IsUnanswered (run_of i.claims) claim
  unanswered_inside claim current =
      unanswered_there i.workflow (now (run_by i)) i.claims k.kept.claims claim (unanswered_current (now (run_by i)) claim (inside (λ r. IsCurrent (now r) claim) current))

  pub next_inside : (claim leaf : ℕ) → IsCurrent (now v) claim → leaf_of_claim (now v) claim ≡ leaf → MayComeNext i.residual leaf
  next_inside claim leaf current on =
      subst (MayComeNext i.residual) (inside (λ r. leaf_of_claim (now r) claim ≡ leaf) on)
      (next_of_current i k claim (inside (λ r. IsCurrent (now r) claim) current))

  -- there are epochs left
  pub epoch_below : HasEntryLeft v → i.claims.epoch < MOST_ENTRIES
  epoch_below left =
      let room : length i.history.items < i.limit = inside HasEntryLeft left in
      let few : i.claims.epoch ≤ length i.history.items = k.kept.few_epochs in
      let small : i.limit ≤ MOST_ENTRIES = k.small in
      omega arith

  -- with one entry more and nothing looked at
  pub entered : (i' : Inside) (by : ℕ) (step : Step) → i'.workflow ≡ i.workflow → i'.limit ≡ i.limit → i'.looked ≡ false → i'.history.items ≡ longer i.history.items by step →
      vec_capacity i'.history ≡ vec_capacity i.history → IsUncommitted v → HasEntryLeft v →
      (IsUncommitted (run_by i) → HasEntryLeft (run_by i) → IsKept i.workflow i.limit (longer i.history.items by step) i'.residual i'.claims i'.world i'.committed) → IsRunning i'
  entered i' by step workflow limit unlooked items capacity open_now steps made = record {
    kept = subst (λ w. IsKept w i'.limit i'.history.items i'.residual i'.claims i'.world i'.committed) (sym workflow)
        (subst₂ (λ n (h : List Entry). IsKept i.workflow n h i'.residual i'.claims i'.world i'.committed) (sym limit) (sym items) (made (inside IsUncommitted open_now) (inside HasEntryLeft steps)));
    room = subst₂ (λ n m. n ≤ m) (sym limit) (sym capacity) k.room;
    small = subst (λ n. n ≤ MOST_ENTRIES) (sym limit) k.small;
    ahead = λ looked. absurd (true≢false (sym looked ∙ unlooked));
  }
