-- What a residual keeps.
use Rattle.std.specs.Prelude.{◌≤◌, ◌<◌, ◌↔◌, ℕ, IsTrue, List, length}
use Rattle.std.specs.List.Sorted.{IsStrictlyIncreasing}
use Rattle.std.specs.Vec.{vec_capacity}
use Rattle.flow_model.specs.declared.limits.TheConstants.{MOST_LEAVES}
use Rattle.flow_model.specs.Lists.{◌∈◌, Each, AreDistinct}
use Rattle.flow_model.specs.Schema.{Schema}
use Rattle.flow_model.specs.Run.{RunState, IsOpen}
use Rattle.flow_plan.specs.Options.{options_of, HasSmallLeaves}
use Rattle.flow_residual.specs.declared.residual.Residual.TheInside.{Inside}
use Rattle.flow_residual.specs.Remaining.{Remaining, IsOf, banned}
use Rattle.flow_residual.specs.View.{remaining, pairs_of_bans}
use Rattle.flow_residual.specs.Options.{EachHas}
use Rattle.flow_residual.specs.Telling.{AreServing, IsOrderedOption, IsSetOf, Tells}
use Rattle.flow_residual.specs.PlanRows.{AreLeafRows, AreNext}
use Rattle.flow_residual.specs.Track.{IsFront}

-- numbers with a place in a row, none of them twice
pub record AreFew (list : List ℕ) : Type 0 where
  pub small : Each (λ n. n < MOST_LEAVES) list
  pub distinct : AreDistinct list

pub record IsKept (r : Remaining) : Type 0 where
  pub fits : Each HasSmallLeaves r.options
  pub ordered : Each IsOrderedOption r.options
  pub done : AreFew r.journal
  pub bans_few : AreFew (banned r.bans)
  pub apart : Each (λ n. ¬ (n ∈ r.journal)) (banned r.bans)
  pub early : Each (λ ban. ban.0 ≤ length r.journal) r.bans

-- they are the open places of the journal, rising
pub record AreOpenPlaces (r : Remaining) (opens : List ℕ) : Type 0 where
  pub within : Each (λ i. i < length r.journal) opens
  pub rising : IsStrictlyIncreasing opens
  pub exact : (w : Schema) (s : RunState) → IsOf w s r → (i : ℕ) → (i ∈ opens) ↔ IsOpen w s i

-- the fronts, the leaves and fresh rows are those of the plans, which the rows of choices serve; the sets are of the journal and the bans, and what
-- the choices say is by both; the open places are those of the journal; and there is room for each leaf in the journal, among the bans
-- and among the open places
pub record IsRoomy (r : Inside) : Type 0 where
  pub kept : IsKept (remaining r.plans.items r.journal.items r.bans.items)
  pub served : Each (AreServing r.folds.items) (options_of r.plans.items)
  pub fronts : EachHas (IsFront r.journal.items) (options_of r.plans.items) r.fronts.items
  pub leaves_are : AreLeafRows (options_of r.plans.items) r.leaves
  pub rows_are : IsTrue r.fresh → AreNext r.journal.items (options_of r.plans.items) r.rows
  pub done_are : IsSetOf r.journal.items r.done
  pub banned_are : IsSetOf (banned (pairs_of_bans r.bans.items)) r.banned
  pub sides : Tells (options_of r.plans.items) r.journal.items (banned (pairs_of_bans r.bans.items)) r.sides
  pub journal_room : MOST_LEAVES ≤ vec_capacity r.journal
  pub bans_room : MOST_LEAVES ≤ vec_capacity r.bans
  pub opens : AreOpenPlaces (remaining r.plans.items r.journal.items r.bans.items) r.opens.items
  pub opens_room : MOST_LEAVES ≤ vec_capacity r.opens
