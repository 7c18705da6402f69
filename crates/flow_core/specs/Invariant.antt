-- What a core keeps: its history is legal, and all else is its state.
use Rattle.std.specs.Prelude.{◌≡◌, ◌≤◌, ℕ, Bool, List, length, map, Some, ◌↔◌, IsTrue, [], ◌∷◌, ◌++◌}
use Rattle.flow_model.specs.declared.limits.TheConstants.{MOST_ENTRIES}
use Rattle.flow_model.specs.declared.history.Entry.{Entry}
use Rattle.flow_model.specs.Facts.{event_at}
use Rattle.flow_model.specs.Lists.{Each}
use Rattle.flow_model.specs.Run.{Claim, RunState, state_of, IsLegal, current_leaves, MayAllFollow, MayFollowFirst}
use Rattle.flow_model.specs.Takers.{Taking, takings_of}
use Rattle.flow_laws.specs.WellFormed.{IsConsistent}
use Rattle.flow_workflow.specs.Definition.{Definition, schema_of}
use Rattle.flow_workflow.specs.Numbers.{IsKnown}
use Rattle.flow_residual.specs.Remaining.{Remaining, IsOf}
use Rattle.flow_residual.specs.Claimed.{Claimed}
use Rattle.flow_facts.specs.Course.{Course}
use Rattle.flow_facts.specs.Journals.{labels_at}
use Rattle.std.specs.Vec.{vec_capacity}
use Rattle.flow_core.specs.declared.run.Core.TheInside.{Inside}
use Rattle.flow_core.specs.Run.{Run}
use Rattle.leaf_rows.specs.Leaves.{has_leaf}
use Rattle.leaf_rows.specs.declared.leaf_set.LeafSet.{LeafSet}
use Rattle.leaf_rows.specs.declared.TheConstants.{LEAF_WORDS}
use Rattle.flow_model.specs.Schema.{Schema}

-- the claims, their events and the epoch are those of the state
pub record AreClaimsOf (w : Definition) (s : RunState) (c : Claimed) : Type 0 where
  pub claims_are : s.claims ≡ c.claims
  pub epoch_is : s.epoch ≡ c.epoch
  pub events_are : map (λ (claim : Claim). event_at w.tree.labels claim.leaf) c.claims ≡ map Some c.events
  pub kinds : c.kinds ≡ length w.events

-- what was performed is the state's journal
pub record IsCourseOf (w : Definition) (s : RunState) (v : Course) : Type 0 where
  pub held_is : v.held ≡ w.held
  pub count : v.count ≡ length w.facts
  pub labels_are : v.labels ≡ labels_at w.tree.labels s.journal
  pub room : v.room ≡ length w.tree.labels

pub record IsKept (w : Definition) (limit : ℕ) (history : List Entry) (r : Remaining) (c : Claimed) (v : Course) (committed : Bool) : Type 0 where
  pub legal : IsLegal (schema_of w) limit history
  pub consistent : IsConsistent (schema_of w)
  pub known : Each (IsKnown (length w.events) (length w.facts)) w.tree.labels
  pub noted : length w.notes ≡ length w.events
  pub remains : IsOf (schema_of w) (state_of (schema_of w) history) r
  pub claims : AreClaimsOf w (state_of (schema_of w) history) c
  pub takers_are : c.takers ≡ map (λ (t : Taking). t.taker) (takings_of history).given
  pub course : IsCourseOf w (state_of (schema_of w) history) v
  pub committed_is : (state_of (schema_of w) history).committed ≡ committed
  pub within_limit : length history ≤ limit
  pub claims_room : limit ≤ c.room
  pub few_claims : length c.claims ≤ length history
  pub few_epochs : c.epoch ≤ length history

abbrev pub run_by : Inside → Run
run_by c = record { definition = c.workflow; limit = c.limit; history = c.history.items }

-- the rows of what may follow in the state
pub record IsAhead (w : Schema) (s : RunState) (beside first : LeafSet LEAF_WORDS) : Type 0 where
  pub all : (leaf : ℕ) → IsTrue (has_leaf beside leaf) ↔ MayAllFollow w s (current_leaves s ++ leaf ∷ [])
  pub one : (leaf : ℕ) → IsTrue (has_leaf first leaf) ↔ MayFollowFirst w s leaf (current_leaves s)

-- the fields are the state of a legal history, and there is room for as many entries as the limit
pub record IsRunning (c : Inside) : Type 0 where
  pub kept : IsKept c.workflow c.limit c.history.items c.residual c.claims c.world c.committed
  pub room : c.limit ≤ vec_capacity c.history
  pub small : c.limit ≤ MOST_ENTRIES
  pub ahead : IsTrue c.looked → IsAhead (schema_of c.workflow) (state_of (schema_of c.workflow) c.history.items) c.beside c.first
