-- Leaves that are asked one after another whether they can be taken or done.
use Rattle.std.proofs.Common.{◌≡◌, ◌<◌, ◌≤◌, ◌+◌, ◌⊎◌, ℕ, inl, inr, subst, sym, ap, length, arith, is_some}
use Rattle.flow_model.specs.Run.{CanTake, CanDo}
use Rattle.flow_core.specs.Run.{Run, schema}
use Rattle.flow_core.specs.Next.{CanAct}
use Rattle.flow_core.proofs.Calls.{event_below}
use Rattle.flow_roles.specs.Desked.{Desked}
use Rattle.flow_staff.proofs.NobodyLemmas.{below_or_last}
use Rattle.flow_case_state.specs.Takers.{IsForNone}

-- of the first leaves, those that can be taken or done are for none
abbrev pub FirstAreForNone : Desked → ℕ → ℕ → Type 0
FirstAreForNone d users bound = (leaf : ℕ) → leaf < bound → CanAct d.run leaf → IsForNone d users leaf

pub one_more : (d : Desked) (users bound : ℕ) → FirstAreForNone d users bound → (CanAct d.run bound → IsForNone d users bound) → FirstAreForNone d users (bound + 1)
one_more d users bound before last leaf within can = elim (below_or_last leaf bound within) [
  | inl less ↦ before leaf less can
  | inr same ↦ subst (IsForNone d users) (sym same) (last (subst (CanAct d.run) same can))
]

-- what can be taken or done is a leaf of the goal
pub acts_below : (r : Run) (leaf : ℕ) → CanAct r leaf → leaf < length (schema r).labels
acts_below r leaf (going, inl take) = event_below (schema r).labels leaf take.0
acts_below r leaf (going, inr done) = done.0.0.0

pub all_leaves : (d : Desked) (users bound : ℕ) → length (schema d.run).labels ≤ bound → FirstAreForNone d users bound →
    (leaf : ℕ) → CanAct d.run leaf → IsForNone d users leaf
all_leaves d users bound past first leaf can = let low : leaf < length (schema d.run).labels = acts_below d.run leaf can in first leaf (omega arith) can
