-- The tests and updates of a case.
use Rattle.std.specs.Prelude.{◌≡◌, ℕ, None, map}
use Rattle.flow_model.specs.Facts.{event_at}
use Rattle.flow_model.specs.Verdict.{AreJust}
use Rattle.flow_core.specs.Run.{Run, schema}
use Rattle.flow_core.specs.Next.{CanAct, IsWaiting}
use Rattle.flow_list.specs.declared.steps.LeafName.{LeafName}
use Rattle.flow_list.specs.declared.steps.Steps.{Steps}

abbrev pub leaf_of : LeafName → ℕ
leaf_of named = named.leaf

-- the leaf is no task's and may be done now
abbrev pub IsFreeStep : Run → ℕ → Type 0
IsFreeStep r leaf = CanAct r leaf × (event_at (schema r).labels leaf ≡ None)

pub record AreStepsOf (r : Run) (steps : Steps) : Type 0 where
  -- just those that may be done now
  pub free : AreJust (IsFreeStep r) (map leaf_of steps.free.items)
  -- just those for which the run waits, where nothing else is left
  pub waiting : AreJust (IsWaiting r) (map leaf_of steps.waiting.items)
