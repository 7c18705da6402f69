-- Claims that are out on a leaf.
use Rattle.std.specs.Prelude.{◌≡◌, ℕ, Some, slice_get}
use Rattle.flow_model.specs.declared.history.Step.TheVariants.{Took}
use Rattle.flow_model.specs.Run.{leaf_of_claim, IsCurrent}
use Rattle.flow_core.specs.Run.{Run, now}

-- the claim is out, and on the leaf
abbrev pub IsOutOn : Run → ℕ → ℕ → Type 0
IsOutOn r leaf claim = IsCurrent (now r) claim × (leaf_of_claim (now r) claim ≡ leaf)

-- so it is; the entry at that place gave it to that user
pub record IsOutBy (r : Run) (leaf claim entry user : ℕ) : Type 0 where
  pub is_out : IsOutOn r leaf claim
  pub given : slice_get r.history entry ≡ Some (record { by = user; step = Took claim leaf })
