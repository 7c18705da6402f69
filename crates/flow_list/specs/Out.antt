-- What is out: of whom, and since when.
use Rattle.std.specs.Prelude.{◌≡◌, ◌⊎◌, ℕ, List, [], None, Some, slice_get}
use Rattle.std.specs.String.{string_bytes}
use Rattle.flow_model.specs.declared.history.Entry.{Entry}
use Rattle.flow_model.specs.declared.history.Step.TheVariants.{Took}
use Rattle.flow_model.specs.Run.{leaf_of_claim}
use Rattle.flow_core.specs.Run.{Run, now}
use Rattle.flow_export.specs.declared.log_row.Teller.{Teller}
use Rattle.flow_list.specs.declared.taken.TaskOut.{TaskOut}

abbrev pub claim_of : TaskOut → ℕ
claim_of task = task.claim

-- the entry at the place gave the claim
abbrev pub GaveAt : List Entry → ℕ → ℕ → Type 0
GaveAt history claim place = (leaf by : ℕ) × (slice_get history place ≡ Some (record { by = by; step = Took claim leaf }))

-- Who took the claim and when, as it is told of the entry that gave it. Both texts are empty where that is not told.
abbrev pub IsToldTaking : List Entry → List Teller → ℕ → List ℕ → List ℕ → Type 0
IsToldTaking history told claim user since =
    ((place : ℕ) × (by : Teller) × GaveAt history claim place × (slice_get told place ≡ Some by) × (user ≡ string_bytes by.by) × (since ≡ string_bytes by.at))
    ⊎ (((place : ℕ) → GaveAt history claim place → slice_get told place ≡ None) × (user ≡ []) × (since ≡ []))

-- its leaf is the claim's, and it is told who took it and when
pub record IsOutSince (r : Run) (told : List Teller) (task : TaskOut) : Type 0 where
  pub leaf : task.leaf ≡ leaf_of_claim (now r) task.claim
  pub taken : IsToldTaking r.history told task.claim (string_bytes task.user) (string_bytes task.since)
