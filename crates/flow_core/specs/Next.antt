-- What a run can do next.
use Rattle.std.specs.Prelude.{◌≡◌, ℕ, [], ◌⊎◌}
use Rattle.flow_model.specs.Schema.{IsGood}
use Rattle.flow_model.specs.Run.{current_claims, IsCurrent, CanTake, CanDo, IsStuck, Waits}
use Rattle.flow_core.specs.declared.next.Next.{Next}
use Rattle.flow_core.specs.declared.next.Next.TheVariants.{Act, Wait, Finished, Stuck, Ended}
use Rattle.flow_core.specs.Run.{Run, schema, now, IsUncommitted}
use Rattle.flow_core.specs.Answers.{IsOver}
pub use Rattle.flow_core.specs.Answers.{IsLeast}

-- the leaf can be taken or done
abbrev pub CanStep : Run → ℕ → Type 0
CanStep r leaf = CanTake (schema r) (now r) leaf ⊎ CanDo (schema r) (now r) leaf

-- the run is not over, and the leaf can be taken or done
abbrev pub CanAct : Run → ℕ → Type 0
CanAct r leaf = IsUncommitted r × CanStep r leaf

-- nothing is left but tests and absences that are false now, and the leaf is one of them
abbrev pub IsWaiting : Run → ℕ → Type 0
IsWaiting r leaf = IsStuck (schema r) (now r) × Waits (schema r) (now r) leaf

abbrev pub NoneCanAct : Run → Type 0
NoneCanAct r = (leaf : ℕ) → ¬ (CanAct r leaf)

-- the first that applies: the run is over; the least leaf that can act; the least current claim; the journal is a whole execution; the
-- least leaf that waits
abbrev pub IsNext : Run → Next → Type 0
IsNext r Ended = IsOver r
IsNext r (Act leaf) = IsLeast (CanAct r) leaf
IsNext r (Wait claim) = IsUncommitted r × NoneCanAct r × IsLeast (IsCurrent (now r)) claim
IsNext r Finished = IsUncommitted r × NoneCanAct r × (current_claims (now r) ≡ []) × IsGood (schema r) (now r).journal
IsNext r (Stuck leaf) = IsLeast (IsWaiting r) leaf
