-- Where a run stands at a leaf.
use Rattle.std.specs.Prelude.{◌≡◌, ◌↔◌, ℕ, Bool, true, IsTrue, List, length, Some, slice_get}
use Rattle.flow_model.specs.Lists.{◌∈◌}
use Rattle.flow_model.specs.Run.{current_leaves}
use Rattle.flow_core.specs.Run.{Run, schema, now}
use Rattle.flow_core.specs.Next.{CanAct}
use Rattle.flow_standing.specs.declared.standing.Standing.{Standing}
use Rattle.flow_standing.specs.declared.standing.Standing.TheVariants.{Plain, Done, Next, Claimed, Failed, Banned}
use Rattle.flow_standing.specs.Past.{has_failed}

-- the leaf counts
abbrev pub IsDone : Run → ℕ → Type 0
IsDone r leaf = leaf ∈ (now r).journal

-- a claim on the leaf is out
abbrev pub IsClaimed : Run → ℕ → Type 0
IsClaimed r leaf = leaf ∈ current_leaves (now r)

-- the leaf is banned
abbrev pub IsBanned : Run → ℕ → Type 0
IsBanned r leaf = (place : ℕ) × ((place, leaf) ∈ (now r).bans)

-- the last claim on the leaf failed
abbrev pub HasFailed : Run → ℕ → Type 0
HasFailed r leaf = has_failed (schema r) r.history leaf ≡ true

-- the leaf is neither done nor under a claim
abbrev pub IsOpenLeaf : Run → ℕ → Type 0
IsOpenLeaf r leaf = ¬ (IsDone r leaf) × ¬ (IsClaimed r leaf)

-- and it can neither be taken nor done
abbrev pub IsIdle : Run → ℕ → Type 0
IsIdle r leaf = IsOpenLeaf r leaf × ¬ (CanAct r leaf)

-- where the run stands at the leaf, the first that applies: done, under a claim, may come next, banned, failed, none of these
abbrev pub IsStanding : Run → ℕ → Standing → Type 0
IsStanding r leaf Done = IsDone r leaf
IsStanding r leaf Claimed = ¬ (IsDone r leaf) × IsClaimed r leaf
IsStanding r leaf Next = IsOpenLeaf r leaf × CanAct r leaf
IsStanding r leaf Banned = IsIdle r leaf × IsBanned r leaf
IsStanding r leaf Failed = IsIdle r leaf × ¬ (IsBanned r leaf) × HasFailed r leaf
IsStanding r leaf Plain = IsIdle r leaf × ¬ (IsBanned r leaf) × ¬ (HasFailed r leaf)

-- each leaf has its standing, and there are no others
pub record AreStandings (r : Run) (standings : List Standing) : Type 0 where
  pub count : length standings ≡ length (schema r).labels
  pub each : (leaf : ℕ) (standing : Standing) → slice_get standings leaf ≡ Some standing → IsStanding r leaf standing

-- of each leaf it is known whether it has P
pub record AreFlags (P : ℕ → Type 0) (leaves : ℕ) (flags : List Bool) : Type 0 where
  pub count : length flags ≡ leaves
  pub each : (leaf : ℕ) (flag : Bool) → slice_get flags leaf ≡ Some flag → IsTrue flag ↔ P leaf

-- of each leaf it is known whether it is done, under a claim, banned, and failed last
pub record AreKnown (r : Run) (done claimed banned failed : List Bool) : Type 0 where
  pub done_are : AreFlags (IsDone r) (length (schema r).labels) done
  pub claimed_are : AreFlags (IsClaimed r) (length (schema r).labels) claimed
  pub banned_are : AreFlags (IsBanned r) (length (schema r).labels) banned
  pub failed_are : AreFlags (HasFailed r) (length (schema r).labels) failed
