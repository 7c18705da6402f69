-- The table of answers: what a run answers, and what it is afterwards. Of each call the causes are told in the order in which
-- they are looked for, so each run has one answer to it.
use Rattle.std.specs.Prelude.{◌≡◌, ◌<◌, ◌≤◌, ◌+◌, ℕ, true, false, IsTrue, IsSomeAnd, None, List, [], length, Result, Ok, Err}
use Rattle.flow_model.specs.declared.history.Call.{Call}
use Rattle.flow_model.specs.declared.history.FailEffect.{FailEffect}
use Rattle.flow_model.specs.declared.history.FailEffect.TheVariants.{Switched, Kept}
use Rattle.flow_model.specs.declared.history.Step.TheVariants.{Took, Done, Failed, Late, Did, Rewound, Committed}
use Rattle.flow_model.specs.Lists.{◌∈◌}
use Rattle.flow_model.specs.Facts.{HoldsAt}
use Rattle.flow_model.specs.Schema.{IsEventLeaf, IsOtherLeaf, IsGood}
use Rattle.flow_model.specs.Run.{Claim, RunState, claim_at, current_claims, database, leaf_of_claim, IsCurrent, IsFree, IsOpen, IsOpenIndex, CanTake, CanDoAside}
use Rattle.flow_model.specs.Verdict.{call_of}
use Rattle.flow_residual.specs.Remaining.{IsAvoidable}
pub use Rattle.flow_residual.specs.Claimed.{IsUnanswered}
use Rattle.flow_core.specs.declared.refusal.TakeRefusal.{TakeRefusal}
use Rattle.flow_core.specs.declared.refusal.TakeRefusal.TheVariants as take
use Rattle.flow_core.specs.declared.refusal.DoRefusal.{DoRefusal}
use Rattle.flow_core.specs.declared.refusal.DoRefusal.TheVariants as perform
use Rattle.flow_core.specs.declared.refusal.PostRefusal.{PostRefusal}
use Rattle.flow_core.specs.declared.refusal.PostRefusal.TheVariants as post
use Rattle.flow_core.specs.declared.refusal.RewindRefusal.{RewindRefusal}
use Rattle.flow_core.specs.declared.refusal.RewindRefusal.TheVariants as rewind
use Rattle.flow_core.specs.declared.refusal.CommitRefusal.{CommitRefusal}
use Rattle.flow_core.specs.declared.refusal.CommitRefusal.TheVariants as commit
use Rattle.flow_core.specs.Run.{Run, schema, now, with_entry, IsUncommitted, HasEntryLeft}

-- the run is over
abbrev pub IsOver : Run → Type 0
IsOver r = (now r).committed ≡ true

-- all steps are spent
abbrev pub IsSpent : Run → ℕ → Type 0
IsSpent r limit = ¬ (HasEntryLeft r) × (limit ≡ r.limit)

-- the number of the next claim
abbrev pub next_claim : Run → ℕ
next_claim r = length (now r).claims + 1

-- why no claim is given on the leaf
abbrev pub TakeIsRefused : Run → ℕ → TakeRefusal → Type 0
TakeIsRefused r leaf take.Closed = IsOver r
TakeIsRefused r leaf take.NoLeaf = IsUncommitted r × (length (schema r).labels ≤ leaf)
TakeIsRefused r leaf take.WrongKind = IsUncommitted r × IsOtherLeaf (schema r) leaf
TakeIsRefused r leaf (take.Spent limit) = IsUncommitted r × IsEventLeaf (schema r) leaf × IsSpent r limit
TakeIsRefused r leaf take.NotEnabled = IsUncommitted r × IsEventLeaf (schema r) leaf × HasEntryLeft r × ¬ (CanTake (schema r) (now r) leaf)

-- a claim on the leaf is asked for
abbrev pub Takes : Run → ℕ → ℕ → Result Call TakeRefusal → Run → Type 0
Takes r leaf by (Err refusal) after = TakeIsRefused r leaf refusal × (after ≡ r)
Takes r leaf by (Ok call) after =
    IsUncommitted r × HasEntryLeft r × CanTake (schema r) (now r) leaf × (after ≡ with_entry r by (Took (next_claim r) leaf))
    × (call ≡ call_of (schema r) (now after) (next_claim r))

-- the leaf of a test, an absence, an insertion or a deletion is to be done
abbrev pub Performs : Run → ℕ → ℕ → Result (Unit {0}) DoRefusal → Run → Type 0
Performs r leaf by (Err perform.Closed) after = IsOver r × (after ≡ r)
Performs r leaf by (Err perform.NoLeaf) after = IsUncommitted r × (length (schema r).labels ≤ leaf) × (after ≡ r)
Performs r leaf by (Err perform.WrongKind) after = IsUncommitted r × IsEventLeaf (schema r) leaf × (after ≡ r)
Performs r leaf by (Err (perform.Spent limit)) after = IsUncommitted r × IsOtherLeaf (schema r) leaf × IsSpent r limit × (after ≡ r)
Performs r leaf by (Err perform.NotEnabled) after =
    IsUncommitted r × IsOtherLeaf (schema r) leaf × HasEntryLeft r × ¬ (CanDoAside (schema r) (now r) leaf) × (after ≡ r)
Performs r leaf by (Err perform.TestFalse) after =
    IsUncommitted r × HasEntryLeft r × CanDoAside (schema r) (now r) leaf × ¬ (HoldsAt (schema r).labels (database (schema r) (now r)) leaf) × (after ≡ r)
Performs r leaf by (Ok _) after =
    IsUncommitted r × HasEntryLeft r × CanDoAside (schema r) (now r) leaf × HoldsAt (schema r).labels (database (schema r) (now r)) leaf
    × (after ≡ with_entry r by (Did leaf))

-- the claim was given and is answered
abbrev pub IsAnswered : RunState → ℕ → Type 0
IsAnswered s number = IsSomeAnd (claim_at s number) (λ (claim : Claim). IsTrue claim.answered)

-- the claim is unanswered, and of that older epoch
abbrev pub IsLateOf : RunState → ℕ → ℕ → Type 0
IsLateOf s number of = (of < s.epoch) × IsSomeAnd (claim_at s number) (λ (claim : Claim). (claim.answered ≡ false) × (claim.epoch ≡ of))

-- why no result is posted for the claim; one that comes too late is told, and counts for nothing
abbrev pub PostIsRefused : Run → ℕ → ℕ → PostRefusal → Run → Type 0
PostIsRefused r claim by post.Closed after = IsOver r × (after ≡ r)
PostIsRefused r claim by post.NoClaim after = IsUncommitted r × (claim_at (now r) claim ≡ None) × (after ≡ r)
PostIsRefused r claim by post.Answered after = IsUncommitted r × IsAnswered (now r) claim × (after ≡ r)
PostIsRefused r claim by (post.Spent limit) after = IsUncommitted r × IsUnanswered (now r) claim × IsSpent r limit × (after ≡ r)
PostIsRefused r claim by (post.Late of at) after =
    IsUncommitted r × HasEntryLeft r × IsLateOf (now r) claim of × (at ≡ (now r).epoch) × (after ≡ with_entry r by (Late claim))

-- the claim's task succeeded
abbrev pub PostsDone : Run → ℕ → ℕ → Result (Unit {0}) PostRefusal → Run → Type 0
PostsDone r claim by (Err refusal) after = PostIsRefused r claim by refusal after
PostsDone r claim by (Ok _) after = IsUncommitted r × HasEntryLeft r × IsCurrent (now r) claim × (after ≡ with_entry r by (Done claim))

-- some execution goes on from the journal without the claim's leaf, or none does
abbrev pub HasEffect : Run → ℕ → FailEffect → Type 0
HasEffect r claim Switched = IsAvoidable (schema r) (now r) (leaf_of_claim (now r) claim)
HasEffect r claim Kept = (t : List ℕ) → IsFree (schema r) (now r) t → leaf_of_claim (now r) claim ∈ t

-- the claim's task failed
abbrev pub PostsFailed : Run → ℕ → ℕ → Result FailEffect PostRefusal → Run → Type 0
PostsFailed r claim by (Err refusal) after = PostIsRefused r claim by refusal after
PostsFailed r claim by (Ok effect) after =
    IsUncommitted r × HasEntryLeft r × IsCurrent (now r) claim × HasEffect r claim effect × (after ≡ with_entry r by (Failed claim effect))

-- the run is to go back to the last place at which another choice is still free
abbrev pub Rewinds : Run → ℕ → Result ℕ RewindRefusal → Run → Type 0
Rewinds r by (Err rewind.Closed) after = IsOver r × (after ≡ r)
Rewinds r by (Err (rewind.Spent limit)) after = IsUncommitted r × IsSpent r limit × (after ≡ r)
Rewinds r by (Err rewind.NoChoice) after = IsUncommitted r × HasEntryLeft r × ((i : ℕ) → ¬ (IsOpen (schema r) (now r) i)) × (after ≡ r)
Rewinds r by (Ok index) after = IsUncommitted r × HasEntryLeft r × IsOpenIndex (schema r) (now r) index × (after ≡ with_entry r by (Rewound index))

-- it has P, and no lesser number has
abbrev pub IsLeast : (ℕ → Type 0) → ℕ → Type 0
IsLeast P n = P n × ((other : ℕ) → P other → n ≤ other)

-- the run is to end
abbrev pub Commits : Run → ℕ → Result (Unit {0}) CommitRefusal → Run → Type 0
Commits r by (Err commit.Closed) after = IsOver r × (after ≡ r)
Commits r by (Err (commit.Spent limit)) after = IsUncommitted r × IsSpent r limit × (after ≡ r)
Commits r by (Err (commit.ClaimsOut claim)) after = IsUncommitted r × HasEntryLeft r × IsLeast (IsCurrent (now r)) claim × (after ≡ r)
Commits r by (Err commit.Unfinished) after =
    IsUncommitted r × HasEntryLeft r × (current_claims (now r) ≡ []) × ¬ (IsGood (schema r) (now r).journal) × (after ≡ r)
Commits r by (Ok _) after =
    IsUncommitted r × HasEntryLeft r × (current_claims (now r) ≡ []) × IsGood (schema r) (now r).journal × (after ≡ with_entry r by Committed)
