-- The table of answers of a desk. Of each call the causes are told in the order in which they are looked for: of a take all causes of
-- the run, then role, the least constraint that keeps apart, the least that binds; of a result that the run is over, that the claim was
-- never given, that it is answered, that all steps are spent, then that another took it, then that it is late.
use Rattle.std.specs.Prelude.{◌≡◌, ℕ, Some, Result, Ok, Err}
use Rattle.flow_model.specs.declared.history.Call.{Call}
use Rattle.flow_model.specs.declared.history.FailEffect.{FailEffect}
use Rattle.flow_model.specs.Facts.{event_at}
use Rattle.flow_model.specs.Takers.{takings_of, taker_of}
use Rattle.flow_model.specs.Duties.{HasRole, IsSeparated, IsBoundElsewhere, IsLeft}
use Rattle.flow_core.specs.declared.refusal.TakeRefusal.{TakeRefusal}
use Rattle.flow_core.specs.declared.refusal.DoRefusal.{DoRefusal}
use Rattle.flow_core.specs.declared.refusal.PostRefusal.{PostRefusal}
use Rattle.flow_core.specs.declared.refusal.PostRefusal.TheVariants as post
use Rattle.flow_core.specs.declared.refusal.RewindRefusal.{RewindRefusal}
use Rattle.flow_core.specs.declared.refusal.CommitRefusal.{CommitRefusal}
use Rattle.flow_core.specs.Run.{Run, schema, now}
use Rattle.flow_core.specs.Answers.{TakeIsRefused, Takes, Performs, PostIsRefused, PostsDone, PostsFailed, Rewinds, Commits, IsLeast}
use Rattle.flow_core.specs.Holding.{IsTakeable, MayPost}
use Rattle.flow_roles.specs.declared.refusal.Denied.{Denied}
use Rattle.flow_roles.specs.declared.refusal.Denied.TheVariants.{Role, Separate, Bind, Holder}
use Rattle.flow_roles.specs.declared.refusal.DutyRefusal.{DutyRefusal}
use Rattle.flow_roles.specs.declared.refusal.DutyRefusal.TheVariants as duty
use Rattle.flow_roles.specs.Desked.{Desked}

-- by the separation of that number the event is not for the user, who has another event
abbrev pub IsKeptApart : Desked → ℕ → ℕ → ℕ → Type 0
IsKeptApart d by event i = IsSeparated (schema d.run) d.assigned.duties (now d.run) (takings_of d.run.history) by event i

-- by the binding of that number the event is for the one who has another event, and that is another user
abbrev pub IsTiedElsewhere : Desked → ℕ → ℕ → ℕ → Type 0
IsTiedElsewhere d by event i = IsBoundElsewhere (schema d.run) d.assigned.duties (now d.run) (takings_of d.run.history) by event i

-- duties leave the event to the user now
abbrev pub IsLeftTo : Desked → ℕ → ℕ → Type 0
IsLeftTo d by event = IsLeft (schema d.run) d.assigned.duties (now d.run) (takings_of d.run.history) by event

-- they leave the event of the leaf to the user
abbrev pub IsLeftAt : Desked → ℕ → ℕ → Type 0
IsLeftAt d leaf by = (event : ℕ) × (event_at (schema d.run).labels leaf ≡ Some event) × IsLeftTo d by event

-- the first duty that keeps the event from the user
abbrev pub IsDenied : Desked → ℕ → ℕ → Denied → Type 0
IsDenied d by event Role = ¬ (HasRole d.assigned.duties by event)
IsDenied d by event (Separate i) = HasRole d.assigned.duties by event × IsLeast (IsKeptApart d by event) i
IsDenied d by event (Bind i) = HasRole d.assigned.duties by event × ((j : ℕ) → ¬ (IsKeptApart d by event j)) × IsLeast (IsTiedElsewhere d by event) i
IsDenied d by event (Holder claim) = ⊥

-- the run is answered so, and the policy stays
abbrev pub WithPolicy : (Run → Type 0) → Desked → Desked → Type 0
WithPolicy Answers before after = Answers after.run × (after.assigned ≡ before.assigned)

-- a user asks for a claim on the leaf
abbrev pub DeskTakes : Desked → ℕ → ℕ → Result Call (DutyRefusal TakeRefusal) → Desked → Type 0
DeskTakes d leaf by (Err (duty.Core refusal)) after = TakeIsRefused d.run leaf refusal × (after ≡ d)
DeskTakes d leaf by (Err (duty.Denied denied)) after =
    IsTakeable d.run leaf × ((event : ℕ) × (event_at (schema d.run).labels leaf ≡ Some event) × IsDenied d by event denied) × (after ≡ d)
DeskTakes d leaf by (Ok call) after = IsLeftAt d leaf by × WithPolicy (Takes d.run leaf by (Ok call)) d after

-- the user took the claim
abbrev pub IsHolder : Desked → ℕ → ℕ → Type 0
IsHolder d claim by = taker_of d.run.history claim ≡ Some by

-- why no result is posted for the claim; of those only a late one of the holder's leaves an entry
abbrev pub DeskPostIsRefused : Desked → ℕ → ℕ → DutyRefusal PostRefusal → Desked → Type 0
DeskPostIsRefused d claim by (duty.Core post.Closed) after = WithPolicy (PostIsRefused d.run claim by post.Closed) d after
DeskPostIsRefused d claim by (duty.Core post.NoClaim) after = WithPolicy (PostIsRefused d.run claim by post.NoClaim) d after
DeskPostIsRefused d claim by (duty.Core post.Answered) after = WithPolicy (PostIsRefused d.run claim by post.Answered) d after
DeskPostIsRefused d claim by (duty.Core (post.Spent limit)) after = WithPolicy (PostIsRefused d.run claim by (post.Spent limit)) d after
DeskPostIsRefused d claim by (duty.Denied (Holder number)) after = (number ≡ claim) × MayPost d.run claim × ¬ (IsHolder d claim by) × (after ≡ d)
DeskPostIsRefused d claim by (duty.Core (post.Late of at)) after = IsHolder d claim by × WithPolicy (PostIsRefused d.run claim by (post.Late of at)) d after
DeskPostIsRefused d claim by (duty.Denied Role) after = ⊥
DeskPostIsRefused d claim by (duty.Denied (Separate i)) after = ⊥
DeskPostIsRefused d claim by (duty.Denied (Bind i)) after = ⊥

-- a user posts that the claim's task succeeded
abbrev pub DeskPostsDone : Desked → ℕ → ℕ → Result (Unit {0}) (DutyRefusal PostRefusal) → Desked → Type 0
DeskPostsDone d claim by (Err refusal) after = DeskPostIsRefused d claim by refusal after
DeskPostsDone d claim by (Ok x) after = IsHolder d claim by × WithPolicy (PostsDone d.run claim by (Ok x)) d after

-- a user posts that it failed
abbrev pub DeskPostsFailed : Desked → ℕ → ℕ → Result FailEffect (DutyRefusal PostRefusal) → Desked → Type 0
DeskPostsFailed d claim by (Err refusal) after = DeskPostIsRefused d claim by refusal after
DeskPostsFailed d claim by (Ok effect) after = IsHolder d claim by × WithPolicy (PostsFailed d.run claim by (Ok effect)) d after

-- what anyone may do, as the run answers it
abbrev pub DeskPerforms : Desked → ℕ → ℕ → Result (Unit {0}) DoRefusal → Desked → Type 0
DeskPerforms d leaf by answer after = WithPolicy (Performs d.run leaf by answer) d after

abbrev pub DeskRewinds : Desked → ℕ → Result ℕ RewindRefusal → Desked → Type 0
DeskRewinds d by answer after = WithPolicy (Rewinds d.run by answer) d after

abbrev pub DeskCommits : Desked → ℕ → Result (Unit {0}) CommitRefusal → Desked → Type 0
DeskCommits d by answer after = WithPolicy (Commits d.run by answer) d after
