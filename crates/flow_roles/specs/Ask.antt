-- What a desk answers to an ask, and which entries it makes.
use Rattle.std.specs.Prelude.{◌≡◌, ℕ, List, ◌++◌, take, slice_get, Some, Result}
use Rattle.flow_model.specs.declared.history.Entry.{Entry}
use Rattle.flow_model.specs.declared.history.Step.{Step}
use Rattle.flow_model.specs.declared.history.Step.TheVariants.{Took}
use Rattle.flow_ask.specs.declared.ask.Ask.{Ask}
use Rattle.flow_ask.specs.declared.ask.Ask.TheVariants as ask
use Rattle.flow_ask.specs.declared.made.Made.{Made}
use Rattle.flow_ask.specs.declared.made.Made.TheVariants as made
use Rattle.flow_ask.specs.declared.refusal.Refusal.{Refusal}
use Rattle.flow_ask.specs.declared.refusal.Refusal.TheVariants as refusal
use Rattle.flow_core.specs.Ask.{AnswersBy, of_take, of_do, of_post, of_rewind, of_commit}
use Rattle.flow_core.specs.Make.{CanMake}
use Rattle.flow_roles.specs.declared.refusal.Denied.{Denied}
use Rattle.flow_roles.specs.declared.refusal.Denied.TheVariants as denied
use Rattle.flow_roles.specs.declared.refusal.DutyRefusal.{DutyRefusal}
use Rattle.flow_roles.specs.declared.refusal.DutyRefusal.TheVariants as duty
use Rattle.flow_roles.specs.Desked.{Desked}
use Rattle.flow_roles.specs.Answers.{IsLeftAt, DeskTakes, DeskPerforms, DeskPostsDone, DeskPostsFailed, DeskRewinds, DeskCommits}

-- a duty, as the refusal of an ask
abbrev pub of_denied : Denied → Refusal
of_denied denied.Role = refusal.Role
of_denied (denied.Separate index) = refusal.Separate index
of_denied (denied.Bind index) = refusal.Bind index
of_denied (denied.Holder claim) = refusal.Holder

-- what the run says against it, or a duty
abbrev pub of_duty : {R : Type 0} → (R → Refusal) → DutyRefusal R → Refusal
of_duty of_run (duty.Core why) = of_run why
of_duty of_run (duty.Denied denied) = of_denied denied

-- the desk answers the user's ask so, and is this afterwards
abbrev pub DeskAnswers : Desked → Ask → ℕ → Result Made Refusal → Desked → Type 0
DeskAnswers d (ask.Take leaf) by = AnswersBy (DeskTakes d leaf by) made.Claim (of_duty of_take)
DeskAnswers d (ask.Do leaf) by = AnswersBy (DeskPerforms d leaf by) (λ _. made.Did) of_do
DeskAnswers d (ask.Done claim) by = AnswersBy (DeskPostsDone d claim by) (λ _. made.Done) (of_duty of_post)
DeskAnswers d (ask.Fail claim) by = AnswersBy (DeskPostsFailed d claim by) made.Failed (of_duty of_post)
DeskAnswers d ask.Rewind by = AnswersBy (DeskRewinds d by) made.Rewound of_rewind
DeskAnswers d ask.Commit by = AnswersBy (DeskCommits d by) (λ _. made.Committed) of_commit

-- duties leave the entry to the user: they do, where it gives no claim
abbrev pub IsLeftFor : Desked → ℕ → Step → Type 0
IsLeftFor d by (Took claim leaf) = IsLeftAt d leaf by
IsLeftFor d by other = Unit {0}

-- the entry may be made next, and duties leave it to its caller
abbrev pub CanMakeAt : Desked → Entry → Type 0
CanMakeAt d entry = IsLeftFor d entry.by entry.step × CanMake d.run entry.step

-- the desk with further entries
abbrev pub with_entries : Desked → List Entry → Desked
with_entries d entries = record d { run = record d.run { history = d.run.history ++ entries } }

-- the entry at the place is the first that may not be made after those before it
abbrev pub IsFirstUnmade : Desked → List Entry → ℕ → Type 0
IsFirstUnmade d entries index =
    (entry : Entry) × (slice_get entries index ≡ Some entry) × ¬ (CanMakeAt (with_entries d (take index entries)) entry)
