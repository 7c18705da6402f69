-- What a run answers to an ask, and to a list of asks, one after another.
use Rattle.std.specs.Prelude.{◌≡◌, ◌⊎◌, ℕ, List, [], ◌∷◌, Result, Ok, Err}
use Rattle.flow_model.specs.declared.history.Step.{Step}
use Rattle.flow_model.specs.declared.history.Step.TheVariants as step
use Rattle.flow_ask.specs.declared.ask.Ask.{Ask}
use Rattle.flow_ask.specs.declared.ask.Ask.TheVariants as ask
use Rattle.flow_ask.specs.declared.made.Made.{Made}
use Rattle.flow_ask.specs.declared.made.Made.TheVariants as made
use Rattle.flow_core.specs.declared.ask.Told.{Told}
use Rattle.flow_core.specs.declared.ask.Told.TheVariants as told
use Rattle.flow_ask.specs.declared.refusal.Refusal.{Refusal}
use Rattle.flow_ask.specs.declared.refusal.Refusal.TheVariants.{Closed, NoLeaf, WrongKind, NotEnabled, TestFalse, NoClaim, Answered, Late, NoChoice, Unfinished, ClaimsOut, Spent}
use Rattle.flow_ask.specs.Refusal.{number_of}
use Rattle.flow_core.specs.declared.refusal.TakeRefusal.{TakeRefusal}
use Rattle.flow_core.specs.declared.refusal.TakeRefusal.TheVariants as take
use Rattle.flow_core.specs.declared.refusal.DoRefusal.{DoRefusal}
use Rattle.flow_core.specs.declared.refusal.DoRefusal.TheVariants as perform
use Rattle.flow_core.specs.declared.refusal.PostRefusal.{PostRefusal}
use Rattle.flow_core.specs.declared.refusal.PostRefusal.TheVariants as post
use Rattle.flow_core.specs.declared.refusal.RewindRefusal.{RewindRefusal}
use Rattle.flow_core.specs.declared.refusal.RewindRefusal.TheVariants as rewind
use Rattle.flow_core.specs.declared.refusal.CommitRefusal.{CommitRefusal}
use Rattle.flow_core.specs.declared.refusal.CommitRefusal.TheVariants as commit
use Rattle.flow_core.specs.Run.{Run, with_entry}
use Rattle.flow_core.specs.Answers.{Takes, Performs, PostsDone, PostsFailed, Rewinds, Commits}

-- the refusals of each call, as refusals of an ask

abbrev pub of_take : TakeRefusal → Refusal
of_take take.Closed = Closed
of_take take.NoLeaf = NoLeaf
of_take take.WrongKind = WrongKind
of_take (take.Spent limit) = Spent limit
of_take take.NotEnabled = NotEnabled

abbrev pub of_do : DoRefusal → Refusal
of_do perform.Closed = Closed
of_do perform.NoLeaf = NoLeaf
of_do perform.WrongKind = WrongKind
of_do (perform.Spent limit) = Spent limit
of_do perform.NotEnabled = NotEnabled
of_do perform.TestFalse = TestFalse

abbrev pub of_post : PostRefusal → Refusal
of_post post.Closed = Closed
of_post post.NoClaim = NoClaim
of_post post.Answered = Answered
of_post (post.Spent limit) = Spent limit
of_post (post.Late of now) = Late of now

abbrev pub of_rewind : RewindRefusal → Refusal
of_rewind rewind.Closed = Closed
of_rewind (rewind.Spent limit) = Spent limit
of_rewind rewind.NoChoice = NoChoice

abbrev pub of_commit : CommitRefusal → Refusal
of_commit commit.Closed = Closed
of_commit (commit.Spent limit) = Spent limit
of_commit (commit.ClaimsOut claim) = ClaimsOut claim
of_commit commit.Unfinished = Unfinished

-- by the table of a call, the answer is what it made, or why it made nothing
abbrev pub AnswersBy : {S A R : Type 0} → (Result A R → S → Type 0) → (A → Made) → (R → Refusal) → Result Made Refusal → S → Type 0
AnswersBy {S} {A} {R} Table made_of refusal_of (Ok made) after = (came : A) × Table (Ok came) after × (made ≡ made_of came)
AnswersBy {S} {A} {R} Table made_of refusal_of (Err refusal) after = (why : R) × Table (Err why) after × (refusal ≡ refusal_of why)

-- the run answers the caller's ask so, and is this afterwards
abbrev pub Answers : Run → Ask → ℕ → Result Made Refusal → Run → Type 0
Answers r (ask.Take leaf) by = AnswersBy (Takes r leaf by) made.Claim of_take
Answers r (ask.Do leaf) by = AnswersBy (Performs r leaf by) (λ _. made.Did) of_do
Answers r (ask.Done claim) by = AnswersBy (PostsDone r claim by) (λ _. made.Done) of_post
Answers r (ask.Fail claim) by = AnswersBy (PostsFailed r claim by) made.Failed of_post
Answers r ask.Rewind by = AnswersBy (Rewinds r by) made.Rewound of_rewind
Answers r ask.Commit by = AnswersBy (Commits r by) (λ _. made.Committed) of_commit

-- the entry is one that comes of the ask
abbrev pub ComesOf : Ask → Step → Type 0
ComesOf (ask.Take leaf) (step.Took claim n) = n ≡ leaf
ComesOf (ask.Do leaf) (step.Did n) = n ≡ leaf
ComesOf (ask.Done claim) (step.Done n) = n ≡ claim
ComesOf (ask.Done claim) (step.Late n) = n ≡ claim
ComesOf (ask.Fail claim) (step.Failed n effect) = n ≡ claim
ComesOf (ask.Fail claim) (step.Late n) = n ≡ claim
ComesOf ask.Rewind (step.Rewound index) = Unit {0}
ComesOf ask.Commit step.Committed = Unit {0}
ComesOf other step = ⊥

-- the run has one entry more, of that caller, which comes of the ask
abbrev pub HasOneMore : Run → Ask → ℕ → Run → Type 0
HasOneMore r ask by after = (step : Step) × ComesOf ask step × (after ≡ with_entry r by step)

-- the run stays, or has one entry more
abbrev pub GrowsAtMost : Run → Ask → ℕ → Run → Type 0
GrowsAtMost r ask by after = (after ≡ r) ⊎ HasOneMore r ask by after

-- an answer, with the number of a refusal
abbrev pub told_of : Result Made Refusal → Told
told_of (Ok (made.Claim call)) = told.Call call
told_of (Ok made.Did) = told.Did
told_of (Ok made.Done) = told.Posted
told_of (Ok (made.Failed effect)) = told.Failed effect
told_of (Ok (made.Rewound index)) = told.Rewound index
told_of (Ok made.Committed) = told.Committed
told_of (Err (Late of now)) = told.Late of now
told_of (Err refusal) = told.Refused (number_of refusal)

-- what is told of an ask, and the run afterwards
abbrev pub IsTold : Run → Ask → ℕ → Told → Run → Type 0
IsTold r ask by told after = (answer : Result Made Refusal) × Answers r ask by answer after × (told ≡ told_of answer)

-- each ask is answered in turn, as the asks before it leave the run
abbrev pub IsPlayed : Run → ℕ → List Ask → List Told → Run → Type 0
IsPlayed r by [] [] after = after ≡ r
IsPlayed r by [] (told ∷ tolds) after = ⊥
IsPlayed r by (ask ∷ asks) [] after = ⊥
IsPlayed r by (ask ∷ asks) (told ∷ tolds) after = (next : Run) × IsTold r ask by told next × IsPlayed next by asks tolds after
