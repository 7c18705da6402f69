-- Each ask of a run has one answer, and leaves one run; and a run does one thing next.
use Rattle.std.specs.Prelude.{◌≡◌, ℕ}
use Rattle.flow_ask.specs.declared.ask.Ask.{Ask}
use Rattle.flow_core.specs.declared.next.Next.{Next}
use Rattle.flow_core.specs.Run.{Run}
use Rattle.flow_core.specs.Answers.{Takes, Performs, PostsDone, PostsFailed, Rewinds, Commits}
use Rattle.flow_core.specs.Ask.{Answers}
use Rattle.flow_core.specs.Next.{IsNext}

-- two answers are the same, and so are the runs that they leave
abbrev pub IsSingle : {A : Type 0} → (A → Run → Type 0) → Type 0
IsSingle {A} Answers = (a b : A) (after other : Run) → Answers a after → Answers b other → (a ≡ b) × (after ≡ other)

abbrev pub TakesAreSingle : Type 0
TakesAreSingle = (r : Run) (leaf by : ℕ) → IsSingle (Takes r leaf by)

abbrev pub PerformsAreSingle : Type 0
PerformsAreSingle = (r : Run) (leaf by : ℕ) → IsSingle (Performs r leaf by)

abbrev pub PostsAreSingle : Type 0
PostsAreSingle = (r : Run) (claim by : ℕ) → IsSingle (PostsDone r claim by) × IsSingle (PostsFailed r claim by)

abbrev pub RewindsAreSingle : Type 0
RewindsAreSingle = (r : Run) (by : ℕ) → IsSingle (Rewinds r by)

abbrev pub CommitsAreSingle : Type 0
CommitsAreSingle = (r : Run) (by : ℕ) → IsSingle (Commits r by)

abbrev pub AnswersAreSingle : Type 0
AnswersAreSingle = (r : Run) (ask : Ask) (by : ℕ) → IsSingle (Answers r ask by)

abbrev pub NextsAreSingle : Type 0
NextsAreSingle = (r : Run) (a b : Next) → IsNext r a → IsNext r b → a ≡ b
