-- Each ask at a desk has one answer, and leaves one run under the same policy.
use Rattle.std.specs.Prelude.{◌≡◌, ℕ}
use Rattle.flow_ask.specs.declared.ask.Ask.{Ask}
use Rattle.flow_roles.specs.Desked.{Desked}
use Rattle.flow_roles.specs.Ask.{DeskAnswers}
use Rattle.flow_roles.specs.Answers.{DeskTakes, DeskPostsDone, DeskPostsFailed, DeskPerforms, DeskRewinds, DeskCommits}

-- two answers are the same, and so are the desks that they leave
abbrev pub IsSingleAtDesk : {A : Type 0} → (A → Desked → Type 0) → Type 0
IsSingleAtDesk {A} Answers = (a b : A) (after other : Desked) → Answers a after → Answers b other → (a ≡ b) × (after ≡ other)

abbrev pub DeskTakesAreSingle : Type 0
DeskTakesAreSingle = (d : Desked) (leaf by : ℕ) → IsSingleAtDesk (DeskTakes d leaf by)

abbrev pub DeskPostsAreSingle : Type 0
DeskPostsAreSingle = (d : Desked) (claim by : ℕ) → IsSingleAtDesk (DeskPostsDone d claim by) × IsSingleAtDesk (DeskPostsFailed d claim by)

abbrev pub DeskOthersAreSingle : Type 0
DeskOthersAreSingle = (d : Desked) (leaf by : ℕ) → IsSingleAtDesk (DeskPerforms d leaf by) × IsSingleAtDesk (DeskRewinds d by) × IsSingleAtDesk (DeskCommits d by)

abbrev pub DeskAnswersAreSingle : Type 0
DeskAnswersAreSingle = (d : Desked) (ask : Ask) (by : ℕ) → IsSingleAtDesk (DeskAnswers d ask by)
