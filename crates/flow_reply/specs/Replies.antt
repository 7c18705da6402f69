-- What is replied to commands, and what comes of them. Whatever is asked says which run it is of, what it answers to an ask, and when
-- it is the same for its callers.
use Rattle.std.specs.Prelude.{◌≡◌, ◌⊎◌, ℕ, List, [], ◌∷◌, ◌++◌, Result, codes}
use Rattle.flow_ask.specs.declared.ask.Ask.{Ask as Asking}
use Rattle.flow_ask.specs.declared.made.Made.{Made}
use Rattle.flow_ask.specs.declared.refusal.Refusal.{Refusal}
use Rattle.flow_core.specs.Run.{Run}
use Rattle.flow_core.specs.Ask.{Answers}
use Rattle.flow_record.specs.declared.command.Command.{Command}
use Rattle.flow_record.specs.declared.command.Command.TheVariants.{Ask, Look}
use Rattle.flow_reply.specs.Answer.{answer_text}
use Rattle.flow_reply.specs.Look.{IsShown}

-- the caller's command is replied to by this line, and it is this afterwards
abbrev pub Replies : {S : Type 0} → (S → Run) → (S → Asking → ℕ → Result Made Refusal → S → Type 0) → (S → S → Type 0) →
    ℕ → S → Command → List ℕ → S → Type 0
Replies run answers same by before (Ask ask) line after =
    (answer : Result Made Refusal) × answers before ask by answer after × (line ≡ answer_text (run after) ask answer ++ codes "\n")
Replies run answers same by before (Look look) line after =
    same before after × ((text : List ℕ) × IsShown (run after) look text × (line ≡ text ++ codes "\n"))

-- the caller's command was given, whatever was told of it, and it is this afterwards
abbrev pub Given : {S : Type 0} → (S → Asking → ℕ → Result Made Refusal → S → Type 0) → (S → S → Type 0) → ℕ → S → Command → S → Type 0
Given answers same by before (Ask ask) after = (answer : Result Made Refusal) × answers before ask by answer after
Given answers same by before (Look look) after = same before after

-- one command after another is replied to, by these lines, and it is this afterwards
abbrev pub Goes : {S C : Type 0} → (S → C → List ℕ → S → Type 0) → S → List C → List ℕ → S → Type 0
Goes Reply before [] text after = (text ≡ []) × (after ≡ before)
Goes {S} Reply before (command ∷ commands) text after =
    (next : S) × ((line : List ℕ) × ((rest : List ℕ) ×
    Reply before command line next × Goes Reply next commands rest after × (text ≡ line ++ rest)))

-- the first of the commands, none or some or all of them, were given, and no other, and it is this afterwards
abbrev pub GoesPart : {S C : Type 0} → (S → C → S → Type 0) → S → List C → S → Type 0
GoesPart Give before [] after = after ≡ before
GoesPart {S} Give before (command ∷ commands) after =
    (after ≡ before) ⊎ ((next : S) × Give before command next × GoesPart Give next commands after)

-- ---- of a run itself

abbrev pub IsSame : Run → Run → Type 0
IsSame one other = other ≡ one

-- the run replies to the caller's command by this line, and is this afterwards
abbrev pub RepliesTo : Run → ℕ → Command → List ℕ → Run → Type 0
RepliesTo r by command line after = Replies (λ run. run) Answers IsSame by r command line after

-- the run replies to the caller's commands, one after another, by these lines, and is this afterwards
abbrev pub Drives : Run → ℕ → List Command → List ℕ → Run → Type 0
Drives r by commands text after = Goes (Replies (λ run. run) Answers IsSame by) r commands text after

-- the first of the caller's commands, none or some or all of them, were given to the run, and no other, and the run is this afterwards
abbrev pub IsFrontGiven : Run → ℕ → List Command → Run → Type 0
IsFrontGiven r by commands after = GoesPart (Given Answers IsSame by) r commands after
