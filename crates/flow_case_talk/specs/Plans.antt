-- What is done for a command, and what came of that.
use Rattle.std.specs.Prelude.{◌≡◌, ℕ, Bool, true, false, List, [], ◌∷◌, Option, Some, None, Result, Ok, Err}
use Rattle.flow_ask.specs.declared.ask.Ask.{Ask}
use Rattle.flow_core.specs.Run.{Run}
use Rattle.flow_ask.specs.declared.made.Made.{Made}
use Rattle.flow_ask.specs.declared.refusal.Refusal.{Refusal}
use Rattle.flow_case.specs.declared.case_run.CaseRun.{CaseRun}
use Rattle.flow_case.specs.CaseRun.{run_of}
use Rattle.flow_names.specs.declared.command.Command.{Command}
use Rattle.flow_names.specs.declared.command.Command.TheVariants as command
use Rattle.flow_names.specs.declared.refusal.CommandRefusal.{CommandRefusal}
use Rattle.flow_names.specs.declared.refusal.CommandRefusal.TheVariants as unread
use Rattle.flow_names.specs.declared.refusal.NameRefusal.{NameRefusal}
use Rattle.flow_names.specs.Meaning.{TaskMeans, Means, MeansNone}
use Rattle.flow_case_talk.specs.declared.asked.Asked.{Asked}
use Rattle.flow_case_talk.specs.declared.plan.Plan.{Plan}
use Rattle.flow_case_talk.specs.declared.plan.Plan.TheVariants as plan
use Rattle.flow_case_talk.specs.declared.reply.Outcome.{Outcome}
use Rattle.flow_case_talk.specs.declared.reply.Outcome.TheVariants as outcome
use Rattle.flow_case_talk.specs.Means.{KeptCase, IsAnswered, AskedInTurn, MayStepBack, AsksFor, IsWant, NamesNothing, IsShown, IsRefusedAtOnce, is_followed, AskedThrough, AsksSome}

-- what came of an ask, by its answer
abbrev pub came : Result Made Refusal → Outcome
came (Ok made) = outcome.Made
came (Err why) = outcome.Refused

-- what came of the last that was asked; where nothing was, nothing was refused
abbrev pub came_last : Option Asked → Outcome
came_last None = outcome.Made
came_last (Some asked) = came asked.answer

-- whether it was made
abbrev pub made_last : Option Asked → Bool
made_last None = true
made_last (Some asked) = is_made asked.answer
  where
    is_made : Result Made Refusal → Bool
    is_made (Ok made) = true
    is_made (Err why) = false

-- one thing was asked, whatever the answer was
pub record WasAsked (k : KeptCase) (ask : Ask) (by : ℕ) (after : KeptCase) : Type 0 where
  pub answer : Result Made Refusal
  pub asked : IsAnswered k ask by answer after

-- the command is that a task is done
abbrev pub EndsTask : Command → Type 0
EndsTask (command.Done claim) = Unit {0}
EndsTask other = ⊥

-- the command means one ask, if any
abbrev pub MeansOne : Command → Type 0
MeansOne (command.Done claim) = Unit {0}
MeansOne (command.Fail claim) = Unit {0}
MeansOne (command.Do step) = Unit {0}
MeansOne command.Commit = Unit {0}
MeansOne other = ⊥

-- the one ask that it means
abbrev pub IsOneAsk : Run → Command → List Ask → Type 0
IsOneAsk r command asks = (ask : Ask) × Means r command (Some ask) × (asks ≡ ask ∷ [])

-- the command shows something of its own
abbrev pub IsLook : Command → Type 0
IsLook command.Todo = Unit {0}
IsLook command.History = Unit {0}
IsLook command.Undone = Unit {0}
IsLook command.Facts = Unit {0}
IsLook command.Report = Unit {0}
IsLook other = ⊥

abbrev pub IsWhyOf : CaseRun → ℕ → Command → Type 0
IsWhyOf c leaf (command.Why task) = TaskMeans (run_of c) task leaf
IsWhyOf c leaf other = ⊥

abbrev pub IsBack : CaseRun → ℕ → Command → Type 0
IsBack c by command.Rewind = ¬ (MayStepBack c by)
IsBack c by other = ⊥

abbrev pub IsTick : Command → Type 0
IsTick (command.TickOff claim) = Unit {0}
IsTick other = ⊥

-- this is to be done for the user's command
abbrev pub IsPlanOf : Bool → ℕ → CaseRun → Command → Plan → Type 0
IsPlanOf tidied by c command plan.Show = IsLook command
IsPlanOf tidied by c command (plan.Why leaf) = IsWhyOf c leaf command
IsPlanOf tidied by c command (plan.Ask asks) = AsksFor by c command asks.items × (is_followed command tidied ≡ false)
IsPlanOf tidied by c command (plan.AskAndTidy asks) = AsksFor by c command asks.items × (is_followed command tidied ≡ true)
IsPlanOf tidied by c command (plan.Refuse why) = IsBack c by command
IsPlanOf tidied by c command (plan.TickOff taken) = IsTick command

-- it means nothing now, or memory was wanting
abbrev pub IsUnmeant : Run → Command → NameRefusal → Type 0
IsUnmeant r command why = ¬ (IsWant why) → MeansNone r command why

abbrev pub IsUnplanned : CaseRun → Command → NameRefusal → Type 0
IsUnplanned c command why = ¬ (IsWant why) → NamesNothing (run_of c) command why

-- what came of it
abbrev pub PlanMeans : ℕ → KeptCase → Plan → Outcome → KeptCase → Type 0
PlanMeans by k plan.Show o after = IsShown k o after
PlanMeans by k (plan.Why leaf) o after = IsShown k o after
PlanMeans by k (plan.Ask asks) o after = AskedInTurn by k asks.items o after
PlanMeans by k (plan.AskAndTidy asks) o after = AskedThrough true by k asks.items o after
PlanMeans by k (plan.Refuse why) o after = IsRefusedAtOnce k o after
PlanMeans by k (plan.TickOff taken) o after = after.run ≡ k.run

-- what came of it where memory was wanting
abbrev pub PlanBegins : ℕ → KeptCase → Plan → KeptCase → Type 0
PlanBegins by k plan.Show after = after ≡ k
PlanBegins by k (plan.Why leaf) after = after ≡ k
PlanBegins by k (plan.Ask asks) after = AsksSome by k after
PlanBegins by k (plan.AskAndTidy asks) after = AsksSome by k after
PlanBegins by k (plan.Refuse why) after = after ≡ k
PlanBegins by k (plan.TickOff taken) after = after.run ≡ k.run

-- memory was wanting to read a line
abbrev pub IsUnreadWant : CommandRefusal → Type 0
IsUnreadWant unread.NoMemory = Unit {0}
IsUnreadWant other = ⊥
