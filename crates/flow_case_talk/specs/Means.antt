-- What a line means in a case: what is asked of the case, by whom and up to where, and what came of it.
use Rattle.std.specs.Prelude.{◌≡◌, ◌⊎◌, ℕ, Bool, true, false, List, [], ◌∷◌, ◌++◌, map, Some, Result, Ok, Err}
use Rattle.flow_ask.specs.declared.ask.Ask.{Ask}
use Rattle.flow_ask.specs.declared.ask.Ask.TheVariants.{Take, Do, Rewind}
use Rattle.flow_ask.specs.declared.made.Made.{Made}
use Rattle.flow_ask.specs.declared.refusal.Refusal.{Refusal}
use Rattle.flow_case.specs.declared.case_run.CaseRun.{CaseRun}
use Rattle.flow_case.specs.declared.case_run.CaseRun.TheVariants.{Free, UnderPolicy}
use Rattle.flow_case.specs.Rules.{IsMarked}
use Rattle.flow_case.specs.CaseRun.{run_of, CaseAnswers}
use Rattle.flow_keep.specs.Answered.{KeepAnswers}
use Rattle.flow_core.specs.Run.{Run}
use Rattle.flow_names.specs.declared.command.Command.{Command}
use Rattle.flow_names.specs.declared.command.Command.TheVariants as command
use Rattle.flow_names.specs.declared.refusal.CommandRefusal.{CommandRefusal}
use Rattle.flow_names.specs.declared.refusal.NameRefusal.{NameRefusal}
use Rattle.flow_names.specs.declared.refusal.NameRefusal.TheVariants.{NoMemory}
use Rattle.flow_names.specs.Meaning.{TaskMeans, TaskMeansNone, Means, MeansNone}
use Rattle.flow_names.specs.Steps.{LeadTo}
use Rattle.flow_names.specs.Tidy.{Tidies}
use Rattle.flow_case_talk.specs.declared.reply.Outcome.{Outcome}
use Rattle.flow_case_talk.specs.declared.reply.Outcome.TheVariants as outcome

-- a case that is kept: its run, and whether a step of it could not be kept
pub record KeptCase : Type 0 where
  pub run : CaseRun
  pub is_broken : Bool

-- Asks

-- the case answers the user's ask so, and is this afterwards
pub record IsAnswered (k : KeptCase) (ask : Ask) (by : ℕ) (answer : Result Made Refusal) (after : KeptCase) : Type 0 where
  pub is : KeepAnswers run_of CaseAnswers k.is_broken k.run ask by answer after.is_broken after.run

-- each is made, one after another
abbrev pub AreMade : ℕ → KeptCase → List Ask → KeptCase → Type 0
AreMade by k [] after = after ≡ k
AreMade by k (ask ∷ asks) after = (made : Made) × (next : KeptCase) × IsAnswered k ask by (Ok made) next × AreMade by next asks after

-- those before one are made, this one is refused, and none behind it is asked
pub record IsRefusedAmong (by : ℕ) (k : KeptCase) (asks : List Ask) (after : KeptCase) : Type 0 where
  pub before : List Ask
  pub ask : Ask
  pub behind : List Ask
  pub in_order : asks ≡ before ++ ask ∷ behind
  pub mid : KeptCase
  pub made : AreMade by k before mid
  pub why : Refusal
  pub refused : IsAnswered mid ask by (Err why) after

-- the user asks them one after another, up to the first that is refused
abbrev pub AskedInTurn : ℕ → KeptCase → List Ask → Outcome → KeptCase → Type 0
AskedInTurn by k asks outcome.Made after = AreMade by k asks after
AskedInTurn by k asks outcome.Refused after = IsRefusedAmong by k asks after
AskedInTurn by k asks outcome.Shown after = ⊥

-- What a command asks for

-- the tests and updates that are to be done before a claim on the leaf is given
pub record AreStepsTo (by : ℕ) (c : CaseRun) (leaf : ℕ) (steps : List ℕ) : Type 0 where
  pub scout : CaseRun
  pub lead : LeadTo run_of CaseAnswers (run_of c) by leaf steps scout

-- the updates that close off no choice
pub record AreTidySteps (by : ℕ) (c : CaseRun) (leaves : List ℕ) : Type 0 where
  pub scout : CaseRun
  pub tidy : Tidies run_of CaseAnswers (run_of c) by leaves scout

-- the user may step back: anybody may where there is no policy
abbrev pub MayStepBack : CaseRun → ℕ → Type 0
MayStepBack (Free r) by = Unit {0}
MayStepBack (UnderPolicy c) by = IsMarked c.rules.back by

-- The command asks for these: steps, and then the claim; updates; a step back of a user who may step back; else the one ask that it means.
abbrev pub AsksFor : ℕ → CaseRun → Command → List Ask → Type 0
AsksFor by c (command.Take task) asks =
    (leaf : ℕ) × (steps : List ℕ) × TaskMeans (run_of c) task leaf × AreStepsTo by c leaf steps × (asks ≡ map Do steps ++ Take leaf ∷ [])
AsksFor by c command.Tidy asks = (leaves : List ℕ) × AreTidySteps by c leaves × (asks ≡ map Do leaves)
AsksFor by c command.Rewind asks = MayStepBack c by × (asks ≡ Rewind ∷ [])
AsksFor by c other asks = (ask : Ask) × Means (run_of c) other (Some ask) × (asks ≡ ask ∷ [])

-- want of memory, of which nothing is said
abbrev pub IsWant : NameRefusal → Type 0
IsWant NoMemory = Unit {0}
IsWant other = ⊥

-- why the names of a command mean nothing now
abbrev pub NamesNothing : Run → Command → NameRefusal → Type 0
NamesNothing r (command.Why task) why = TaskMeansNone r task why
NamesNothing r other why = MeansNone r other why

-- it asks for nothing: its user may not step back, or its names mean nothing now
abbrev pub AsksForNothing : ℕ → CaseRun → Command → Type 0
AsksForNothing by c command.Rewind = ¬ (MayStepBack c by)
AsksForNothing by c other = (why : NameRefusal) × NamesNothing (run_of c) other why × ¬ (IsWant why)

-- What a line means

abbrev pub IsShown : KeptCase → Outcome → KeptCase → Type 0
IsShown k came after = (came ≡ outcome.Shown) × (after ≡ k)

abbrev pub IsRefusedAtOnce : KeptCase → Outcome → KeptCase → Type 0
IsRefusedAtOnce k came after = (came ≡ outcome.Refused) × (after ≡ k)

-- In a case that is tidied, the updates that close off no choice follow what is done.
abbrev pub is_followed : Command → Bool → Bool
is_followed (command.Done claim) tidied = tidied
is_followed other tidied = false

-- the updates that close off no choice are asked in turn
pub record IsTidied (by : ℕ) (k : KeptCase) (came : Outcome) (after : KeptCase) : Type 0 where
  pub leaves : List ℕ
  pub steps : AreTidySteps by k.run leaves
  pub in_turn : AskedInTurn by k (map Do leaves) came after

-- they are asked in turn; and then the updates that follow, if all are made
abbrev pub AskedThrough : Bool → ℕ → KeptCase → List Ask → Outcome → KeptCase → Type 0
AskedThrough false by k asks came after = AskedInTurn by k asks came after
AskedThrough true by k asks came after =
    ((came ≡ outcome.Refused) × IsRefusedAmong by k asks after)
    ⊎ ((next : KeptCase) × AreMade by k asks next × IsTidied by next came after)

-- What came of a user's command: something is shown, and the case stays; a tick, and its run stays; or it is refused at once, where it asks
-- for nothing, and the case stays; or what it asks for is asked in turn.
abbrev pub CommandMeans : Bool → ℕ → KeptCase → Command → Outcome → KeptCase → Type 0
CommandMeans tidied by k command.Todo came after = IsShown k came after
CommandMeans tidied by k command.History came after = IsShown k came after
CommandMeans tidied by k command.Undone came after = IsShown k came after
CommandMeans tidied by k command.Facts came after = IsShown k came after
CommandMeans tidied by k command.Report came after = IsShown k came after
CommandMeans tidied by k (command.Why task) came after =
    (AsksForNothing by k.run (command.Why task) × IsRefusedAtOnce k came after) ⊎ (((leaf : ℕ) × TaskMeans (run_of k.run) task leaf) × IsShown k came after)
CommandMeans tidied by k (command.TickOff claim) came after = after.run ≡ k.run
CommandMeans tidied by k other came after =
    (AsksForNothing by k.run other × IsRefusedAtOnce k came after)
    ⊎ ((asks : List Ask) × AsksFor by k.run other asks × AskedThrough (is_followed other tidied) by k asks came after)

-- what came of a user's line, by what its words ask for: what is no command is refused at once
abbrev pub LineMeans : Bool → ℕ → KeptCase → Result Command CommandRefusal → Outcome → KeptCase → Type 0
LineMeans tidied by k (Ok command) came after = CommandMeans tidied by k command came after
LineMeans tidied by k (Err refusal) came after = IsRefusedAtOnce k came after

-- Where memory is wanting, there is no reply

-- some things are asked by the user, one after another
pub record AsksSome (by : ℕ) (k after : KeptCase) : Type 0 where
  pub asks : List Ask
  pub came : Outcome
  pub in_turn : AskedInTurn by k asks came after

-- the case stays, if the command asks for nothing; a tick leaves its run
abbrev pub CommandBegins : ℕ → KeptCase → Command → KeptCase → Type 0
CommandBegins by k command.Todo after = after ≡ k
CommandBegins by k command.History after = after ≡ k
CommandBegins by k command.Undone after = after ≡ k
CommandBegins by k command.Facts after = after ≡ k
CommandBegins by k command.Report after = after ≡ k
CommandBegins by k (command.Why task) after = after ≡ k
CommandBegins by k (command.TickOff claim) after = after.run ≡ k.run
CommandBegins by k other after = AsksSome by k after

abbrev pub LineBegins : ℕ → KeptCase → Result Command CommandRefusal → KeptCase → Type 0
LineBegins by k (Ok command) after = CommandBegins by k command after
LineBegins by k (Err refusal) after = after ≡ k
