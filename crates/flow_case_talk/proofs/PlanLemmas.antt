-- What a command means, by what is done for it.
use Rattle.std.proofs.Common.{◌≡◌, ◌⊎◌, ◌↔◌, ℕ, Vec, Global, Bool, true, false, true≢false, IsTrue, List, [], ◌∷◌, ◌++◌, map, Some, None, Result, Ok, Err, IfOk, OnErr, refl, sym, ap, subst, ◌∙◌, inl, inr}
use Rattle.std.specs.declared.alloc.AllocError.{AllocError}
use Rattle.flow_ask.specs.declared.ask.Ask.{Ask}
use Rattle.flow_ask.specs.declared.ask.Ask.TheVariants as ask
use Rattle.flow_case.specs.declared.case_run.CaseRun.{CaseRun}
use Rattle.flow_case.specs.CaseRun.{run_of}
use Rattle.flow_core.specs.Run.{Run}
use Rattle.flow_names.specs.declared.command.Command.{Command}
use Rattle.flow_names.specs.declared.command.Command.TheVariants as command
use Rattle.flow_names.specs.declared.command.TaskRef.{TaskRef}
use Rattle.flow_names.specs.declared.refusal.CommandRefusal.{CommandRefusal}
use Rattle.flow_names.specs.declared.refusal.CommandRefusal.TheVariants as unread
use Rattle.flow_names.specs.Grammar.{IsRefusedFor}
use Rattle.flow_names.specs.declared.refusal.NameRefusal.{NameRefusal}
use Rattle.flow_names.specs.declared.refusal.NameRefusal.TheVariants.{NoMemory}
use Rattle.flow_names.specs.Meaning.{TaskMeans, TaskMeansNone, Means, MeansNone}
use Rattle.flow_case_talk.specs.declared.reply.Reply.{Reply}
use Rattle.flow_case_talk.specs.declared.reply.Outcome.{Outcome}
use Rattle.flow_case_talk.specs.declared.reply.Outcome.TheVariants as outcome
use Rattle.flow_case_talk.specs.declared.plan.Plan.{Plan}
use Rattle.flow_case_talk.specs.declared.plan.Plan.TheVariants as plan
use Rattle.flow_case_talk.specs.Means.{KeptCase, AskedInTurn, AreStepsTo, AreTidySteps, MayStepBack, AsksFor, AsksForNothing, IsWant, NamesNothing, IsShown, IsRefusedAtOnce, is_followed, AskedThrough, AsksSome, CommandMeans, CommandBegins, LineMeans, LineBegins}
use Rattle.flow_case_talk.specs.Plans.{EndsTask, MeansOne, IsOneAsk, IsLook, IsWhyOf, IsBack, IsTick, IsPlanOf, IsUnmeant, IsUnplanned, PlanMeans, PlanBegins, IsUnreadWant}
use Rattle.flow_case_talk.proofs.MeansLemmas.{none_asked, some_through}

module _ (tidied : Bool) (by : ℕ) (k : KeptCase) where
  shown : (c : Command) (o : Outcome) (after : KeptCase) → IsLook c → IsShown k o after → CommandMeans tidied by k c o after
  shown command.Todo o after look h = h
  shown command.History o after look h = h
  shown command.Undone o after look h = h
  shown command.Facts o after look h = h
  shown command.Report o after look h = h
  shown other o after look h = absurd look

  why_shown : (c : Command) (leaf : ℕ) (o : Outcome) (after : KeptCase) → IsWhyOf k.run leaf c → IsShown k o after → CommandMeans tidied by k c o after
  why_shown (command.Why task) leaf o after means h = inr ((leaf, means), h)
  why_shown other leaf o after means h = absurd means

  asked : (c : Command) (asks : List Ask) (o : Outcome) (after : KeptCase) → AsksFor by k.run c asks → AskedThrough (is_followed c tidied) by k asks o after →
      CommandMeans tidied by k c o after
  asked (command.Take task) asks o after a h = inr (asks, a, h)
  asked (command.Done claim) asks o after a h = inr (asks, a, h)
  asked (command.Fail claim) asks o after a h = inr (asks, a, h)
  asked (command.Do step) asks o after a h = inr (asks, a, h)
  asked command.Rewind asks o after a h = inr (asks, a, h)
  asked command.Commit asks o after a h = inr (asks, a, h)
  asked command.Tidy asks o after a h = inr (asks, a, h)
  asked command.Todo asks o after a h = absurd a.1
  asked (command.Why task) asks o after a h = absurd a.1
  asked command.History asks o after a h = absurd a.1
  asked command.Undone asks o after a h = absurd a.1
  asked (command.TickOff claim) asks o after a h = absurd a.1
  asked command.Facts asks o after a h = absurd a.1
  asked command.Report asks o after a h = absurd a.1

  back : (c : Command) (o : Outcome) (after : KeptCase) → IsBack k.run by c → IsRefusedAtOnce k o after → CommandMeans tidied by k c o after
  back command.Rewind o after may_not h = inl (may_not, h)
  back other o after may_not h = absurd may_not

  ticked : (c : Command) (o : Outcome) (after : KeptCase) → IsTick c → after.run ≡ k.run → CommandMeans tidied by k c o after
  ticked (command.TickOff claim) o after tick h = h
  ticked other o after tick h = absurd tick

  -- what came of the plan of a command came of the command
  pub by_plan : (c : Command) (p : Plan) (o : Outcome) (after : KeptCase) → IsPlanOf tidied by k.run c p → PlanMeans by k p o after → CommandMeans tidied by k c o after
  by_plan c plan.Show o after is h = shown c o after is h
  by_plan c (plan.Why leaf) o after is h = why_shown c leaf o after is h
  by_plan c (plan.Ask asks) o after (a, f) h = asked c asks.items o after a (subst (λ (b : Bool). AskedThrough b by k asks.items o after) (sym f) h)
  by_plan c (plan.AskAndTidy asks) o after (a, f) h = asked c asks.items o after a (subst (λ (b : Bool). AskedThrough b by k asks.items o after) (sym f) h)
  by_plan c (plan.Refuse why) o after is h = back c o after is h
  by_plan c (plan.TickOff taken) o after is h = ticked c o after is h

  -- its names mean nothing now
  pub by_none : (c : Command) (why : NameRefusal) (o : Outcome) (after : KeptCase) → IsUnplanned k.run c why → ¬ (IsWant why) → o ≡ outcome.Refused → after ≡ k →
      CommandMeans tidied by k c o after
  by_none (command.Take task) why o after none want is same = inl ((why, none want, want), (is, same))
  by_none (command.Done claim) why o after none want is same = inl ((why, none want, want), (is, same))
  by_none (command.Fail claim) why o after none want is same = inl ((why, none want, want), (is, same))
  by_none (command.Do step) why o after none want is same = inl ((why, none want, want), (is, same))
  by_none (command.Why task) why o after none want is same = inl ((why, none want, want), (is, same))
  by_none command.Rewind why o after none want is same = absurd (none want)
  by_none command.Commit why o after none want is same = absurd (none want)
  by_none command.Tidy why o after none want is same = absurd (none want)
  by_none command.Todo why o after none want is same = absurd (none want)
  by_none command.History why o after none want is same = absurd (none want)
  by_none command.Undone why o after none want is same = absurd (none want)
  by_none (command.TickOff claim) why o after none want is same = absurd (none want)
  by_none command.Facts why o after none want is same = absurd (none want)
  by_none command.Report why o after none want is same = absurd (none want)

-- the case stays
pub stays : (by : ℕ) (k : KeptCase) (c : Command) (after : KeptCase) → after ≡ k → CommandBegins by k c after
stays by k (command.Take task) after same = none_asked by k after same
stays by k (command.Done claim) after same = none_asked by k after same
stays by k (command.Fail claim) after same = none_asked by k after same
stays by k (command.Do step) after same = none_asked by k after same
stays by k command.Rewind after same = none_asked by k after same
stays by k command.Commit after same = none_asked by k after same
stays by k command.Tidy after same = none_asked by k after same
stays by k command.Todo after same = same
stays by k (command.Why task) after same = same
stays by k command.History after same = same
stays by k command.Undone after same = same
stays by k (command.TickOff claim) after same = ap (λ (x : KeptCase). x.run) same
stays by k command.Facts after same = same
stays by k command.Report after same = same

pub line_stays : (by : ℕ) (k : KeptCase) (said : Result Command CommandRefusal) (after : KeptCase) → after ≡ k → LineBegins by k said after
line_stays by k (Ok c) after same = stays by k c after same
line_stays by k (Err why) after same = same

-- some things are asked for a command that asks for something
begun : (by : ℕ) (k : KeptCase) (c : Command) (asks : List Ask) (after : KeptCase) → AsksFor by k.run c asks → AsksSome by k after → CommandBegins by k c after
begun by k (command.Take task) asks after a h = h
begun by k (command.Done claim) asks after a h = h
begun by k (command.Fail claim) asks after a h = h
begun by k (command.Do step) asks after a h = h
begun by k command.Rewind asks after a h = h
begun by k command.Commit asks after a h = h
begun by k command.Tidy asks after a h = h
begun by k command.Todo asks after a h = absurd a.1
begun by k (command.Why task) asks after a h = absurd a.1
begun by k command.History asks after a h = absurd a.1
begun by k command.Undone asks after a h = absurd a.1
begun by k (command.TickOff claim) asks after a h = absurd a.1
begun by k command.Facts asks after a h = absurd a.1
begun by k command.Report asks after a h = absurd a.1

tick_begun : (by : ℕ) (k : KeptCase) (c : Command) (after : KeptCase) → IsTick c → after.run ≡ k.run → CommandBegins by k c after
tick_begun by k (command.TickOff claim) after tick h = h
tick_begun by k other after tick h = absurd tick

pub begins_by : (tidied : Bool) (by : ℕ) (k : KeptCase) (c : Command) (p : Plan) (after : KeptCase) → IsPlanOf tidied by k.run c p → PlanBegins by k p after → CommandBegins by k c after
begins_by tidied by k c plan.Show after is h = stays by k c after h
begins_by tidied by k c (plan.Why leaf) after is h = stays by k c after h
begins_by tidied by k c (plan.Ask asks) after (a, f) h = begun by k c asks.items after a h
begins_by tidied by k c (plan.AskAndTidy asks) after (a, f) h = begun by k c asks.items after a h
begins_by tidied by k c (plan.Refuse why) after is h = stays by k c after h
begins_by tidied by k c (plan.TickOff taken) after is h = tick_begun by k c after is h

-- where a task ends
pub ends_one : (d : Command) → EndsTask d → MeansOne d
ends_one (command.Done claim) ends = tt
ends_one other ends = absurd ends

pub ends_followed : (d : Command) (tidied : Bool) → EndsTask d → is_followed d tidied ≡ tidied
ends_followed (command.Done claim) tidied ends = refl
ends_followed other tidied ends = absurd ends

-- the one ask is what the command asks for
pub one_ask : (by : ℕ) (c : CaseRun) (r : Run) (d : Command) (asks : List Ask) → MeansOne d → r ≡ run_of c → IsOneAsk r d asks → AsksFor by c d asks
one_ask by c r (command.Done claim) asks one same (ask, means, is) = (ask, subst (λ (s : Run). Means s (command.Done claim) (Some ask)) same means, is)
one_ask by c r (command.Fail claim) asks one same (ask, means, is) = (ask, subst (λ (s : Run). Means s (command.Fail claim) (Some ask)) same means, is)
one_ask by c r (command.Do step) asks one same (ask, means, is) = (ask, subst (λ (s : Run). Means s (command.Do step) (Some ask)) same means, is)
one_ask by c r command.Commit asks one same (ask, means, is) = (ask, subst (λ (s : Run). Means s command.Commit (Some ask)) same means, is)
one_ask by c r other asks one same is = absurd one

-- the plans of commands

pub take_plan : (tidied : Bool) (by : ℕ) (c : CaseRun) (r : Run) (task : TaskRef) (leaf : ℕ) (steps : List ℕ) (asks : Vec Ask Global) → TaskMeans r task leaf → r ≡ run_of c → AreStepsTo by c leaf steps →
    asks.items ≡ map ask.Do steps ++ ask.Take leaf ∷ [] → IsPlanOf tidied by c (command.Take task) (plan.Ask asks)
take_plan tidied by c r task leaf steps asks means same are is = ((leaf, steps, subst (λ (s : Run). TaskMeans s task leaf) same means, are, is), refl)

pub tidy_plan : (tidied : Bool) (by : ℕ) (c : CaseRun) (leaves : List ℕ) (asks : Vec Ask Global) → AreTidySteps by c leaves → asks.items ≡ map ask.Do leaves →
    IsPlanOf tidied by c command.Tidy (plan.Ask asks)
tidy_plan tidied by c leaves asks are is = ((leaves, are, is), refl)

pub back_plan : (tidied : Bool) (by : ℕ) (c : CaseRun) (b : Bool) (asks : Vec Ask Global) → IsTrue b ↔ MayStepBack c by → b ≡ true → asks.items ≡ ask.Rewind ∷ [] →
    IsPlanOf tidied by c command.Rewind (plan.Ask asks)
back_plan tidied by c b asks may is are = ((may.0 is, are), refl)

pub no_back_plan : (by : ℕ) (c : CaseRun) (b : Bool) → IsTrue b ↔ MayStepBack c by → b ≡ false → ¬ (MayStepBack c by)
no_back_plan by c b may is can = true≢false (sym (may.1 can) ∙ is)

pub why_plan : (c : CaseRun) (r : Run) (task : TaskRef) (leaf : ℕ) → TaskMeans r task leaf → r ≡ run_of c → IsWhyOf c leaf (command.Why task)
why_plan c r task leaf means same = subst (λ (s : Run). TaskMeans s task leaf) same means

pub finish_plan : (tidied : Bool) (by : ℕ) (c : CaseRun) (r : Run) (d : Command) (asks : Vec Ask Global) → EndsTask d → tidied ≡ true → r ≡ run_of c → IsOneAsk r d asks.items →
    IsPlanOf tidied by c d (plan.AskAndTidy asks)
finish_plan tidied by c r d asks ends is same one = (one_ask by c r d asks.items (ends_one d ends) same one, ends_followed d tidied ends ∙ is)

pub end_plan : (tidied : Bool) (by : ℕ) (c : CaseRun) (r : Run) (d : Command) (asks : Vec Ask Global) → EndsTask d → tidied ≡ false → r ≡ run_of c → IsOneAsk r d asks.items →
    IsPlanOf tidied by c d (plan.Ask asks)
end_plan tidied by c r d asks ends is same one = (one_ask by c r d asks.items (ends_one d ends) same one, ends_followed d tidied ends ∙ is)

-- why there is none

pub no_take : (c : CaseRun) (r : Run) (task : TaskRef) (why : NameRefusal) → TaskMeansNone r task why → r ≡ run_of c → IsUnplanned c (command.Take task) why
no_take c r task why none same want = subst (λ (s : Run). TaskMeansNone s task why) same none

pub no_why : (c : CaseRun) (r : Run) (task : TaskRef) (why : NameRefusal) → TaskMeansNone r task why → r ≡ run_of c → IsUnplanned c (command.Why task) why
no_why c r task why none same want = subst (λ (s : Run). TaskMeansNone s task why) same none

pub want_plan : (c : CaseRun) (d : Command) (why : NameRefusal) → why ≡ NoMemory → IsUnplanned c d why
want_plan c d why is other = absurd (other (subst IsWant (sym is) tt))

pub want_one : (r : Run) (d : Command) (why : NameRefusal) → why ≡ NoMemory → IsUnmeant r d why
want_one r d why is other = absurd (other (subst IsWant (sym is) tt))

pub unmeant_one : (r : Run) (d : Command) (why : NameRefusal) → MeansNone r d why → IsUnmeant r d why
unmeant_one r d why none want = none

-- it means none now
pub none_one : (c : CaseRun) (r : Run) (d : Command) (why : NameRefusal) → MeansOne d → r ≡ run_of c → IsUnmeant r d why → IsUnplanned c d why
none_one c r (command.Done claim) why one same none want = subst (λ (s : Run). MeansNone s (command.Done claim) why) same (none want)
none_one c r (command.Fail claim) why one same none want = subst (λ (s : Run). MeansNone s (command.Fail claim) why) same (none want)
none_one c r (command.Do step) why one same none want = subst (λ (s : Run). MeansNone s (command.Do step) why) same (none want)
none_one c r command.Commit why one same none want = subst (λ (s : Run). MeansNone s command.Commit why) same (none want)
none_one c r other why one same none want = absurd one

-- it means one
pub not_none : (r : Run) (d : Command) (asks : List Ask) → MeansOne d → Means r d None → IsOneAsk r d asks
not_none r (command.Done claim) asks one means = absurd means
not_none r (command.Fail claim) asks one means = absurd means
not_none r (command.Do step) asks one means = absurd means
not_none r command.Commit asks one means = absurd means
not_none r other asks one means = absurd one

-- what comes of a command, of whatever came of its plan

pub answered_by : (r : Result Reply AllocError) (tidied : Bool) (by : ℕ) (k : KeptCase) (c : Command) (p : Plan) (after : KeptCase) → IsPlanOf tidied by k.run c p →
    IfOk r (λ reply. PlanMeans by k p reply.outcome after) → IfOk r (λ reply. CommandMeans tidied by k c reply.outcome after)
answered_by (Ok reply) tidied by k c p after is h = by_plan tidied by k c p reply.outcome after is h
answered_by (Err e) tidied by k c p after is h = h

pub begun_by : (r : Result Reply AllocError) (tidied : Bool) (by : ℕ) (k : KeptCase) (c : Command) (p : Plan) (after : KeptCase) → IsPlanOf tidied by k.run c p →
    OnErr r (PlanBegins by k p after) → OnErr r (CommandBegins by k c after)
begun_by (Ok reply) tidied by k c p after is h = h
begun_by (Err e) tidied by k c p after is h = begins_by tidied by k c p after is h

pub unmeant_by : (r : Result Reply AllocError) (tidied : Bool) (by : ℕ) (k : KeptCase) (c : Command) (why : NameRefusal) (after : KeptCase) → IsUnplanned k.run c why → after ≡ k →
    IfOk r (λ reply. reply.outcome ≡ outcome.Refused) → IfOk r (λ reply. ¬ (IsWant why)) → IfOk r (λ reply. CommandMeans tidied by k c reply.outcome after)
unmeant_by (Ok reply) tidied by k c why after none same is want = by_none tidied by k c why reply.outcome after none want is same
unmeant_by (Err e) tidied by k c why after none same is want = is

pub stays_by : (r : Result Reply AllocError) (by : ℕ) (k : KeptCase) (c : Command) (after : KeptCase) → after ≡ k → OnErr r (CommandBegins by k c after)
stays_by (Ok reply) by k c after same = tt
stays_by (Err e) by k c after same = stays by k c after same

-- a line that is no command

refused_for : (said : Result Command CommandRefusal) (why : CommandRefusal) → IsRefusedFor said why → ¬ (IsUnreadWant why) → said ≡ Err why
refused_for said unread.NoMemory h other = absurd (other tt)
refused_for said unread.Blank h other = h
refused_for said (unread.Unknown near) h other = h
refused_for said (unread.Missing verb) h other = h
refused_for said (unread.Behind verb) h other = h
refused_for said unread.Leaf h other = h

pub unread_by : (r : Result Reply AllocError) (tidied : Bool) (by : ℕ) (k : KeptCase) (said : Result Command CommandRefusal) (why : CommandRefusal) (after : KeptCase) → IsRefusedFor said why → after ≡ k →
    IfOk r (λ reply. reply.outcome ≡ outcome.Refused) → IfOk r (λ reply. ¬ (IsUnreadWant why)) → IfOk r (λ reply. LineMeans tidied by k said reply.outcome after)
unread_by (Ok reply) tidied by k said why after h same is want =
    subst (λ (s : Result Command CommandRefusal). LineMeans tidied by k s reply.outcome after) (sym (refused_for said why h want)) (is, same)
unread_by (Err e) tidied by k said why after h same is want = is

pub line_stays_by : (r : Result Reply AllocError) (by : ℕ) (k : KeptCase) (said : Result Command CommandRefusal) (after : KeptCase) → after ≡ k → OnErr r (LineBegins by k said after)
line_stays_by (Ok reply) by k said after same = tt
line_stays_by (Err e) by k said after same = line_stays by k said after same

-- what a line means, where memory is wanting behind it

begins_of : (tidied : Bool) (by : ℕ) (k : KeptCase) (c : Command) (o : Outcome) (after : KeptCase) → (AsksForNothing by k.run c × IsRefusedAtOnce k o after)
    ⊎ ((asks : List Ask) × AsksFor by k.run c asks × AskedThrough (is_followed c tidied) by k asks o after) → AsksSome by k after
begins_of tidied by k c o after (inl (none, (is, same))) = none_asked by k after same
begins_of tidied by k c o after (inr (asks, a, h)) = some_through (is_followed c tidied) by k after asks o h

command_begins : (tidied : Bool) (by : ℕ) (k : KeptCase) (c : Command) (o : Outcome) (after : KeptCase) → CommandMeans tidied by k c o after → CommandBegins by k c after
command_begins tidied by k command.Todo o after (is, same) = same
command_begins tidied by k command.History o after (is, same) = same
command_begins tidied by k command.Undone o after (is, same) = same
command_begins tidied by k command.Facts o after (is, same) = same
command_begins tidied by k command.Report o after (is, same) = same
command_begins tidied by k (command.Why task) o after (inl (none, (is, same))) = same
command_begins tidied by k (command.Why task) o after (inr (leaf, (is, same))) = same
command_begins tidied by k (command.TickOff claim) o after h = h
command_begins tidied by k (command.Take task) o after h = begins_of tidied by k (command.Take task) o after h
command_begins tidied by k (command.Done claim) o after h = begins_of tidied by k (command.Done claim) o after h
command_begins tidied by k (command.Fail claim) o after h = begins_of tidied by k (command.Fail claim) o after h
command_begins tidied by k (command.Do step) o after h = begins_of tidied by k (command.Do step) o after h
command_begins tidied by k command.Rewind o after h = begins_of tidied by k command.Rewind o after h
command_begins tidied by k command.Commit o after h = begins_of tidied by k command.Commit o after h
command_begins tidied by k command.Tidy o after h = begins_of tidied by k command.Tidy o after h

pub means_begins : (tidied : Bool) (by : ℕ) (k : KeptCase) (said : Result Command CommandRefusal) (o : Outcome) (after : KeptCase) → LineMeans tidied by k said o after → LineBegins by k said after
means_begins tidied by k (Ok c) o after h = command_begins tidied by k c o after h
means_begins tidied by k (Err why) o after (is, same) = same
