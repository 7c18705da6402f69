-- The run of a case, under a policy or under none: what it answers, which entries it makes, and what it keeps.
use Rattle.std.specs.Prelude.{◌≡◌, ℕ, List, ◌++◌, take, slice_get, Some, Result}
use Rattle.flow_model.specs.declared.history.Entry.{Entry}
use Rattle.flow_ask.specs.declared.ask.Ask.{Ask}
use Rattle.flow_ask.specs.declared.made.Made.{Made}
use Rattle.flow_ask.specs.declared.refusal.Refusal.{Refusal}
use Rattle.flow_core.specs.Run.{Run, schema}
use Rattle.flow_core.specs.Ask.{Answers}
use Rattle.flow_core.specs.Make.{CanMake}
use Rattle.flow_roles.specs.Desked.{KeepsDuties}
use Rattle.flow_roles.specs.Ask.{with_entries}
use Rattle.flow_case.specs.declared.case_run.CaseRun.{CaseRun}
use Rattle.flow_case.specs.declared.case_run.CaseRun.TheVariants.{Free, UnderPolicy}
use Rattle.flow_case.specs.Rules.{KeepsRules}
use Rattle.flow_case.specs.Ask.{RuledAnswers, CanMakeRuled}

abbrev pub run_of : CaseRun → Run
run_of (Free r) = r
run_of (UnderPolicy c) = c.desk.run

-- Under a policy: duties hold after every step, no step back cuts a leaf of a final event, each is by a user who may step back, and the end
-- is by one who may end the run.
abbrev pub KeepsCase : CaseRun → Type 0
KeepsCase (Free r) = Unit {0}
KeepsCase (UnderPolicy c) = KeepsDuties c.desk × KeepsRules (schema c.desk.run) c.rules c.desk.run.history

-- the case answers the ask so, and is this afterwards
abbrev pub CaseAnswers : CaseRun → Ask → ℕ → Result Made Refusal → CaseRun → Type 0
CaseAnswers (Free r) what by answer (Free after) = Answers r what by answer after
CaseAnswers (Free r) what by answer (UnderPolicy after) = ⊥
CaseAnswers (UnderPolicy c) what by answer (Free after) = ⊥
CaseAnswers (UnderPolicy c) what by answer (UnderPolicy after) = RuledAnswers c what by answer after

-- the entry may be made next; under a policy, duties and rules leave it to its caller
abbrev pub CanMakeInCase : CaseRun → Entry → Type 0
CanMakeInCase (Free r) entry = CanMake r entry.step
CanMakeInCase (UnderPolicy c) entry = CanMakeRuled c entry

-- the case with further entries
abbrev pub case_with : CaseRun → List Entry → CaseRun
case_with (Free r) entries = Free (record r { history = r.history ++ entries })
case_with (UnderPolicy c) entries = UnderPolicy (record c { desk = with_entries c.desk entries })

-- the entry at the place is the first that may not be made after those before it
abbrev pub IsFirstUnmade : CaseRun → List Entry → ℕ → Type 0
IsFirstUnmade c entries index =
    (entry : Entry) × (slice_get entries index ≡ Some entry) × ¬ (CanMakeInCase (case_with c (take index entries)) entry)
