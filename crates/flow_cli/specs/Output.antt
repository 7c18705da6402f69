-- What a call writes, and with which status it ends.
use Rattle.std.specs.Prelude.{◌≡◌, ◌≢◌, ◌+◌, ◌<◌, ◌≤◌, ◌↔◌, ℕ, Bool, List, [], drop, length, Option, Some, Result, Ok, Err, IfSome, ◌⊎◌}
use Rattle.flow_model.specs.declared.limits.TheConstants.{GREATEST_INPUT}
use Rattle.flow_model.specs.declared.history.Call.{Call}
use Rattle.flow_model.specs.declared.history.Outcome.{Outcome}
use Rattle.flow_form.specs.Script.{Said}
use Rattle.flow_form.specs.Script as script
use Rattle.flow_form.specs.Names.{event_names}
use Rattle.flow_findings.specs.declared.refused.Refused.{Refused}
use Rattle.flow_findings.specs.declared.refused.Refused.TheVariants as refused
use Rattle.flow_words.specs.declared.request.Mode.{Mode}
use Rattle.flow_words.specs.declared.request.Mode.TheVariants.{Drive, Run, Check, Verify, Trace, Gen, Large, Duty, Audit}
use Rattle.flow_words.specs.declared.request.Request.{Request}
use Rattle.flow_words.specs.declared.purpose.Purpose.{Purpose}
use Rattle.flow_words.specs.declared.purpose.Purpose.TheVariants.{Answer, Help, Version}
use Rattle.flow_words.specs.declared.help.TheConstants.{HELP, VERSION}
use Rattle.flow_words.specs.Words.{IsFor, IsNoCall}
use Rattle.flow_front.specs.declared.input.Input.{Input}
use Rattle.flow_front.specs.declared.output.Output.{Output}
use Rattle.flow_front.specs.declared.status.Status.{Status}
use Rattle.flow_front.specs.declared.status.Status.TheVariants as status
use Rattle.flow_front.specs.declared.stop.Stop.{Stop}
use Rattle.flow_front.specs.Status.{Tells}
use Rattle.flow_front.specs.Stop.{TellsStop}
use Rattle.flow_front.specs.Refusal.{the_source, IsCause}
use Rattle.flow_front.specs.Input.{IsInputOf}
use Rattle.flow_cli.specs.Finding.{Finding, generated, IsWritten}
use Rattle.flow_cli.specs.Check.{Checks}
use Rattle.flow_cli.specs.Drive.{DrivesText}
use Rattle.flow_cli.specs.Run.{RunsSaid}
use Rattle.flow_cli.specs.Trace.{TracesText}
use Rattle.flow_cli.specs.Verify.{VerifiesText}
use Rattle.flow_cli.specs.Large.{RunsGenerated}
use Rattle.flow_cli.specs.Duty.{DutyText}
use Rattle.flow_cli.specs.Audit.{AuditsText}

-- the mode reads the source
abbrev pub Reads : Mode → Type 0
Reads Gen = ⊥
Reads Large = ⊥
Reads other = Unit {0}

-- the call is for an answer of such a mode
abbrev pub ReadsFor : Purpose → Type 0
ReadsFor (Answer request) = Reads request.mode
ReadsFor other = ⊥

-- the mode performs no tasks
abbrev pub AsksNoGate : Mode → Type 0
AsksNoGate Drive = Unit {0}
AsksNoGate Check = Unit {0}
AsksNoGate Verify = Unit {0}
AsksNoGate Trace = Unit {0}
AsksNoGate Gen = Unit {0}
AsksNoGate Duty = Unit {0}
AsksNoGate Audit = Unit {0}
AsksNoGate Run = ⊥
AsksNoGate Large = ⊥

-- the mode starts no threads
abbrev pub StartsNoThreads : Mode → Type 0
StartsNoThreads Run = ⊥
StartsNoThreads Large = ⊥
StartsNoThreads Audit = ⊥
StartsNoThreads other = Unit {0}

-- What a mode that reads finds in what is said and in the text that follows: `check` and `run` do not look at that. Only what workers run
-- asks the gate.
abbrev pub Finds : Mode → (Call → Outcome → Bool) → Request → Said → List ℕ → Result Finding Refused → Type 0
Finds Drive gives request s text came = DrivesText s request.steps text came
Finds Run gives request s text came = RunsSaid gives s request.steps request.workers came
Finds Check gives request s text came = Checks s came
Finds Verify gives request s text came = VerifiesText s text came
Finds Trace gives request s text came = TracesText s text came
Finds Duty gives request s text came = DutyText s request.steps text came
Finds Audit gives request s text came = AuditsText s text came
Finds Gen gives request s text came = ⊥
Finds Large gives request s text came = ⊥

-- what a request finds in an input
abbrev pub FindsIn : (Call → Outcome → Bool) → Request → Input → Result Finding Refused → Type 0
FindsIn gives request input came = Finds request.mode gives request (script.said input.script) input.second.items came

-- something that may come of what is said is written
abbrev pub IsTold : (Result Finding Refused → Type 0) → Said → Status → List ℕ → Type 0
IsTold P s status output = (came : Result Finding Refused) × P came × IsWritten (event_names s.decls) came status output

-- the output is the one that was found, or says why nothing was
abbrev pub TellsFound : List (List ℕ) → Result Output Stop → Output → Type 0
TellsFound events (Ok found) output = output ≡ found
TellsFound events (Err stop) output = TellsStop events stop output.status output.text.items

-- the source is refused, and the output says why
pub record IsNotRead (source : Option (List ℕ)) (status : Status) (output : List ℕ) : Type 0 where
  pub why : Refused
  pub cause : IsCause (the_source source) why
  pub told : Tells [] why status output

-- the source says something, of which this is written
pub record IsAnswered (P : Said → List ℕ → Result Finding Refused → Type 0) (source : Option (List ℕ)) (status : Status) (output : List ℕ) : Type 0 where
  pub said : Said
  pub second : List ℕ
  pub read : IsInputOf source said second
  pub told : IsTold (P said second) said status output

-- what is written of what a source gives
abbrev pub WritesOf : (Said → List ℕ → Result Finding Refused → Type 0) → Option (List ℕ) → Status → List ℕ → Type 0
WritesOf P source status output = IsNotRead source status output ⊎ IsAnswered P source status output

-- the output is the text of the generated workflow
abbrev pub IsGenerated : Request → Status → List ℕ → Type 0
IsGenerated request status output = IsWritten [] (Ok (generated request.seed request.size)) status output

-- what is written of a run of it
abbrev pub IsSummarized : (Call → Outcome → Bool) → Request → Status → List ℕ → Type 0
IsSummarized gives request status output =
    (came : Result Finding Refused) × RunsGenerated gives request.seed request.size request.steps request.workers came × IsWritten [] came status output

-- what the mode writes
abbrev pub WritesAs : Mode → (Call → Outcome → Bool) → Request → Option (List ℕ) → Status → List ℕ → Type 0
WritesAs Gen gives request source status output = IsGenerated request status output
WritesAs Large gives request source status output = IsSummarized gives request status output
WritesAs mode gives request source status output = WritesOf (Finds mode gives request) source status output

-- the output is that text
abbrev pub IsText : List ℕ → Status → List ℕ → Type 0
IsText text ending output = (ending ≡ status.Fine) × (output ≡ text)

-- what is written for such a purpose
abbrev pub WritesFor : Purpose → (Call → Outcome → Bool) → Option (List ℕ) → Status → List ℕ → Type 0
WritesFor (Answer request) gives source ending output = WritesAs request.mode gives request source ending output
WritesFor Help gives source ending output = IsText HELP.now ending output
WritesFor Version gives source ending output = IsText VERSION.now ending output

-- For these words and this source the call writes that output with that status: wrong words are refused first, and a text about the program
-- is written whatever the source. Then a source that fails is refused, and then the first cause of the mode that applies, if there is one.
abbrev pub Writes : (Call → Outcome → Bool) → List (List ℕ) → Option (List ℕ) → Status → List ℕ → Type 0
Writes gives words source status output =
    (IsNoCall words × Tells [] refused.Words status output)
    ⊎ ((purpose : Purpose) × IsFor words purpose × WritesFor purpose gives source status output)

-- the call wrote its whole output, and no fault and no want of memory ended it
abbrev pub IsWhole : Status → Type 0
IsWhole status.WriteFault = ⊥
IsWhole status.Memory = ⊥
IsWhole other = Unit {0}

-- the answer to an input that was read
abbrev pub IsOfInput : Status → Type 0
IsOfInput status.Input = Unit {0}
IsOfInput status.Fine = Unit {0}
IsOfInput status.No = Unit {0}
IsOfInput status.Spent = Unit {0}
IsOfInput other = ⊥

-- the workflow was checked, the session gone through to its end, or the query, the journal or the journals answered
abbrev pub IsOver : Status → Type 0
IsOver status.Fine = Unit {0}
IsOver status.No = Unit {0}
IsOver status.Spent = Unit {0}
IsOver other = ⊥

-- where the source tells its bytes, all of them were taken; of too many just one more than the limit
abbrev pub IsTakenFrom : Option (List ℕ) → Option (List ℕ) → Type 0
IsTakenFrom left left' = IfSome left (λ input.
    ((length input ≤ GREATEST_INPUT) × (left' ≡ Some [])) ⊎ ((GREATEST_INPUT < length input) × (left' ≡ Some (drop (GREATEST_INPUT + 1) input))))

-- What is written, and what becomes of the source: a fault is told, where it is to be read an answer stands on its end, and a refusal comes
-- once it is read, or too long.
pub record IsOutcome (IsWritten : Status → List ℕ → Type 0) (reads : Type 0) (left left' : Option (List ℕ)) (faults faults' : ℕ)
    (ending : Status) (output : List ℕ) : Type 0 where
  pub writes : IsWritten ending output
  pub whole : IsWhole ending
  pub words : ending ≢ status.Words
  pub fault : (ending ≡ status.ReadFault) ↔ (faults < faults')
  pub end : reads → IsOver ending → IfSome left (λ _. left' ≡ Some [])
  pub refused : reads → ending ≡ status.Input → IsTakenFrom left left'

-- what is written of a source, by what it tells of its bytes and its faults, for a request and for a purpose
module _ {S : Type 0} (left : S → Option (List ℕ)) (faults : S → ℕ) (gives : Call → Outcome → Bool) where
  abbrev pub IsAnswer : Request → S → S → Output → Type 0
  IsAnswer request source source' output = IsOutcome (WritesAs request.mode gives request (left source)) (Reads request.mode)
      (left source) (left source') (faults source) (faults source') output.status output.text.items

  abbrev pub IsServed : Purpose → S → S → Output → Type 0
  IsServed purpose source source' output = IsOutcome (WritesFor purpose gives (left source)) (ReadsFor purpose)
      (left source) (left source') (faults source) (faults source') output.status output.text.items

-- A call with these words could have ended so, by what became of the source: a failed read is told, and nothing else as one; an answer stands
-- on the end of the source where it is to be read; a refusal comes once it is read, or too long; and wrong words leave it the same.
pub record EndsWith (call : List (List ℕ)) (same : Type 0) (left left' : Option (List ℕ)) (faults faults' : ℕ) (ending : Status) : Type 0 where
  pub whole : IsWhole ending
  pub words : ending ≡ status.Words → same
  pub fault : (ending ≡ status.ReadFault) ↔ (faults < faults')
  pub end : (purpose : Purpose) → IsFor call purpose → ReadsFor purpose → IsOver ending → IfSome left (λ _. left' ≡ Some [])
  pub refused : (purpose : Purpose) → IsFor call purpose → ReadsFor purpose → ending ≡ status.Input → IsTakenFrom left left'
