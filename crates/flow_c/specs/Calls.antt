-- What the calls from C come to.
use Rattle.std.specs.Prelude.{◌≡◌, ◌⊎◌, ◌==◌, ◌&&◌, nat_le, ℕ, Bool, if◌then◌else◌, List, Option, None, Some}
use Rattle.std.specs.Option.{option_map}
use Rattle.flow_model.specs.declared.history.Call.{Call}
use Rattle.flow_model.specs.declared.history.Outcome.{Outcome}
use Rattle.flow_model.specs.declared.limits.TheConstants.{MOST_ENTRIES}
use Rattle.flow_words.specs.declared.request.Mode.{Mode}
use Rattle.flow_words.specs.declared.request.Mode.TheVariants.{Check, Verify, Trace, Drive, Duty}
use Rattle.flow_words.specs.declared.request.Request.{Request}
use Rattle.flow_front.specs.declared.status.Status.{Status}
use Rattle.flow_front.specs.Status.{code_of}
use Rattle.flow_cli.specs.Output.{WritesAs, IsOfInput}
use Rattle.flow_step.specs.declared.stepped.Stepped.{Stepped}
use Rattle.flow_step.specs.Step.{Steps}
use Rattle.flow_step.specs.Json.{step_text, step_code}
use Rattle.flow_c.specs.Handed.{IsHandedOver, IsNothing}

-- ---- flow_answer

abbrev pub mode_numbered : ℕ → Option Mode
mode_numbered number =
    if number == 0 then Some Check
    else if number == 1 then Some Verify
    else if number == 2 then Some Trace
    else if number == 3 then Some Drive
    else if number == 4 then Some Duty
    else None

abbrev pub request_with : ℕ → Mode → Request
request_with steps mode = record { mode = mode; steps = steps; workers = 1; seed = 0; size = 1 }

-- the request of a call: none where no mode has the number, or `flow` takes not so many steps
abbrev pub request_of : ℕ → ℕ → Option Request
request_of mode steps = if nat_le 1 steps && nat_le steps MOST_ENTRIES then option_map (request_with steps) (mode_numbered mode) else None

-- `flow` writes that to the input, and ends so, whatever performs tasks
pub record IsAnswer (request : Request) (input : List ℕ) (ending : Status) (output : List ℕ) : Type 0 where
  pub writes : (gives : Call → Outcome → Bool) → WritesAs request.mode gives request (Some input) ending output
  pub read : IsOfInput ending

abbrev pub AnswersRequest : Option Request → List ℕ → List ℕ → List ℕ → ℕ → ℕ → Type 0
AnswersRequest None input room room' length' result = IsNothing 2 room room' length' result
AnswersRequest (Some request) input room room' length' result =
    IsNothing 6 room room' length' result
    ⊎ ((ending : Status) × (output : List ℕ) × IsAnswer request input ending output × IsHandedOver output (code_of ending) room room' length' result)

abbrev pub AnswersCall : ℕ → ℕ → List ℕ → List ℕ → List ℕ → ℕ → ℕ → Type 0
AnswersCall mode steps input room room' length' result = AnswersRequest (request_of mode steps) input room room' length' result

-- ---- flow_step

-- what comes of the step, as an object, and its status
abbrev pub IsStepObject : List ℕ → List ℕ → List ℕ → ℕ → List ℕ → List ℕ → ℕ → Type 0
IsStepObject text policy history by line object code =
    (stepped : Stepped) × Steps text policy history by line stepped × (object ≡ step_text stepped) × (code ≡ step_code stepped)

abbrev pub StepsCall : List ℕ → List ℕ → List ℕ → ℕ → List ℕ → List ℕ → List ℕ → ℕ → ℕ → Type 0
StepsCall text policy history by line room room' length' result =
    IsNothing 6 room room' length' result
    ⊎ ((object : List ℕ) × (code : ℕ) × IsStepObject text policy history by line object code × IsHandedOver object code room room' length' result)
