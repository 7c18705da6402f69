-- What is told of what flow answers, or refuses.
use Rattle.std.specs.Prelude.{◌≡◌, ◌⊎◌, ℕ, List, [], Result, Ok, Err, Some}
use Rattle.flow_form.specs.Script.{Said}
use Rattle.flow_form.specs.Names.{event_names}
use Rattle.flow_text.specs.Saying.{Says}
use Rattle.flow_findings.specs.declared.refused.Refused.{Refused}
use Rattle.flow_front.specs.declared.status.Status.{Status}
use Rattle.flow_front.specs.declared.output.Output.{Output}
use Rattle.flow_front.specs.declared.stop.Stop.{Stop}
use Rattle.flow_front.specs.Refusal.{the_source, workflow_part, IsCause}
use Rattle.flow_front.specs.Stages.{Comes}
use Rattle.flow_why_cli.specs.declared.telling.Form.{Form}
use Rattle.flow_why_cli.specs.Explained.{BeginsInWords, IsExplainedBy, TellsFirst}

-- what flow answers: its status, and the lines with which the words begin
pub record Answer : Type 0 where
  pub status : Status
  pub front : List ℕ

-- the status is flow's, and in words the text begins with those lines
pub record TellsAnswer (answer : Answer) (form : Form) (status : Status) (output : List ℕ) : Type 0 where
  pub status_is : status ≡ answer.status
  pub begins : BeginsInWords form output answer.front

-- that is told of what comes: an answer, or a refusal, events by these names
abbrev pub IsTold : List (List ℕ) → Result Answer Refused → Form → Status → List ℕ → Type 0
IsTold events (Ok answer) form status output = TellsAnswer answer form status output
IsTold events (Err why) form status output = TellsFirst events why form status output

-- the output tells that answer
abbrev pub IsOutputOf : Form → Output → Answer → Type 0
IsOutputOf form output answer = TellsAnswer answer form output.status output.text.items

-- the call tells an answer that may come, or is stopped by a refusal that may come
abbrev pub Tells : Form → (Result Answer Refused → Type 0) → Result Output Stop → Type 0
Tells form May result = Comes (IsOutputOf form) May result

-- something that may come is told
abbrev pub IsToldOf : List (List ℕ) → (Result Answer Refused → Type 0) → Form → Status → List ℕ → Type 0
IsToldOf events May form status output = (came : Result Answer Refused) × May came × IsTold events came form status output

-- the text says no workflow, for the first reason, or of what it says something that may come is told
abbrev pub IsExplainedWith : (Said → Result Answer Refused → Type 0) → List ℕ → Form → Status → List ℕ → Type 0
IsExplainedWith May text form status output =
    IsExplainedBy [] (IsCause (the_source (Some text))) form status output
    ⊎ ((s : Said) × Says (workflow_part text) s × IsToldOf (event_names s.decls) (May s) form status output)
