-- What is read of a source.
use Rattle.std.specs.Prelude.{◌≡◌, ◌+◌, ◌≤◌, ℕ, List, [], length, Option, Some, Result, Ok, Err, IfSome}
use Rattle.flow_model.specs.declared.limits.TheConstants.{GREATEST_INPUT}
use Rattle.flow_form.specs.Script.{Said}
use Rattle.flow_text.specs.Saying.{Says}
use Rattle.flow_text.specs.Parser.{IsParseRefusal}
use Rattle.flow_io.specs.Source.{LosesCount}
use Rattle.flow_findings.specs.declared.refused.Refused.{Refused}
use Rattle.flow_findings.specs.declared.refused.Refused.TheVariants as refused
use Rattle.flow_findings.specs.Refusing.{IsOfText}
use Rattle.flow_front.specs.declared.stop.Stop.{Stop}
use Rattle.flow_front.specs.declared.stop.Stop.TheVariants as stop
use Rattle.flow_front.specs.Refusal.{workflow_part, second_part, Gives}

-- the input is not too long, its first part says this, and that is its second part
pub record IsInput (input : List ℕ) (s : Said) (second : List ℕ) : Type 0 where
  pub short : length input ≤ GREATEST_INPUT
  pub says : Says (workflow_part input) s
  pub second_is : second ≡ second_part input

-- the source gives an input that says this, with that second part
abbrev pub IsInputOf : Option (List ℕ) → Said → List ℕ → Type 0
IsInputOf left s second = (input : List ℕ) × Gives left input × IsInput input s second

-- the first part of the input says nothing
abbrev pub IsTextCause : List ℕ → Refused → Type 0
IsTextCause input (refused.Text refusal) = IsOfText refusal × IsParseRefusal (workflow_part input) refusal
IsTextCause input other = ⊥

-- nothing is left
abbrev pub IsReadWhole : Option (List ℕ) → Option (List ℕ) → Type 0
IsReadWhole left left' = IfSome left (λ _. left' ≡ Some [])

-- what a read leaves of the source: nothing where it came to an answer, and where the input is too long all but one byte more than the limit
abbrev pub LeavesSource : {A : Type 0} → Option (List ℕ) → Option (List ℕ) → Result A Stop → Type 0
LeavesSource left left' (Ok input) = IsReadWhole left left'
LeavesSource left left' (Err (stop.Refused (refused.Text refusal))) = IsReadWhole left left'
LeavesSource left left' (Err (stop.Refused refused.TooLong)) = LosesCount left left' (GREATEST_INPUT + 1)
LeavesSource left left' other = Unit {0}
