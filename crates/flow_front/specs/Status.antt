-- The status of a process, and of a refusal.
use Rattle.std.specs.Prelude.{◌≡◌, ℕ, List}
use Rattle.flow_excise.specs.declared.refusal.CompileRefusal.{CompileRefusal}
use Rattle.flow_excise.specs.declared.refusal.CompileRefusal.TheVariants.{Inconsistent}
use Rattle.flow_findings.specs.declared.refused.Refused.{Refused}
use Rattle.flow_findings.specs.declared.refused.Refused.TheVariants as refused
use Rattle.flow_findings.specs.Refusing.{refused_text}
use Rattle.flow_front.specs.declared.status.Status.{Status}
use Rattle.flow_front.specs.declared.status.Status.TheVariants as ending

abbrev pub code_of : Status → ℕ
code_of ending.Fine = 0
code_of ending.No = 1
code_of ending.Words = 2
code_of ending.Input = 3
code_of ending.ReadFault = 4
code_of ending.WriteFault = 5
code_of ending.Memory = 6
code_of ending.Spent = 7

-- a workflow that no execution meets is an answer, and one that is too large is none
abbrev pub status_of_compiling : CompileRefusal → Status
status_of_compiling (Inconsistent dropped) = ending.No
status_of_compiling other = ending.Input

abbrev pub status_of : Refused → Status
status_of refused.Words = ending.Words
status_of refused.Read = ending.ReadFault
status_of (refused.Compile refusal) = status_of_compiling refusal
status_of other = ending.Input

-- the status and the output are those of the refusal, events by these names
pub record Tells (events : List (List ℕ)) (why : Refused) (status : Status) (output : List ℕ) : Type 0 where
  pub status_is : status ≡ status_of why
  pub output_is : output ≡ refused_text events why
