-- What is written is settled by the words and by what was read, but for a few things of which any will do.
use Rattle.std.specs.Prelude.{◌≡◌, ℕ, Bool, List, [], Some, Result, ◌⊎◌}
use Rattle.std.proofs.Common.{Vec, Global}
use Rattle.flow_model.specs.declared.history.Call.{Call}
use Rattle.flow_model.specs.declared.history.Outcome.{Outcome}
use Rattle.flow_model.specs.Constraint.{Constraint}
use Rattle.flow_form.specs.Script.{Said, Asked, holds, redundant}
use Rattle.flow_text.specs.Saying.{Says, Asks}
use Rattle.flow_workflow.specs.Definition.{Definition, schema_of}
use Rattle.flow_workflow.specs.declared.refusal.ExpandRefusal.TheVariants.{Recursive}
use Rattle.flow_expand.specs.Refusals.{IsRefusal}
use Rattle.flow_expand.specs.Constraints.{constraint_of}
use Rattle.flow_excise.specs.Executions.{TellOfAll}
use Rattle.flow_excise.specs.Compilation.{all_numbered}
use Rattle.flow_plan.specs.Compilation.{Compilation, IsCompiled}
use Rattle.flow_record.specs.declared.command.Command.{Command}
use Rattle.flow_policy.specs.declared.duty.Duty as roles
use Rattle.flow_policy.specs.Assigned.{Assigned}
use Rattle.flow_policy.specs.Policy.{IsPolicyOf}
use Rattle.flow_verify.specs.declared.answers.Verified.TheVariants.{Fails}
use Rattle.flow_verify.specs.declared.answers.Redundancy.TheVariants.{Needed}
use Rattle.flow_verify.specs.Verification.{TellsOfProperty, TellsOfConstraint}
use Rattle.flow_findings.specs.declared.refused.Refused.{Refused}
use Rattle.flow_findings.specs.declared.refused.Refused.TheVariants as refused
use Rattle.flow_findings.specs.Refusing.{refused_text, inconsistent_text}
use Rattle.flow_findings.specs.Judging.{verified_text, redundancy_text}
use Rattle.flow_words.specs.declared.request.Mode.{Mode}
use Rattle.flow_words.specs.declared.request.Mode.TheVariants.{Drive, Run, Check, Verify, Trace, Gen, Large, Duty, Audit}
use Rattle.flow_words.specs.declared.request.Request.{Request}
use Rattle.flow_words.specs.Words.{IsCall}
use Rattle.flow_front.specs.declared.status.Status.{Status}
use Rattle.flow_front.specs.declared.status.Status.TheVariants.{ReadFault}
use Rattle.flow_front.specs.Refusal.{workflow_part, second_part}
use Rattle.flow_front.specs.Prepared.{OfWorkflow}
use Rattle.flow_cli.specs.Finding.{Finding}
use Rattle.flow_cli.specs.Check.{FindsConsistent}
use Rattle.flow_cli.specs.Drive.{DrivesWorkflow}
use Rattle.flow_cli.specs.Trace.{FindsOfLeaves}
use Rattle.flow_cli.specs.Audit.{FindsOfJournals}
use Rattle.flow_cli.specs.Duty.{DrivesUsers}
use Rattle.flow_cli.specs.Output.{AsksNoGate, Writes}

-- ---- what is shown where any will do

-- each of the two outputs shows something that has P, and is the text of it
pub record EachShows {A : Type 0} (P : A → Type 0) (text_of : A → List ℕ) (output text : List ℕ) : Type 0 where
  pub one : A
  pub other : A
  pub one_has : P one
  pub other_has : P other
  pub output_is : output ≡ text_of one
  pub text_is : text ≡ text_of other

-- a chain of sub-workflows, the last of which is the first again
abbrev pub ShowsChain : Said → List ℕ → List ℕ → Type 0
ShowsChain s output text = EachShows (λ (chain : Vec (List ℕ) Global). IsRefusal s (Recursive chain)) (λ chain. refused_text [] (refused.Expand (Recursive chain))) output text

-- of each option, which all are dropped, a circle
abbrev pub ShowsCircles : Definition → List ℕ → List ℕ → Type 0
ShowsCircles w output text = EachShows (TellOfAll (all_numbered (schema_of w))) inconsistent_text output text

-- an execution that breaks the property
abbrev pub ShowsBreach : Definition → Constraint → List ℕ → List ℕ → Type 0
ShowsBreach w property output text =
    EachShows (λ (t : Vec ℕ Global). TellsOfProperty (schema_of w) property (Fails t)) (λ t. verified_text w (Fails t)) output text

-- an execution that meets the other constraints and breaks the one of that number
abbrev pub ShowsNeed : Definition → ℕ → List ℕ → List ℕ → Type 0
ShowsNeed w index output text =
    EachShows (λ (t : Vec ℕ Global). TellsOfConstraint (schema_of w) index (Needed t)) (λ t. redundancy_text w (Needed t)) output text

-- the execution that answers the question
abbrev pub ShowsExecution : Definition → Asked → List ℕ → List ℕ → Type 0
ShowsExecution w (holds property) output text = ShowsBreach w (constraint_of w.events property) output text
ShowsExecution w (redundant index) output text = ShowsNeed w index output text

-- a chain, or circles of the workflow
abbrev pub ShowsCause : Said → List ℕ → List ℕ → Type 0
ShowsCause s output text = ShowsChain s output text ⊎ OfWorkflow s (λ w. ShowsCircles w output text)

-- the text asks something of what is said, which has P
abbrev pub OfQuery : Said → List ℕ → (Asked → Type 0) → Type 0
OfQuery s text P = (query : Asked) × Asks text s query × P query

-- a chain, or an execution of the workflow
abbrev pub ShowsAsked : Said → Asked → List ℕ → List ℕ → Type 0
ShowsAsked s query output text = ShowsChain s output text ⊎ OfWorkflow s (λ w. ShowsExecution w query output text)

-- what the mode shows of what is said and of the text that follows
abbrev pub Shows : Mode → Said → List ℕ → List ℕ → List ℕ → Type 0
Shows Drive s second output text = ShowsCause s output text
Shows Check s second output text = ShowsCause s output text
Shows Trace s second output text = ShowsCause s output text
Shows Duty s second output text = ShowsCause s output text
Shows Audit s second output text = ShowsCause s output text
Shows Verify s second output text = OfQuery s second (λ query. ShowsAsked s query output text)
Shows Run s second output text = ⊥
Shows Gen s second output text = ⊥
Shows Large s second output text = ⊥

-- ---- two outputs

-- the words call for a mode that shows something of what is said
abbrev pub ShowsFor : List (List ℕ) → List ℕ → List ℕ → List ℕ → Type 0
ShowsFor words input output text =
    (request : Request) × IsCall words request × ((s : Said) × Says (workflow_part input) s × Shows request.mode s (second_part input) output text)

-- the status is the same, and the output too, but for what is shown
pub record Agree (words : List (List ℕ)) (input : List ℕ) (status other : Status) (output text : List ℕ) : Type 0 where
  pub status_is : status ≡ other
  pub output_is : (output ≡ text) ⊎ ShowsFor words input output text

-- ---- the laws

-- Where no tasks are performed, words and an input have one output, whatever the gate: where a source did not fail, two
-- outputs agree.
abbrev pub OutputsAreSingle : Type 0
OutputsAreSingle = (gives allows : Call → Outcome → Bool) (words : List (List ℕ)) (input : List ℕ) (status other : Status) (output text : List ℕ) →
    ((request : Request) → IsCall words request → AsksNoGate request.mode) → ¬ (status ≡ ReadFault) → ¬ (other ≡ ReadFault) →
    Writes gives words (Some input) status output → Writes allows words (Some input) other text →
    Agree words input status other output text

-- where it failed, in any mode, the output is that it did
abbrev pub FaultsAreTold : Type 0
FaultsAreTold = (gives : Call → Outcome → Bool) (words : List (List ℕ)) (input output : List ℕ) →
    Writes gives words (Some input) ReadFault output → output ≡ refused_text [] refused.Read

-- one thing alone may come of it
abbrev pub IsSingle : (Result Finding Refused → Type 0) → Type 0
IsSingle P = (one other : Result Finding Refused) → P one → P other → one ≡ other

-- Of a workflow that is compiled, whether a text says it or not, nothing is left open: where it is checked and found consistent,
abbrev pub ChecksAreSingle : Type 0
ChecksAreSingle = (w : Definition) → IsSingle (λ came. (c : Compilation) × IsCompiled (schema_of w) c × FindsConsistent w c came)

-- where a list of leaves is checked against it,
abbrev pub TracesAreSingle : Type 0
TracesAreSingle = (w : Definition) (leaves : List ℕ) → IsSingle (FindsOfLeaves w leaves)

-- where many journals are, whatever the number of workers,
abbrev pub AuditsAreSingle : Type 0
AuditsAreSingle = (w : Definition) (text : List ℕ) (cuts : List (ℕ × ℕ)) → IsSingle (FindsOfJournals w text cuts)

-- where it is driven by a session,
abbrev pub SessionsAreSingle : Type 0
SessionsAreSingle = (w : Definition) (steps : ℕ) (session : List Command) → IsSingle (DrivesWorkflow w steps session)

-- and where users drive it under a policy, whatever that is for.
abbrev pub DutySessionsAreSingle : Type 0
DutySessionsAreSingle = (w : Definition) (steps : ℕ) (text : List ℕ) (s : Said) (a : Assigned) → IsPolicyOf text s a → (session : List roles.Duty) →
    IsSingle (DrivesUsers w steps a session)
