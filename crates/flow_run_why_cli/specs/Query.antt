-- What is told of a query: the refusals come in the order of `flow verify`, and the status and the first lines are its.
use Rattle.std.specs.Prelude.{◌≡◌, ℕ, List, Some, Result, Ok, slice_get}
use Rattle.flow_model.specs.Constraint.{Constraint}
use Rattle.flow_form.specs.Script.{Said, Asked, holds, redundant}
use Rattle.flow_text.specs.Saying.{Asks}
use Rattle.flow_workflow.specs.Definition.{Definition, schema_of}
use Rattle.flow_expand.specs.Constraints.{constraint_of}
use Rattle.flow_expand.specs.Workflows.{IsExpanded}
use Rattle.flow_plan.specs.Compilation.{IsWithinLimits}
use Rattle.flow_excise.specs.declared.refusal.CompileRefusal.TheVariants as compilation
use Rattle.flow_verify.specs.declared.answers.Verified.{Verified}
use Rattle.flow_verify.specs.declared.answers.Verified.TheVariants.{Holds, Fails}
use Rattle.flow_verify.specs.declared.answers.Redundancy.{Redundancy}
use Rattle.flow_verify.specs.declared.answers.Redundancy.TheVariants.{Redundant, Needed}
use Rattle.flow_verify.specs.declared.refusal.VerifyRefusal.{VerifyRefusal}
use Rattle.flow_verify.specs.declared.refusal.VerifyRefusal.TheVariants.{TooManyChoices, TooManyWays, TooBulky, NoRule, NoMemory}
use Rattle.flow_verify.specs.Verification.{against, without, TellsOfProperty, TellsOfConstraint}
use Rattle.flow_findings.specs.declared.refused.Refused.{Refused}
use Rattle.flow_findings.specs.declared.refused.Refused.TheVariants as refused
use Rattle.flow_findings.specs.Judging.{verified_text, redundancy_text}
use Rattle.flow_front.specs.declared.status.Status.{Status}
use Rattle.flow_front.specs.declared.status.Status.TheVariants.{Fine, No}
use Rattle.flow_front.specs.declared.stop.Stop.{Stop}
use Rattle.flow_front.specs.declared.stop.Stop.TheVariants as stop
use Rattle.flow_front.specs.Refusal.{the_query, the_script, the_index, the_question}
use Rattle.flow_front.specs.Stages.{Then}
use Rattle.flow_run_why_cli.specs.Told.{Answer}

-- fine where it holds, or follows from the others
abbrev pub status_of_verified : Verified → Status
status_of_verified Holds = Fine
status_of_verified (Fails t) = No

abbrev pub status_of_redundancy : Redundancy → Status
status_of_redundancy Redundant = Fine
status_of_redundancy (Needed t) = No

-- why nothing is told of a property or a constraint, as what stops the call
abbrev pub question_stop : VerifyRefusal → Stop
question_stop (TooManyChoices count) = stop.Refused (refused.Compile (compilation.TooManyChoices count))
question_stop (TooManyWays count) = stop.Refused (refused.Compile (compilation.TooManyWays count))
question_stop (TooBulky count) = stop.Refused (refused.Compile (compilation.TooBulky count))
question_stop (NoRule index) = stop.Refused (refused.NoRule index)
question_stop NoMemory = stop.NoMemory

-- what flow tells of a property, and of a constraint
abbrev pub answer_of_property : Definition → Verified → Answer
answer_of_property w told = record { status = status_of_verified told; front = verified_text w told }

abbrev pub answer_of_constraint : Definition → Redundancy → Answer
answer_of_constraint w told = record { status = status_of_redundancy told; front = redundancy_text w told }

-- whether each execution meets the property: the workflow is compiled with the negation of the property as one constraint more
abbrev pub VerifiesProperty : Definition → Constraint → Result Answer Refused → Type 0
VerifiesProperty w property came = Then (the_question (against (schema_of w) property))
    (λ (told : Verified). IsWithinLimits (against (schema_of w) property) × TellsOfProperty (schema_of w) property told)
    (λ told came. came ≡ Ok (answer_of_property w told)) came

-- whether the constraint of that number follows from the others: these are compiled with its negation as one more
abbrev pub TriesConstraint : Definition → ℕ → Constraint → Result Answer Refused → Type 0
TriesConstraint w index rule came = Then (the_question (against (without (schema_of w) index) rule))
    (λ (told : Redundancy). IsWithinLimits (against (without (schema_of w) index) rule) × TellsOfConstraint (schema_of w) index told)
    (λ told came. came ≡ Ok (answer_of_constraint w told)) came

abbrev pub VerifiesConstraint : Definition → ℕ → Result Answer Refused → Type 0
VerifiesConstraint w index came = Then (the_index w index) (λ rule. slice_get w.rules index ≡ Some rule) (TriesConstraint w index) came

abbrev pub VerifiesWorkflow : Definition → Asked → Result Answer Refused → Type 0
VerifiesWorkflow w (holds property) came = VerifiesProperty w (constraint_of w.events property) came
VerifiesWorkflow w (redundant index) came = VerifiesConstraint w index came

abbrev pub VerifiesSaid : Said → Asked → Result Answer Refused → Type 0
VerifiesSaid s query came = Then (the_script s) (IsExpanded s) (λ w. VerifiesWorkflow w query) came

-- the query is read before what is said is expanded
abbrev pub VerifiesText : List ℕ → Said → Result Answer Refused → Type 0
VerifiesText text s came = Then (the_query s text) (Asks text s) (VerifiesSaid s) came
