-- What `verify` finds.
use Rattle.std.specs.Prelude.{◌≡◌, ℕ, List, Some, Result, Ok, slice_get}
use Rattle.flow_model.specs.Constraint.{Constraint}
use Rattle.flow_form.specs.Script.{Said, Asked, holds, redundant}
use Rattle.flow_text.specs.Saying.{Asks}
use Rattle.flow_workflow.specs.Definition.{Definition, schema_of}
use Rattle.flow_expand.specs.Constraints.{constraint_of}
use Rattle.flow_expand.specs.Workflows.{IsExpanded}
use Rattle.flow_plan.specs.Compilation.{IsWithinLimits}
use Rattle.flow_excise.specs.declared.refusal.CompileRefusal.TheVariants as compilation
use Rattle.flow_verify.specs.declared.answers.Verified.{Verified}
use Rattle.flow_verify.specs.declared.answers.Redundancy.{Redundancy}
use Rattle.flow_verify.specs.declared.refusal.VerifyRefusal.{VerifyRefusal}
use Rattle.flow_verify.specs.declared.refusal.VerifyRefusal.TheVariants.{TooManyChoices, TooManyWays, TooBulky, NoRule, NoMemory}
use Rattle.flow_verify.specs.Verification.{against, without, TellsOfProperty, TellsOfConstraint}
use Rattle.flow_findings.specs.declared.refused.Refused.{Refused}
use Rattle.flow_findings.specs.declared.refused.Refused.TheVariants as refused
use Rattle.flow_front.specs.declared.stop.Stop.{Stop}
use Rattle.flow_front.specs.declared.stop.Stop.TheVariants as stop
use Rattle.flow_front.specs.Refusal.{the_query, the_script, the_index, the_question}
use Rattle.flow_front.specs.Stages.{Then}
use Rattle.flow_cli.specs.Finding.{Finding, verified, tried}

-- why nothing is told of a property or a constraint, as what stops the call
abbrev pub question_stop : VerifyRefusal → Stop
question_stop (TooManyChoices count) = stop.Refused (refused.Compile (compilation.TooManyChoices count))
question_stop (TooManyWays count) = stop.Refused (refused.Compile (compilation.TooManyWays count))
question_stop (TooBulky count) = stop.Refused (refused.Compile (compilation.TooBulky count))
question_stop (NoRule index) = stop.Refused (refused.NoRule index)
question_stop NoMemory = stop.NoMemory

-- Whether each execution meets the property; if not, one in event order that breaks it. The workflow is compiled with the negation of
-- the property as one constraint more; one that has no execution meets every property.
abbrev pub VerifiesProperty : Definition → Constraint → Result Finding Refused → Type 0
VerifiesProperty w property came = Then (the_question (against (schema_of w) property))
    (λ (told : Verified). IsWithinLimits (against (schema_of w) property) × TellsOfProperty (schema_of w) property told)
    (λ told came. came ≡ Ok (verified w told)) came

-- Whether the constraint of that number, which is this, follows from the others; if not, an execution in event order that meets these and
-- breaks it. The others are compiled with its negation as one more.
abbrev pub TriesConstraint : Definition → ℕ → Constraint → Result Finding Refused → Type 0
TriesConstraint w index rule came = Then (the_question (against (without (schema_of w) index) rule))
    (λ (told : Redundancy). IsWithinLimits (against (without (schema_of w) index) rule) × TellsOfConstraint (schema_of w) index told)
    (λ told came. came ≡ Ok (tried w told)) came

abbrev pub VerifiesConstraint : Definition → ℕ → Result Finding Refused → Type 0
VerifiesConstraint w index came = Then (the_index w index) (λ rule. slice_get w.rules index ≡ Some rule) (TriesConstraint w index) came

abbrev pub VerifiesWorkflow : Definition → Asked → Result Finding Refused → Type 0
VerifiesWorkflow w (holds property) came = VerifiesProperty w (constraint_of w.events property) came
VerifiesWorkflow w (redundant index) came = VerifiesConstraint w index came

abbrev pub VerifiesSaid : Said → Asked → Result Finding Refused → Type 0
VerifiesSaid s query came = Then (the_script s) (IsExpanded s) (λ w. VerifiesWorkflow w query) came

-- the text is the query, which is read before what is said is expanded
abbrev pub VerifiesText : Said → List ℕ → Result Finding Refused → Type 0
VerifiesText s text came = Then (the_query s text) (Asks text s) (VerifiesSaid s) came
