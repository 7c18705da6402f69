-- What is asked of all executions, and what is told of them.
use Rattle.std.proofs.Common.{◌≡◌, ◌≤◌, ◌∙◌, ℕ, List, length, slice_get, Some, Ok, Err, refl, sym, ap, subst, inl, inr}
use Rattle.std.proofs.lemmas.Option.{slice_get_cases}
use Rattle.flow_model.specs.Lists.{Each}
use Rattle.flow_model.specs.Constraint.{Constraint}
use Rattle.flow_model.specs.Schema.{Schema}
use Rattle.flow_form.specs.declared.query.Query.{Query}
use Rattle.flow_form.specs.declared.query.Query.TheVariants as query
use Rattle.flow_form.specs.declared.rule_form.RuleForm.{RuleForm}
use Rattle.flow_form.specs.Script.{asked}
use Rattle.flow_form.specs.RuleForm.{rule_shape_of}
use Rattle.flow_form.specs.Names.{names_in_rule}
use Rattle.flow_grammar.specs.Roles.{used_in_rules, query_roles}
use Rattle.flow_grammar.proofs.RolesOfNames.{of_rules}
use Rattle.flow_workflow.specs.Definition.{Definition, schema_of}
use Rattle.flow_plan.specs.Compilation.{IsWithinLimits}
use Rattle.flow_verify.specs.declared.answers.Redundancy.{Redundancy}
use Rattle.flow_verify.specs.declared.refusal.VerifyRefusal.{VerifyRefusal}
use Rattle.flow_verify.specs.declared.refusal.VerifyRefusal.TheVariants.{TooManyChoices, TooManyWays, TooBulky, NoRule, NoMemory}
use Rattle.flow_verify.specs.Verification.{against, without, TellsOfConstraint, IsRefused}
use Rattle.flow_findings.specs.declared.refused.Refused.TheVariants as refused
use Rattle.flow_front.specs.declared.output.Output.{Output}
use Rattle.flow_front.specs.declared.stop.Stop.{Stop}
use Rattle.flow_front.specs.Stop.{IsStop}
use Rattle.flow_front.specs.Refusal.{the_index, the_question, IsCause}
use Rattle.flow_front.proofs.Stages.{goes_on, stops}
use Rattle.flow_why_cli.specs.declared.telling.Form.{Form}
use Rattle.flow_run_why_cli.specs.Told.{IsOutputOf, Tells}
use Rattle.flow_run_why_cli.specs.Query.{question_stop, answer_of_constraint, TriesConstraint, VerifiesConstraint}

-- the names of a property are those that its query uses
pub names_used : (P : List ℕ → Type 0) (q : Query) (r : RuleForm) → q ≡ query.Holds r → Each P (used_in_rules (query_roles (asked q))) →
    Each P (names_in_rule (rule_shape_of r))
names_used P q r is h =
    subst (λ (ns : List (List ℕ)). Each P ns) (of_rules (names_in_rule (rule_shape_of r))).2
    (subst (λ (a : Query). Each P (used_in_rules (query_roles (asked a)))) is h)

-- why nothing is told of a question
pub questioned : (w : Schema) (r : VerifyRefusal) → IsRefused w r → IsStop (IsCause (the_question w)) (question_stop r)
questioned w (TooManyChoices n) h = (tt, h)
questioned w (TooManyWays n) h = (tt, h)
questioned w (TooBulky n) h = (tt, h)
questioned w (NoRule index) h = absurd h
questioned w NoMemory h = tt

-- what is told of a constraint that there is
pub found_needed : (form : Form) (w : Definition) (index : ℕ) (r : Redundancy) (output : Output) → ¬ (length w.rules ≤ index) →
    ((rule : Constraint) → slice_get w.rules index ≡ Some rule → IsWithinLimits (against (without (schema_of w) index) rule)) →
    TellsOfConstraint (schema_of w) index r → IsOutputOf form output (answer_of_constraint w r) → Tells form (VerifiesConstraint w index) (Ok output)
found_needed form w index r output some within told is = elim (slice_get_cases w.rules index).1 [
  | inl (rule, there, at, read) ↦ (answer_of_constraint w r, inr (rule, at, inr (r, (within rule at, told), refl)), is)
  | inr (past, none) ↦ absurd (some past)
]

-- why nothing is told of a constraint: there is none of that number, or the workflow is too large with its negation
pub none_needed : (form : Form) (w : Definition) (index : ℕ) (refusal : VerifyRefusal) → (length w.rules ≤ index → refusal ≡ NoRule index) →
    ((rule : Constraint) → slice_get w.rules index ≡ Some rule → IsRefused (against (without (schema_of w) index) rule) refusal) →
    (why : Stop) → why ≡ question_stop refusal → Tells form (VerifiesConstraint w index) (Err why)
none_needed form w index refusal none first why is = elim (slice_get_cases w.rules index).1 [
  | inl (rule, there, at, read) ↦
      goes_on (IsOutputOf form) (the_index w index) (λ rule. slice_get w.rules index ≡ Some rule) (TriesConstraint w index) rule (Err why) at
      (stops (IsOutputOf form) (the_question (against (without (schema_of w) index) rule))
      (λ (told : Redundancy). IsWithinLimits (against (without (schema_of w) index) rule) × TellsOfConstraint (schema_of w) index told)
      (λ told came. came ≡ Ok (answer_of_constraint w told)) why
      (subst (IsStop (IsCause (the_question (against (without (schema_of w) index) rule)))) (sym is) (questioned (against (without (schema_of w) index) rule) refusal (first rule at))))
  | inr (past, missing) ↦
      subst (λ (e : Stop). Tells form (VerifiesConstraint w index) (Err e)) (sym (is ∙ ap question_stop (none past))) (inl (refused.NoRule index, (refl, past), refl))
]
