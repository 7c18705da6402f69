-- What is so in no run of the plans is so in no run under the policy.
use Rattle.std.proofs.Common.{[], sym, subst, append-nil}
use Rattle.flow_model.specs.Duties.{Duties, DutiesHold}
use Rattle.flow_model.specs.Lists.{◌∈◌}
use Rattle.flow_model.specs.Schema.{Schema}
use Rattle.flow_model.specs.Takers.{takings_of}
use Rattle.flow_laws.specs.WellFormed.{IsWellFormed}
use Rattle.flow_workflow.specs.Definition.{Definition, schema_of}
use Rattle.flow_plan.specs.Compilation.{Compilation, IsCompiled}
use Rattle.flow_plan.specs.Sampled.{Sampled}
use Rattle.flow_core.specs.Run.{schema, now}
use Rattle.flow_policy.specs.Assigned.{Assigned}
use Rattle.flow_roles.specs.Desked.{Desked}
use Rattle.flow_case.specs.Ruled.{Ruled}
use Rattle.flow_stages.specs.declared.question.Question.{Question}
use Rattle.flow_stages.specs.declared.question.Question.TheVariants.{Both, Unmanned}
use Rattle.flow_stages.specs.Asked.{IsNeverSo}
use Rattle.flow_stages.proofs.Histories.{never_both, somebody_left}
use Rattle.flow_questions.specs.Questions.{IsRunUnder, IsNeverIn}

-- a search of all plans of the workflow has found nothing
pub record IsSearched (w : Schema) (d : Duties) (compiled : Compilation) (question : Question) : Type 0 where
  pub well_formed : IsWellFormed w
  pub compiled_so : IsCompiled w compiled
  pub never : (kept : Sampled) → kept ∈ compiled.plans → IsNeverSo w d kept.plan question

module _ (c : Ruled) (compiled : Compilation) (question : Question) (searched : IsSearched (schema c.desk.run) c.desk.assigned.duties compiled question) (d : Desked) (run : IsRunUnder c d) where
  same : IsSearched (schema d.run) d.assigned.duties compiled question
  same =
      subst (λ (a : Assigned). IsSearched (schema d.run) a.duties compiled question) (sym run.policy)
      (subst (λ (w : Definition). IsSearched (schema_of w) c.desk.assigned.duties compiled question) (sym run.workflow) searched)

  hold : DutiesHold (schema d.run) d.assigned.duties (now d.run) (takings_of d.run.history)
  hold = run.dutiful d.run.history ([], sym (append-nil d.run.history))

pub never_told : (c : Ruled) (compiled : Compilation) (question : Question) → IsSearched (schema c.desk.run) c.desk.assigned.duties compiled question → IsNeverIn c question
never_told c compiled (Both one two) searched = λ d run user (a, b).
    let s = same c compiled (Both one two) searched d run in
    never_both (schema d.run) s.well_formed compiled s.compiled_so d.assigned.duties d.run.limit d.run.history run.legal (hold c compiled (Both one two) searched d run) one two user s.never a b
never_told c compiled Unmanned searched = λ d run leaf event can of.
    let s = same c compiled Unmanned searched d run in
    somebody_left (schema d.run) s.well_formed compiled s.compiled_so d.assigned.duties d.run.limit d.run.history run.legal (hold c compiled Unmanned searched d run) s.never leaf event can of
