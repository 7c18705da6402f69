-- What a search of all plans tells of a case.
use Rattle.std.proofs.Common.{◌≡◌, ℕ, List, sym, subst}
use Rattle.flow_laws.specs.WellFormed.{IsWellFormed}
use Rattle.flow_workflow.specs.Definition.{Definition, schema_of}
use Rattle.flow_plan.specs.Compilation.{Compilation, IsCompiled}
use Rattle.flow_core.specs.Run.{schema}
use Rattle.flow_policy.specs.Assigned.{Assigned}
use Rattle.flow_case.specs.Ruled.{Ruled}
use Rattle.flow_stages.specs.declared.question.Question.{Question}
use Rattle.flow_stages.specs.declared.search.Searched.{Searched}
use Rattle.flow_stages.specs.declared.search.Searched.TheVariants.{Nothing, Shown, Spent}
use Rattle.flow_stages.specs.Asked.{IsShown}
use Rattle.flow_stages.specs.Found.{TellsOf}
use Rattle.flow_questions.specs.Questions.{IsRunOfSame, IsFoundBy, IsFoundIn, LooksIn}
use Rattle.flow_questions.proofs.NeverLemmas.{never_told}

pub looked : (c : Ruled) (compiled : Compilation) (question : Question) (left : ℕ) (found : Searched) → IsCompiled (schema c.desk.run) compiled → IsWellFormed (schema c.desk.run) →
    TellsOf (schema c.desk.run) c.desk.assigned.duties compiled.plans question left found → LooksIn c question left found
looked c compiled question left Nothing so well_formed never = never_told c compiled question (record { well_formed = well_formed; compiled_so = so; never = never })
looked c compiled question left (Shown leaves takers event) so well_formed (kept, of, shown) = record {
  compilation = compiled;
  compiled = so;
  kept = kept;
  of = of;
  shown = shown;
}
looked c compiled question left Spent so well_formed spent = spent

-- what is found of a case is found of a later run of the same case
pub found_by_still : (old new : Ruled) (question : Question) (leaves : List ℕ) (takers : List (ℕ × ℕ)) (event : ℕ) → IsRunOfSame old new →
    IsFoundBy old question leaves takers event → IsFoundBy new question leaves takers event
found_by_still old new question leaves takers event (definition, assigned) f = record {
  compilation = f.compilation;
  compiled = subst (λ (d : Definition). IsCompiled (schema_of d) f.compilation) (sym definition) f.compiled;
  kept = f.kept;
  of = f.of;
  shown =
      subst (λ (d : Definition). IsShown (schema_of d) new.desk.assigned.duties f.kept.plan question leaves takers event) (sym definition)
      (subst (λ (a : Assigned). IsShown (schema_of old.desk.run.definition) a.duties f.kept.plan question leaves takers event) (sym assigned) f.shown);
}

pub found_still : (old new : Ruled) (question : Question) (leaves : List ℕ) (takers : List (ℕ × ℕ)) (event : ℕ) → IsRunOfSame old new →
    IsFoundBy old question leaves takers event → IsFoundIn new question
found_still old new question leaves takers event same f = (leaves, takers, event, found_by_still old new question leaves takers event same f)
